-- The lines of a survey, one behind the other, are the text of its faults. Assumes nothing.
use mathlib.Core.Path.{◌≡◌, refl, sym, ap, ap₂, ◌∙◌}
use mathlib.Core.List.{List, [], ◌∷◌, ◌++◌, append_assoc, append-nil}
use Prim.Native.Nat.{ℕ, zero, suc, ◌+◌, ◌*◌, ◌-◌, ◌/◌, ◌≤◌, ◌<◌}
use native.Mathlib.Omega.{arith}
use lib.ListN.{length, take, drop, length-append}
use lib.Seq.{take_at, drop-append-add}
use borrow.Author.Tests.{eq-eqb, ne_eqb, le-ltb}
use Rattle.base.specs.Run.{run}
use Rattle.base.proofs.Cases.{by_eq}
use Rattle.base.proofs.Picks.{pick_true, pick_false}
use Rattle.base.proofs.Runs.{run_same, run_none, run_split}
use Rattle.paper.specs.declared.Fault.{Fault}
use Rattle.paper.specs.declared.Survey.{Survey}
use Rattle.rules_surveys.specs.Records.{numbers, width, flat, room, kept, after}
use Rattle.rules_surveys.specs.Survey.{survey_answer, refusal}
use Rattle.rules_surveys.proofs.Records.{numbers_length, flat_length, kept_length}
use Rattle.text.specs.Lines.{line_of}
use Rattle.report.proofs.Ways.{at_record, at_totals, at_end, at_refusal, at_none}
use Rattle.report.specs.Printed.{record_line, totals_line, refusal_line, line_at, fault_lines, survey_text}

-- ---- a run of lines

run_first : (f : ℕ → List ℕ) (m : ℕ) → run f (suc m) ≡ f 0 ++ run (λ (i : ℕ). f (suc i)) m
unfolding run
run_first f zero = sym (append-nil (f 0))
run_first f (suc m) = ap (λ (l : List ℕ). l ++ f (suc m)) (run_first f m) ∙ append_assoc (f 0) (run (λ (i : ℕ). f (suc i)) m) (f (suc m))

-- one line, and nothing behind it
run_one : (f : ℕ → List ℕ) (m : ℕ) (text : List ℕ) → f 0 ≡ text → ((i : ℕ) → f (suc i) ≡ []) → run f (suc m) ≡ text
run_one f m text e n = run_first f m ∙ ap (λ (l : List ℕ). f 0 ++ l) (run_none (λ (i : ℕ). f (suc i)) m (λ i _. n i)) ∙ append-nil (f 0) ∙ e

-- ---- the records

abbrev line_of_record : List ℕ → ℕ → List ℕ
line_of_record list i = line_of 0x46 (take width (drop (width * i) list))

records_text : (fs : List Fault) (rest : List ℕ) → run (line_of_record (flat fs ++ rest)) (length fs) ≡ fault_lines fs
unfolding run flat fault_lines numbers
records_text [] rest = refl
records_text (f ∷ fs) rest =
    let later = flat fs ++ rest in
    let behind : (i : ℕ) → drop (width * suc i) (numbers f ++ later) ≡ drop (width * i) later =
    λ i. let e : width * suc i ≡ length (numbers f) + width * i = omega (arith, numbers_length f) in rw e (drop-append-add (numbers f) later (width * i)) in
    rw append_assoc
    (run_first (line_of_record (numbers f ++ later)) (length fs)
    ∙ ap₂ (λ (a b : List ℕ). a ++ b)
    (ap (line_of 0x46) (take_at (numbers f) later width (numbers_length f)))
    (run_same _ (line_of_record later) (length fs) (λ i _. ap (λ (l : List ℕ). line_of 0x46 (take width l)) (behind i)) ∙ records_text fs rest))

-- ---- all lines

module _ (fs : List Fault) (list₀ list : List ℕ) (s : Survey) where
  module _ (es : s ≡ record { number = 0; total = length fs; kept = length (kept list₀ fs) }) (el : list ≡ after list₀ fs) where
    number_is : s.number ≡ 0
    number_is = ap (λ (x : Survey). x.number) es

    kept_is : s.kept ≡ length (kept list₀ fs)
    kept_is = ap (λ (x : Survey). x.kept) es

    line_record_is : (i : ℕ) → i < length (kept list₀ fs) → line_at s list i ≡ line_of_record list i
    unfolding record_line after
    line_record_is i l =
        let both = length-append (flat (kept list₀ fs)) (drop (width * length (kept list₀ fs)) list₀) in
        let long : width * i + width ≤ length list = omega (arith, ap length el, both, flat_length (kept list₀ fs)) in
        let l' : i < s.kept = omega (arith, kept_is) in
        at_record s list i number_is l' ∙ pick_false _ _ (le-ltb _ _ long)

    line_totals_is : line_at s list (length (kept list₀ fs)) ≡ totals_line (length fs) (length (kept list₀ fs))
    line_totals_is = at_totals s list (length (kept list₀ fs)) number_is (sym kept_is) ∙ rw (kept_is, ap (λ (x : Survey). x.total) es) refl

    line_past_is : (i : ℕ) → length (kept list₀ fs) < i → line_at s list i ≡ []
    line_past_is i l = let l' : s.kept < i = omega (arith, kept_is) in at_end s list i number_is l'

    lines_surveyed : (m : ℕ) → run (line_at s list) (length (kept list₀ fs) + suc m) ≡ fault_lines (kept list₀ fs) ++ totals_line (length fs) (length (kept list₀ fs))
    unfolding after
    lines_surveyed m =
        let n = length (kept list₀ fs) in
        let zero_at : n + 0 ≡ n = omega arith in
        run_split (line_at s list) n (suc m)
        ∙ ap (λ (l : List ℕ). l ++ run (λ (i : ℕ). line_at s list (n + i)) (suc m))
        (run_same (line_at s list) (line_of_record list) n line_record_is
        ∙ ap (λ (l : List ℕ). run (line_of_record l) n) el
        ∙ records_text (kept list₀ fs) (drop (width * n) list₀))
        ∙ ap (λ (l : List ℕ). fault_lines (kept list₀ fs) ++ l)
        (run_one (λ (i : ℕ). line_at s list (n + i)) m _ (rw zero_at line_totals_is) (λ i. line_past_is (n + suc i) (omega arith)))

  lines_refused : (number m : ℕ) → (number ≡ 0 → ⊥) → s ≡ refusal number → run (line_at s list) (suc m) ≡ refusal_line number
  lines_refused number m d es =
      let n : s.number ≡ number = ap (λ (x : Survey). x.number) es in
      let d' : s.number ≡ 0 → ⊥ = λ z. d (sym n ∙ z) in
      run_one (line_at s list) m (refusal_line number)
      (at_refusal s list 0 d' refl ∙ ap refusal_line n)
      (λ i. let e : suc i ≡ 0 → ⊥ = λ z. omega arith in at_none s list (suc i) d' e)

-- the lines of a survey's answer and list are its text, with a line for each record that there is room for and one more
pub lines_text : (number : ℕ) (fs : List Fault) (list₀ list : List ℕ) (s : Survey) (m : ℕ) → length list₀ / width < m → s ≡ survey_answer number fs list₀
    → (s.number ≡ 0 → list ≡ after list₀ fs) → run (line_at s list) m ≡ survey_text (length list₀ / width) number fs
unfolding survey_text survey_answer kept room
lines_text number fs list₀ list s m l es el =
    by_eq number 0
    (λ z.
    let is : s ≡ record { number = 0; total = length fs; kept = length (kept list₀ fs) } = es ∙ pick_true _ _ (eq-eqb _ _ z) in
    let few : length (kept list₀ fs) ≤ length list₀ / width = omega (arith, kept_length list₀ fs) in
    let e : m ≡ length (kept list₀ fs) + suc (m - length (kept list₀ fs) - 1) = omega arith in
    rw e (lines_surveyed fs list₀ list s is (el (ap (λ (x : Survey). x.number) is)) (m - length (kept list₀ fs) - 1)) ∙ sym (pick_true _ _ (eq-eqb _ _ z)))
    (λ d.
    let e : m ≡ suc (m - 1) = omega arith in
    rw e (lines_refused fs list₀ list s number (m - 1) d (es ∙ pick_false _ _ (ne_eqb _ _ d))) ∙ sym (pick_false _ _ (ne_eqb _ _ d)))
