-- What is known of the bytes so far, and of one part more. Assumes nothing.
use Rattle.std.specs.Prelude.{Some}
use mathlib.Core.Path.{◌≡◌, refl, sym, ap, ◌∙◌}
use mathlib.Core.Bool.{Bool, true, false}
use mathlib.Core.List.{List, [], ◌∷◌, ◌++◌}
use Prim.Native.Nat.{ℕ, zero, suc, ◌+◌, ◌*◌, ◌/◌, ◌%◌, ◌≤◌, ◌<◌, min}
use native.Mathlib.Nat.{div-add-mod, div-lt_iff_lt-mul, le-div_iff_mul-le, mod-lt, min-eq_left, min-eq_right, zero-min}
use native.Mathlib.Omega.{arith}
use lib.ListN.{length, take, drop, get_or, length-append, length-drop, get_or-append}
use lib.Seq.{length-take-le, take-append-le, drop-append-le, drop_at, take_all}
use borrow.Author.Tests.{eq-eqb, ne_eqb, le-leb}
use Rattle.base.specs.Run.{run}
use Rattle.base.specs.Calls.{ExactlyOne}
use Rattle.base.proofs.Cases.{by_eq, by_lt}
use Rattle.base.proofs.Picks.{pick_true, pick_false}
use Rattle.base.proofs.Runs.{run_zero, run_same, run_length_le}
use Rattle.paper.specs.declared.System.{System}
use Rattle.paper.specs.declared.System.TheVariants.{I50}
use Rattle.rules_format.specs.Systems.{sequences_of}
use Rattle.rules_format.specs.Blocks.{sequence_at}
use Rattle.rules_surveys.specs.FaultLists.{sequence_faults}
use Rattle.rules_surveys.specs.Noting.{Noted, more}
use Rattle.rules_surveys.specs.Survey.{outside_sequences}
use Rattle.rules_format.proofs.Systems.{sequences_some, sequences_le}
use Rattle.rules_surveys.proofs.FaultLists.{sequence_faults_le}
use Rattle.rules_surveys.proofs.Records.{noted_none, noted_turn}
use Rattle.fault_list.specs.declared.list.FaultList.{FaultList}
use Rattle.fault_list.specs.Asked.{next_faults}
use Rattle.fault_list.specs.Listed.{NotedIn}
use Rattle.fault_list.proofs.Listing.{in_noted}
use Rattle.fault_list.proofs.Next.{next_inside, none_outside, none_length}
use Rattle.stream.specs.declared.Reading.{Reading}
use Rattle.stream.specs.Input.{of_rate, system_from, nth_faults, read_faults, counted_to, Read, nothing, system_after, next_system, faults_after, Next, Refilled}

-- ---- the count

pub count_small : (a : ℕ) → a ≤ 1000000 → min a 1000000 ≡ a
count_small a l = min-eq_left l

pub count_large : (a : ℕ) → 1000000 ≤ a → min a 1000000 ≡ 1000000
count_large a l = min-eq_right l

count_more : (a b : ℕ) → min (min a 1000000 + b) 1000000 ≡ min (a + b) 1000000
count_more a b =
    by_lt a 1000000
    (λ l. let h : a ≤ 1000000 = omega arith in rw (count_small a h) refl)
    (λ l. rw (count_large a l) (count_large (1000000 + b) (omega arith) ∙ sym (count_large (a + b) (omega arith))))

-- ---- the k-th sequence

module _ (y : System) where
  -- it stands at 12,000·k
  nth_part : (bytes : List ℕ) (k : ℕ) → sequence_at y bytes (k / sequences_of y) (k % sequences_of y) ≡ take 12000 (drop (k * 12000) bytes)
  unfolding sequence_at
  nth_part bytes k = rw (div-add-mod k (sequences_of y)) refl

  module _ (bytes part : List ℕ) (k : ℕ) (many : length bytes ≡ 12000 * k) where
    -- bytes behind it change nothing
    nth_before : (j : ℕ) → j < k → nth_faults y (bytes ++ part) j ≡ nth_faults y bytes j
    nth_before j l =
        let a : j * 12000 ≤ length bytes = omega arith in
        let b : 12000 ≤ length (drop (j * 12000) bytes) = omega (arith, length-drop (j * 12000) bytes) in
        ap (λ (p : List ℕ). sequence_faults p (j / sequences_of y) (j % sequences_of y))
        (nth_part (bytes ++ part) j
        ∙ ap (take 12000) (drop-append-le (j * 12000) bytes part a)
        ∙ take-append-le 12000 (drop (j * 12000) bytes) part b
        ∙ sym (nth_part bytes j))

    nth_last : length part ≡ 12000 → nth_faults y (bytes ++ part) k ≡ sequence_faults part (k / sequences_of y) (k % sequences_of y)
    nth_last e =
        ap (λ (p : List ℕ). sequence_faults p (k / sequences_of y) (k % sequences_of y))
        (nth_part (bytes ++ part) k ∙ ap (take 12000) (drop_at bytes part (k * 12000) (omega arith)) ∙ take_all 12000 part (omega arith))

    -- of the sequences that stand whole before it none changes
    before_same : (m : ℕ) → m ≤ k → run (nth_faults y (bytes ++ part)) m ≡ run (nth_faults y bytes) m
    before_same m l = run_same (nth_faults y (bytes ++ part)) (nth_faults y bytes) m (λ j h. nth_before j (omega arith))

-- ---- the system

pub rate_other : (dsf : ℕ) → (dsf ≡ 0 → ⊥) → I50 ≡ of_rate dsf
rate_other zero d = absurd (d refl)
rate_other (suc k) d = refl

pub system_first : (count : ℕ) (y : System) (part : List ℕ) (b w : ℕ) (r : System) → count ≡ 0 → b ≡ get_or part 3 0 → b < 256 → w ≡ b → r ≡ of_rate (w / 128) → r ≡ system_after count y part
unfolding system_after system_from
system_first count y part b w r z eb lb ew er =
    let e : w / 128 ≡ get_or part 3 0 / 128 % 2 = omega (arith, eb, ew, lb) in
    er ∙ ap of_rate e ∙ sym (pick_true _ _ (eq-eqb _ _ z))

pub system_later : (count : ℕ) (y : System) (part : List ℕ) → (count ≡ 0 → ⊥) → y ≡ system_after count y part
unfolding system_after
system_later count y part d = sym (pick_false _ _ (ne_eqb _ _ d))

module _ (bytes part : List ℕ) where
  system_kept : 3 < length bytes → system_from (bytes ++ part) ≡ system_from bytes
  unfolding system_from
  system_kept l = ap (λ (b : ℕ). of_rate (b / 128 % 2)) (get_or-append bytes part 0 3 l)

  system_next : (r : Reading) → length bytes % 12000 ≡ 0 → r.system ≡ system_from bytes → r.count ≡ min (length bytes) counted_to → next_system r part ≡ system_from (bytes ++ part)
  unfolding system_after
  system_next r w es ec =
      by_eq (length bytes) 0
      (λ z. pick_true _ _ (eq-eqb _ _ (ec ∙ ap (λ (a : ℕ). min a 1000000) z)) ∙ ap system_from (sym (none bytes z)))
      (λ d.
      let l : 3 < length bytes = omega (arith, d) in
      pick_false _ _ (ne_eqb _ _ (λ z. by_lt (length bytes) 1000000
      (λ h. let h' : length bytes ≤ 1000000 = omega arith in d (sym (count_small (length bytes) h') ∙ sym ec ∙ z))
      (λ h. absurd (omega (arith, count_large (length bytes) h, ec, z)))))
      ∙ es ∙ sym (system_kept l))
    where
      none : (xs : List ℕ) → length xs ≡ 0 → xs ++ part ≡ part
      none [] e = refl
      none (x ∷ xs) e = absurd (omega arith)

-- ---- the faults

-- the faults so far are the same in every system of the first block's rate, where there is no first block too
sofar : (y : System) (bytes part : List ℕ) (k : ℕ) → length bytes ≡ 12000 * k → y ≡ system_from (bytes ++ part)
    → read_faults (system_from bytes) bytes ≡ run (nth_faults y (bytes ++ part)) (min k (4 * sequences_of y))
unfolding read_faults
sofar y bytes part zero many e =
    let z : length bytes / 12000 ≡ 0 = omega arith in
    rw (z, zero-min (4 * sequences_of (system_from bytes)), zero-min (4 * sequences_of y), run_zero (nth_faults (system_from bytes) bytes), run_zero (nth_faults y (bytes ++ part))) refl
sofar y bytes part (suc k) many e =
    let l : 3 < length bytes = omega arith in
    let s : system_from bytes ≡ y = sym (e ∙ system_kept bytes part l) in
    let d : length bytes / 12000 ≡ suc k = omega arith in
    rw (s, d) (sym (before_same y bytes part (suc k) many (min (suc k) (4 * sequences_of y)) (min_left (suc k) (4 * sequences_of y))))
  where
    min_left : (a b : ℕ) → min a b ≤ a
    min_left a b = by_lt a b (λ l. let h : a ≤ b = omega arith in omega (arith, min-eq_left h)) (λ g. omega (arith, min-eq_right g))

-- nothing is noted
noted_same : {list list' : List ℕ} {t u : ℕ} → Noted list t [] list' u → (list' ≡ list) × (u ≡ t)
unfolding more
noted_same n = (n.left, omega (arith, n.total))

-- at most 150 a sequence
few : (y : System) (bytes : List ℕ) (k : ℕ) → length (run (nth_faults y bytes) k) ≤ k * 150
few y bytes k = run_length_le (nth_faults y bytes) 150 k (λ j. sequence_faults_le _ (j / sequences_of y) (j % sequences_of y))

-- ---- one part more

module _ (y : System) (list₀ bytes part list list' : List ℕ) (k c t u : ℕ) (many : length bytes ≡ 12000 * k) (ey : y ≡ system_from (bytes ++ part)) (ec : c ≡ min (length bytes) 1000000)
    (n : Noted list₀ 0 (read_faults (system_from bytes) bytes) list t) (a : Noted list t (faults_after y (c / 12000) part t) list' u) where
  so_far : Noted list₀ 0 (run (nth_faults y (bytes ++ part)) (min k (4 * sequences_of y))) list t
  so_far = rw (sofar y bytes part k many ey) at n

  -- a whole sequence of the frame
  more_one : length part ≡ 12000 → k < 4 * sequences_of y → Noted list₀ 0 (read_faults y (bytes ++ part)) list' u
  unfolding read_faults
  more_one e l =
      let le : k ≤ 4 * sequences_of y = omega arith in
      let le' : k + 1 ≤ 4 * sequences_of y = omega arith in
      let b : length bytes ≤ 1000000 = omega (arith, sequences_le y) in
      let ek : c / 12000 ≡ k = omega (arith, ec, count_small (length bytes) b) in
      let before : Noted list₀ 0 (run (nth_faults y (bytes ++ part)) k) list t = rw (min-eq_left le) at so_far in
      let small : t < 8000 = omega (arith, before.total, few y (bytes ++ part) k, sequences_le y) in
      let some = sequences_some y in
      let hh : k / sequences_of y < 4 = (div-lt_iff_lt-mul some).1 l in
      let inside = next_inside y (k / sequences_of y) (k % sequences_of y) part t hh (mod-lt k some) e small in
      let now : Noted list t (nth_faults y (bytes ++ part) k) list' u = rw (nth_last y bytes part k many e) (rw (ek, inside) at a) in
      let size : length (bytes ++ part) / 12000 ≡ k + 1 = omega (arith, length-append bytes part) in
      rw (size, min-eq_left le') (noted_turn (nth_faults y (bytes ++ part)) k before now)

  -- nothing that is surveyed: the faults stay
  more_none : faults_after y (c / 12000) part t ≡ [] → min (length (bytes ++ part) / 12000) (4 * sequences_of y) ≡ min k (4 * sequences_of y)
      → Noted list₀ 0 (read_faults y (bytes ++ part)) list' u
  unfolding read_faults
  more_none e em =
      let same = noted_same (rw e at a) in
      rw (em, same.0, same.1) so_far

  -- more than a frame
  more_past : length part ≤ 12000 → 4 * sequences_of y ≤ k → Noted list₀ 0 (read_faults y (bytes ++ part)) list' u
  more_past h l =
      let size : 4 * sequences_of y ≤ length (bytes ++ part) / 12000 = omega (arith, length-append bytes part) in
      let some = sequences_some y in
      let past : 4 * sequences_of y ≤ c / 12000 =
      by_lt (length bytes) 1000000
      (λ b. let b' : length bytes ≤ 1000000 = omega arith in omega (arith, ec, count_small (length bytes) b'))
      (λ b. omega (arith, ec, count_large (length bytes) b, sequences_le y)) in
      let out : 4 ≤ c / 12000 / sequences_of y = (le-div_iff_mul-le some).1 past in
      more_none
      (none_outside y (c / 12000 / sequences_of y) (c / 12000 % sequences_of y) part t true
      (rw (le-leb 4 (c / 12000 / sequences_of y) out) refl) refl)
      (min-eq_right size ∙ sym (min-eq_right l))

  -- less than a sequence
  more_short : length part < 12000 → Noted list₀ 0 (read_faults y (bytes ++ part)) list' u
  more_short l =
      let size : length (bytes ++ part) / 12000 ≡ k = omega (arith, length-append bytes part) in
      more_none (none_short (outside_sequences (Some y) (c / 12000 / sequences_of y) (c / 12000 % sequences_of y)) refl) (rw size refl)
    where
      none_short : (o : Bool) → o ≡ outside_sequences (Some y) (c / 12000 / sequences_of y) (c / 12000 % sequences_of y) → faults_after y (c / 12000) part t ≡ []
      none_short true eo = none_outside y _ _ part t true eo refl
      none_short false eo = none_length y _ _ part t false eo refl (λ e. omega (arith, e))

  more_noted : length part ≤ 12000 → Noted list₀ 0 (read_faults y (bytes ++ part)) list' u
  more_noted h =
      by_lt (length part) 12000 more_short
      (λ g. by_lt k (4 * sequences_of y) (λ l. more_one (omega arith) l) (more_past h))

read_more : (list₀ bytes part list list' : List ℕ) (r s : Reading) → s.count ≡ min (r.count + length part) counted_to → s.system ≡ next_system r part
    → Noted list r.total (faults_after (next_system r part) (r.count / 12000) part r.total) list' s.total
    → length bytes % 12000 ≡ 0 → length part ≤ 12000 → Read list₀ bytes list r → Read list₀ (bytes ++ part) list' s
read_more list₀ bytes part list list' r s ec es a w h d =
    let e = system_next bytes part r w d.system d.count in
    record {
      noted = more_noted (system_from (bytes ++ part)) list₀ bytes part list list' (length bytes / 12000) r.count r.total s.total (omega arith) refl d.count d.noted (rw e at a) h;
      system = es ∙ e;
      count = ec ∙ rw (d.count, count_more (length bytes) (length part), length-append) refl;
    }

pub read_start : (list : List ℕ) → Read list [] list nothing
unfolding read_faults system_from
read_start list = record { noted = rw run_zero (noted_none list 0); system = refl; count = refl }

-- ---- next, refill

pub divides : (y : System) (n : ℕ) → n ≡ sequences_of y → 0 < n
divides y n e = rw e (sequences_some y)

-- k and n are the code's: the sequences so far, and those of a DIF channel
pub next_reads : (r : Reading) (part list list' : List ℕ) (y : System) (n c u : ℕ) → y ≡ next_system r part → n ≡ sequences_of y → c ≡ min (r.count + length part) counted_to
    → Noted list r.total (next_faults y (r.count / 12000 / n) (r.count / 12000 % n) part r.total) list' u
    → Next r part list (record { count = c; system = y; total = u; last = length part }) list'
next_reads r part list list' y n c u ey en ec a =
    let a' = rw (en, ey) at a in
    record {
      read = λ list₀ bytes w h d. read_more list₀ bytes part list list' r (record { count = c; system = y; total = u; last = length part }) ec ey a' w h d;
      noted = a';
      system = ey;
      count = ec;
      last = refl;
    }

-- the list was lent as `old`
pub next_found : (r : Reading) (part list list' : List ℕ) (y : System) (n c : ℕ) (old new : FaultList) → y ≡ next_system r part → n ≡ sequences_of y → c ≡ min (r.count + length part) counted_to
    → NotedIn old (next_faults y (r.count / 12000 / n) (r.count / 12000 % n) part r.total) new → old.numbers.now ≡ list → old.total ≡ r.total
    → (length list' ≡ length list) × (old.numbers.ghost_name ≡ new.numbers.ghost_name → list' ≡ new.numbers.now)
    → Next r part list (record { count = c; system = y; total = new.total; last = length part }) list'
next_found r part list list' y n c old new ey en ec a el et back =
    next_reads r part list list' y n c new.total ey en ec (rw et at (in_noted old new list list' a el back))

take_least : (n : ℕ) (l : List ℕ) → take (min n (length l)) l ≡ take n l
take_least n l =
    by_lt n (length l)
    (λ h. let h' : n ≤ length l = omega arith in rw (min-eq_left h') refl)
    (λ h. rw (min-eq_right h) (take_all (length l) l (omega arith) ∙ sym (take_all n l h)))

pub least_within : (a end : ℕ) (buf : List ℕ) → end ≡ min a (length buf) → end ≡ length (take end buf)
least_within a end buf e = sym (length-take-le end buf (omega (arith, e)))

pub refill_reads : (r : Reading) (got end : ℕ) (buf list list' : List ℕ) (s : Reading) → end ≡ min got (length buf) → Next r (take end buf) list s list' → Refilled r got buf list s list'
refill_reads r got end buf list list' s e n = rw (e, take_least got buf) at n

-- one answer and one content of the list, whatever was known before
pub refilled_one : (r : Reading) (got : ℕ) (buf list : List ℕ) → ExactlyOne (Reading × List ℕ) (λ o. Refilled r got buf list o.0 o.1)
refilled_one r got buf list =
    let part = take got buf in
    let fs = faults_after (next_system r part) (r.count / 12000) part r.total in
    record {
      outcome = (record { count = min (r.count + length part) counted_to; system = next_system r part; total = r.total + length fs; last = length part }, more list r.total fs);
      meets = next_reads r part list (more list r.total fs) (next_system r part) (sequences_of (next_system r part)) _ (r.total + length fs) refl refl refl (record { total = refl; left = refl });
      only = λ o n i. (record { count = n.count i; system = n.system i; total = n.noted.total i; last = n.last i }, n.noted.left i);
    }
