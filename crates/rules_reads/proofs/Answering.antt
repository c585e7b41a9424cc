-- The workshop of the first demand, of these calls: each has one outcome, the number that its table gives, and a refusal that writes nothing. Assumes nothing.
use Rattle.std.specs.Prelude.{Option, Some, None}
use mathlib.Core.Path.{◌≡◌, refl, sym, ap, ◌∙◌}
use mathlib.Core.List.{List, [], ◌∷◌}
use Prim.Native.Nat.{ℕ}
use native.Mathlib.Omega.{arith}
use lib.IntN.{ℤ}
use lib.ListN.{length}
use borrow.Author.Tests.{eq-eqb}
use Rattle.base.proofs.Cases.{by_eq}
use Rattle.base.proofs.Picks.{pick_true}
use Rattle.paper.specs.declared.System.{System}
use Rattle.paper.specs.declared.AudioAnswer.{AudioAnswer}
use Rattle.paper.specs.declared.TimeAnswer.{TimeAnswer}
use Rattle.rules_format.specs.Systems.{in_system, system_of}
use Rattle.rules_format.specs.Blocks.{no_part}
use Rattle.rules_reads.specs.Audio.{audio_number, audio_answer, AudioRead}
use Rattle.rules_reads.specs.Time.{time_number, time_refused, time_answer, time_found, TimeRead}
use Rattle.promises.specs.Demand1.{CheckAnswers, AudioAnswers, MacroblockAnswers, MacroblockAtAnswers, TimeAnswers}
use Rattle.rules_reads.proofs.Check.{check_frame_one}
use Rattle.rules_reads.proofs.Audio.{read_audio_one, audio_refused}
use Rattle.rules_reads.proofs.Macroblock.{macroblock_number_one, macroblock_one, macroblock_refused, macroblock_lies_one, macroblock_lies_number}
use Rattle.rules_reads.proofs.Macroblock.{macroblock_lies_refused}
use Rattle.rules_reads.proofs.Time.{time_1, read_time_one, time_refused_lem}
use Rattle.rules_reads.proofs.Refusals.{check_exactly, audio_exactly, macroblock_exactly, time_exactly}
use Rattle.promises.proofs.Answering.{pair_one, answers, by_number}
use Rattle.rules_reads.specs.Check.{Checked}
use Rattle.rules_reads.specs.Macroblock.{MacroblockNumbered, MacroblockRead, MacroblockLies}

-- ---- read_audio

module _ (k : ℕ) (frame : List ℕ) (c : ℕ) (samples : List ℤ) {r : AudioAnswer} {samples' : List ℤ} (a : AudioRead k frame c samples r samples') where
  pub audio_number_lem : r.number ≡ audio_number k frame c (length samples)
  unfolding audio_answer
  audio_number_lem =
      by_eq (audio_number k frame c (length samples)) 0
      (λ z. ap (λ (x : AudioAnswer). x.number) (a.answer ∙ pick_true _ _ (eq-eqb _ 0 z)) ∙ sym z)
      (λ d. ap (λ (x : AudioAnswer). x.number) (audio_refused k frame c samples a d).0)

  audio_quiet : (r.number ≡ 0 → ⊥) → (r ≡ record { number = r.number; count = 0 }) × (samples' ≡ samples)
  audio_quiet d =
      let v = audio_refused k frame c samples a (λ z. d (audio_number_lem ∙ z)) in
      (v.0 ∙ ap (λ (n : ℕ). record { number = n; count = 0 }) (sym audio_number_lem), v.1)

-- ---- read_time

module _ (k : ℕ) (frame : List ℕ) where
  found_number : time_number k frame ≡ 0 → (s : Option System) → system_of k ≡ s → (in_system (time_refused 1) (λ (y : System). time_found y frame) s).number ≡ 0
  unfolding time_found
  found_number z (Some y) e = refl
  found_number z None e = absurd (omega (arith, z, time_1 k frame e))

  pub time_number_lem : {r : TimeAnswer} → TimeRead k frame r → r.number ≡ time_number k frame
  unfolding time_answer
  time_number_lem a =
      by_eq (time_number k frame) 0
      (λ z. ap (λ (x : TimeAnswer). x.number) (a.answer ∙ pick_true _ _ (eq-eqb _ 0 z)) ∙ found_number z (system_of k) refl ∙ sym z)
      (λ d. ap (λ (x : TimeAnswer). x.number) (time_refused_lem k frame a d))

-- ---- what each call owes

pub check_answers : CheckAnswers Checked
check_answers k frame =
    answers (check_frame_one k frame) (check_exactly k frame) (λ o m. m.answer) (λ o m d. tt) (λ o o' d e q q'. e)

pub audio_answers : AudioAnswers AudioRead
audio_answers k frame c samples =
    answers (read_audio_one k frame c samples) (audio_exactly k frame c (length samples))
    (λ o m. audio_number_lem k frame c samples m)
    (λ o m d i. ((audio_quiet k frame c samples m d).0 i, (audio_quiet k frame c samples m d).1 i))
    (λ o o' d e. by_number (λ r. (record { number = r; count = 0 }, samples)) e)

pub macroblock_answers : MacroblockAnswers MacroblockNumbered MacroblockRead
macroblock_answers k frame b =
    answers (pair_one (macroblock_number_one k frame b) (macroblock_one k frame b)) (macroblock_exactly k frame b)
    (λ o m. m.0.answer)
    (λ o m d. m.1.answer ∙ macroblock_refused k frame b (λ z. d (m.0.answer ∙ z)))
    (λ o o' d e q q' i. (e i, (q ∙ sym q') i))

pub macroblock_at_answers : MacroblockAtAnswers MacroblockLies
macroblock_at_answers k frame b =
    answers (macroblock_lies_one k frame b) (macroblock_exactly k frame b)
    (λ o m. macroblock_lies_number k frame b m)
    (λ o m d. let e = macroblock_lies_number k frame b m in macroblock_lies_refused k frame b m (λ z. d (e ∙ z)) ∙ ap no_part (sym e))
    (λ o o' d e. by_number (λ r. record { number = r; start = 0; length = 0 }) e)

pub time_answers : TimeAnswers TimeRead
time_answers k frame =
    answers (read_time_one k frame) (time_exactly k frame)
    (λ o m. time_number_lem k frame m)
    (λ o m d. time_refused_lem k frame m (λ z. d (time_number_lem k frame m ∙ z)) ∙ ap time_refused (sym (time_number_lem k frame m)))
    (λ o o' d e. by_number (λ r. record { number = r; time = 0 ∷ 0 ∷ 0 ∷ 0 ∷ []; group = 0 ∷ 0 ∷ 0 ∷ 0 ∷ [] }) e)
