-- The workshop of the first demand, of these calls: each has one outcome, the number that its table gives, and a refusal that writes nothing. Assumes nothing.
use mathlib.Core.Path.{◌≡◌, refl, sym, ap, ◌∙◌}
use mathlib.Core.List.{List}
use mathlib.Core.Logic.{◌≢◌}
use Prim.Native.Nat.{ℕ}
use native.Mathlib.Omega.{arith}
use lib.ListN.{length}
use borrow.Author.Tests.{eq-eqb, ne_eqb}
use Rattle.base.specs.Pick.{pick}
use Rattle.base.proofs.Cases.{by_eq}
use Rattle.paper.specs.declared.IdAnswer.{IdAnswer}
use Rattle.paper.specs.declared.IdAnswer.TheVariants.{Named, Reserved, WrongLength}
use Rattle.paper.specs.declared.IdValues.{IdValues}
use Rattle.paper.specs.declared.Fault.{Fault}
use Rattle.paper.specs.declared.Survey.{Survey}
use Rattle.rules_format.specs.Ids.{id_refusal, id_values}
use Rattle.rules_format.specs.Blocks.{no_part}
use Rattle.rules_surveys.specs.ReadId.{id_number, id_says, IdRead, IdSaid}
use Rattle.rules_surveys.specs.Survey.{refusal, Surveyed, FrameSurveyed, SequenceSurveyed}
use Rattle.promises.specs.Demand1.{ReadIdAnswers, IdValuesAnswers, SurveyAnswers, SequenceAnswers, ViewAnswers, ViewAtAnswers, SalvageAnswers}
use Rattle.rules_surveys.proofs.Calls.{read_id_one, id_said_one, survey_frame_one, survey_sequence_one, survey_refused, survey_taken, view_number_one}
use Rattle.rules_surveys.proofs.Calls.{view_one, view_refused, view_lies_one, view_lies_number, view_lies_refused}
use Rattle.rules_surveys.proofs.Salvage.{salvage_one, salvage_refused}
use Rattle.rules_surveys.proofs.Refusals.{id_exactly, survey_exactly, salvage_exactly, sequence_exactly, view_exactly}
use Rattle.promises.proofs.Answering.{pair_one, answers, by_number}
use Rattle.rules_surveys.specs.View.{ViewNumbered, Viewed, ViewLies}
use Rattle.rules_surveys.specs.Salvage.{Salvaged}

-- ---- read_id

module _ (id : List ℕ) where
  pub says_number : (id_says id).number ≡ id_number id
  unfolding id_says pick
  says_number = by_eq (id_number id) 0 (λ z. rw (eq-eqb _ 0 z) (sym z)) (λ d. rw (ne_eqb _ 0 d) refl)

  says_quiet : ((id_says id).number ≡ 0 → ⊥) → id_says id ≡ id_refusal (id_says id).number
  unfolding id_says pick
  says_quiet d = rw (ne_eqb (id_number id) 0 (λ z. d (says_number ∙ z))) refl

-- ---- survey, survey_sequence, and salvage beside its samples

module _ {number : ℕ} {fs : List Fault} {list list' : List ℕ} {r : Survey} (s : Surveyed number fs list r list') where
  pub survey_number_lem : r.number ≡ number
  survey_number_lem =
      by_eq number 0
      (λ z. ap (λ (x : Survey). x.number) (survey_taken s z).0 ∙ sym z)
      (λ d. ap (λ (x : Survey). x.number) (survey_refused s d).0)

  survey_quiet : (r.number ≡ 0 → ⊥) → (r ≡ refusal r.number) × (list' ≡ list)
  survey_quiet d = let v = survey_refused s (λ z. d (survey_number_lem ∙ z)) in (v.0 ∙ ap refusal (sym survey_number_lem), v.1)

-- an answer to an ID that refuses is told by its number
id_told : (o o' : IdAnswer) → (id_values o).number ≢ 0 → (id_values o).number ≡ (id_values o').number → o ≡ o'
id_told (Named b s) o' d e = absurd (d refl)
id_told Reserved (Named b s) d e = absurd (omega (arith, e))
id_told Reserved Reserved d e = refl
id_told Reserved WrongLength d e = absurd (omega (arith, e))
id_told WrongLength (Named b s) d e = absurd (omega (arith, e))
id_told WrongLength Reserved d e = absurd (omega (arith, e))
id_told WrongLength WrongLength d e = refl

-- ---- what each call owes

pub read_id_answers : ReadIdAnswers IdRead
read_id_answers id =
    answers (read_id_one id) (id_exactly id)
    (λ o m. ap (λ (v : IdValues). v.number) m.says ∙ says_number id)
    (λ o m d. rw m.says (says_quiet id (λ z. d (ap (λ (v : IdValues). v.number) m.says ∙ z))))
    (λ o o' d e q q'. id_told o o' d e)

pub id_values_answers : IdValuesAnswers IdSaid
id_values_answers id =
    answers (id_said_one id) (id_exactly id)
    (λ o m. ap (λ (v : IdValues). v.number) m.answer ∙ says_number id)
    (λ o m d. rw m.answer (says_quiet id (λ z. d (ap (λ (v : IdValues). v.number) m.answer ∙ z))))
    (λ o o' d e. by_number (λ r. record { number = r; section = 0; channel = 0; dseq = 0; dbn = 0; arbitrary = 0; reserved = 0 }) e)

pub survey_answers : SurveyAnswers FrameSurveyed
survey_answers k frame list =
    answers (survey_frame_one k frame list) (survey_exactly k (length frame))
    (λ o m. survey_number_lem m)
    (λ o m d i. ((survey_quiet m d).0 i, (survey_quiet m d).1 i))
    (λ o o' d e. by_number (λ r. (record { number = r; total = 0; kept = 0 }, list)) e)

pub sequence_answers : SequenceAnswers SequenceSurveyed
sequence_answers k h q sequence list =
    answers (survey_sequence_one k h q sequence list) (sequence_exactly k h q (length sequence))
    (λ o m. survey_number_lem m)
    (λ o m d i. ((survey_quiet m d).0 i, (survey_quiet m d).1 i))
    (λ o o' d e. by_number (λ r. (record { number = r; total = 0; kept = 0 }, list)) e)

pub view_answers : ViewAnswers ViewNumbered Viewed
view_answers k frame h q p =
    answers (pair_one (view_number_one k frame h q p) (view_one k frame h q p)) (view_exactly k frame h q p)
    (λ o m. m.0.answer)
    (λ o m d. m.1.answer ∙ view_refused k frame h q p (λ z. d (m.0.answer ∙ z)))
    (λ o o' d e q q' i. (e i, (q ∙ sym q') i))

pub view_at_answers : ViewAtAnswers ViewLies
view_at_answers k frame h q p =
    answers (view_lies_one k frame h q p) (view_exactly k frame h q p)
    (λ o m. view_lies_number k frame h q p m)
    (λ o m d. let e = view_lies_number k frame h q p m in view_lies_refused k frame h q p m (λ z. d (e ∙ z)) ∙ ap no_part (sym e))
    (λ o o' d e. by_number (λ r. record { number = r; start = 0; length = 0 }) e)

pub salvage_answers : SalvageAnswers Salvaged
salvage_answers k frame samples list =
    answers (salvage_one k frame samples list) (salvage_exactly k frame (length samples))
    (λ o m. survey_number_lem m.survey)
    (λ o m d i.
    let v = survey_quiet m.survey d in
    (v.0 i, (salvage_refused m (λ z. d (survey_number_lem m.survey ∙ z))).1 i, v.1 i))
    (λ o o' d e. by_number (λ r. (record { number = r; total = 0; kept = 0 }, samples, list)) e)
