-- The customer's first demand, under his own words: what each call owes, whatever its contract is made of. A Contract says which outcomes a call's
-- contract allows. k is a system's number, h a DIF channel, q a sequence of it, p a place, c an audio channel, b a macroblock.
use Rattle.std.specs.Prelude.{◌≡◌, List, [], ◌∷◌, ◌≢◌, ℕ, ℤ, length}
use Rattle.base.specs.Calls.{ExactlyOne}
use Rattle.paper.specs.declared.Place.{Place}
use Rattle.paper.specs.declared.IdAnswer.{IdAnswer}
use Rattle.paper.specs.declared.IdValues.{IdValues}
use Rattle.paper.specs.declared.Part.{Part}
use Rattle.paper.specs.declared.Survey.{Survey}
use Rattle.paper.specs.declared.AudioAnswer.{AudioAnswer}
use Rattle.paper.specs.declared.TimeAnswer.{TimeAnswer}
use Rattle.rules_format.specs.Ids.{id_values}
use Rattle.promises.specs.Contents.{Contents}
use Rattle.promises.specs.Refusals.{Table, id_table, survey_table, salvage_table, sequence_table, view_table, check_table, audio_table, macroblock_table}
use Rattle.promises.specs.Refusals.{time_table, replace_table, write_table}

-- a call on one input: an outcome is its answer with the buffers as it left them, and meets its contract; it answers a number; the table is
-- document 01's for this call and input; Quiet is what a refusal has to be
pub record Answers (Outcome : Type 0) (Meets : Outcome → Type 0) (answered : Outcome → ℕ) (table : Table) (Quiet : Outcome → Type 0) : Type 0 where
  -- "A public call accepts every input it can be handed": it comes to one outcome, and to no other
  pub one : ExactlyOne Outcome Meets
  -- "It does its job or refuses with a number from document 01, in the order given there.": the number that the table gives, and the table gives no other
  pub numbered : (o : Outcome) → Meets o → table (answered o)
  pub no_other : (o : Outcome) → Meets o → (r : ℕ) → table r → r ≡ answered o
  -- "A refusal leaves all output buffers as they came in", and answers zeros and an empty part beside its number
  pub refused : (o : Outcome) → Meets o → answered o ≢ 0 → Quiet o
  -- so that its number tells the whole of it
  pub told : (o o' : Outcome) → answered o ≢ 0 → answered o ≡ answered o' → Quiet o → Quiet o' → o ≡ o'

-- ---- "No call relies on checks made earlier by somebody else": nothing is asked of any input. A refusal's zeros stand here as they are answered

abbrev pub ReadIdAnswers : (List ℕ → IdAnswer → Type 0) → Type 0
ReadIdAnswers Contract =
    (id : List ℕ)
    → Answers IdAnswer (Contract id) (λ o. (id_values o).number) (id_table id)
    (λ o. id_values o ≡ record { number = (id_values o).number; section = 0; channel = 0; dseq = 0; dbn = 0; arbitrary = 0; reserved = 0 })

abbrev pub IdValuesAnswers : (List ℕ → IdValues → Type 0) → Type 0
IdValuesAnswers Contract =
    (id : List ℕ)
    → Answers IdValues (Contract id) (λ o. o.number) (id_table id)
    (λ o. o ≡ record { number = o.number; section = 0; channel = 0; dseq = 0; dbn = 0; arbitrary = 0; reserved = 0 })

abbrev pub SurveyAnswers : (ℕ → List ℕ → List ℕ → Survey → List ℕ → Type 0) → Type 0
SurveyAnswers Contract =
    (k : ℕ) (frame list : List ℕ)
    → Answers (Survey × List ℕ) (λ o. Contract k frame list o.0 o.1) (λ o. o.0.number) (survey_table k (length frame))
    (λ o. o ≡ (record { number = o.0.number; total = 0; kept = 0 }, list))

abbrev pub SequenceAnswers : (ℕ → ℕ → ℕ → List ℕ → List ℕ → Survey → List ℕ → Type 0) → Type 0
SequenceAnswers Contract =
    (k h q : ℕ) (sequence list : List ℕ)
    → Answers (Survey × List ℕ) (λ o. Contract k h q sequence list o.0 o.1) (λ o. o.0.number) (sequence_table k h q (length sequence))
    (λ o. o ≡ (record { number = o.0.number; total = 0; kept = 0 }, list))

-- the number and the part of a view, two calls, are one outcome
abbrev pub ViewAnswers : (ℕ → List ℕ → ℕ → ℕ → Place → ℕ → Type 0) → (ℕ → List ℕ → ℕ → ℕ → Place → List ℕ → Type 0) → Type 0
ViewAnswers Numbered Part =
    (k : ℕ) (frame : List ℕ) (h q : ℕ) (p : Place)
    → Answers (ℕ × List ℕ) (λ o. Numbered k frame h q p o.0 × Part k frame h q p o.1) (λ o. o.0) (view_table k frame h q p.0) (λ o. o.1 ≡ [])

abbrev pub ViewAtAnswers : (ℕ → List ℕ → ℕ → ℕ → Place → Part → Type 0) → Type 0
ViewAtAnswers Contract =
    (k : ℕ) (frame : List ℕ) (h q : ℕ) (p : Place)
    → Answers Part (Contract k frame h q p) (λ o. o.number) (view_table k frame h q p.0) (λ o. o ≡ record { number = o.number; start = 0; length = 0 })

-- a check answers no more than its number
abbrev pub CheckAnswers : (ℕ → List ℕ → ℕ → Type 0) → Type 0
CheckAnswers Contract = (k : ℕ) (frame : List ℕ) → Answers ℕ (Contract k frame) (λ o. o) (check_table k frame) (λ o. Unit {0})

abbrev pub AudioAnswers : (ℕ → List ℕ → ℕ → List ℤ → AudioAnswer → List ℤ → Type 0) → Type 0
AudioAnswers Contract =
    (k : ℕ) (frame : List ℕ) (c : ℕ) (samples : List ℤ)
    → Answers (AudioAnswer × List ℤ) (λ o. Contract k frame c samples o.0 o.1) (λ o. o.0.number) (audio_table k frame c (length samples))
    (λ o. o ≡ (record { number = o.0.number; count = 0 }, samples))

abbrev pub MacroblockAnswers : (ℕ → List ℕ → ℕ → ℕ → Type 0) → (ℕ → List ℕ → ℕ → List ℕ → Type 0) → Type 0
MacroblockAnswers Numbered Part =
    (k : ℕ) (frame : List ℕ) (b : ℕ)
    → Answers (ℕ × List ℕ) (λ o. Numbered k frame b o.0 × Part k frame b o.1) (λ o. o.0) (macroblock_table k frame b) (λ o. o.1 ≡ [])

abbrev pub MacroblockAtAnswers : (ℕ → List ℕ → ℕ → Part → Type 0) → Type 0
MacroblockAtAnswers Contract =
    (k : ℕ) (frame : List ℕ) (b : ℕ)
    → Answers Part (Contract k frame b) (λ o. o.number) (macroblock_table k frame b) (λ o. o ≡ record { number = o.number; start = 0; length = 0 })

abbrev pub TimeAnswers : (ℕ → List ℕ → TimeAnswer → Type 0) → Type 0
TimeAnswers Contract =
    (k : ℕ) (frame : List ℕ)
    → Answers TimeAnswer (Contract k frame) (λ o. o.number) (time_table k frame)
    (λ o. o ≡ record { number = o.number; time = 0 ∷ 0 ∷ 0 ∷ 0 ∷ []; group = 0 ∷ 0 ∷ 0 ∷ 0 ∷ [] })

abbrev pub SalvageAnswers : (ℕ → List ℕ → List ℤ → List ℕ → Survey → List ℤ → List ℕ → Type 0) → Type 0
SalvageAnswers Contract =
    (k : ℕ) (frame : List ℕ) (samples : List ℤ) (list : List ℕ)
    → Answers (Survey × List ℤ × List ℕ) (λ o. Contract k frame samples list o.0 o.1 o.2) (λ o. o.0.number)
    (salvage_table k (length frame) (length samples))
    (λ o. o ≡ (record { number = o.0.number; total = 0; kept = 0 }, samples, list))

abbrev pub ReplaceAnswers : (ℕ → List ℕ → ℕ → List ℤ → ℕ → List ℕ → Type 0) → Type 0
ReplaceAnswers Contract =
    (k : ℕ) (frame : List ℕ) (c : ℕ) (samples : List ℤ)
    → Answers (ℕ × List ℕ) (λ o. Contract k frame c samples o.0 o.1) (λ o. o.0) (replace_table k frame c samples) (λ o. o.1 ≡ frame)

abbrev pub WriteAnswers : (ℕ → Contents → List ℕ → ℕ → List ℕ → Type 0) → Type 0
WriteAnswers Contract =
    (k : ℕ) (l : Contents) (frame : List ℕ)
    → Answers (ℕ × List ℕ) (λ o. Contract k l frame o.0 o.1) (λ o. o.0) (write_table k l (length frame)) (λ o. o.1 ≡ frame)
