-- The calls `survey` and `survey_sequence`.
use Rattle.paper.specs.declared.System.{System}
use Rattle.std.specs.Prelude.{◌≡◌, Bool, not, ◌||◌, List, [], ◌∷◌, ℕ, eqb, leb, length, Option}
use Rattle.base.specs.Calls.{first_of, ◌when◌}
use Rattle.base.specs.Pick.{pick}
use Rattle.paper.specs.declared.Fault.{Fault}
use Rattle.paper.specs.declared.Survey.{Survey}
use Rattle.rules_format.specs.Systems.{system_of, is_no_system, sequences_in, frame_bytes}
use Rattle.rules_surveys.specs.FaultLists.{sequence_faults, faults_in}
use Rattle.rules_surveys.specs.Records.{kept, after}

-- ---- the refusals in their order

-- 3: channel or sequence outside the system
abbrev pub outside_sequences : Option System → ℕ → ℕ → Bool
outside_sequences s h q = leb 4 h || leb (sequences_in s) q

-- "Salvage and survey use 1, 2, 4": a survey is lent the fault list alone, which may have any length, so 4 is never due
unfoldable pub survey_number : ℕ → ℕ → ℕ
survey_number k size = first_of (
    1 when is_no_system (system_of k)
    ∷ 2 when not (eqb size (frame_bytes (system_of k)))
    ∷ [])

-- "a sequence survey 1, 3, 4"
unfoldable pub sequence_number : ℕ → ℕ → ℕ → ℕ → ℕ
sequence_number k h q size = first_of (
    1 when is_no_system (system_of k)
    ∷ 3 when outside_sequences (system_of k) h q
    ∷ 4 when not (eqb size 12000)
    ∷ [])

-- ---- the answer and the list: "A refusal answers its number, otherwise zeros .., and writes nothing."

abbrev pub refusal : ℕ → Survey
refusal number = record { number = number; total = 0; kept = 0 }

unfoldable pub survey_answer : ℕ → List Fault → List ℕ → Survey
survey_answer number fs list =
    pick (eqb number 0)
    (record { number = 0; total = length fs; kept = length (kept list fs) })
    (refusal number)

unfoldable pub survey_left : ℕ → List Fault → List ℕ → List ℕ
survey_left number fs list = pick (eqb number 0) (after list fs) list

-- a survey with this number and these faults, of a list that becomes list'
pub record Surveyed (number : ℕ) (fs : List Fault) (list : List ℕ) (r : Survey) (list' : List ℕ) : Type 0 where
  pub answer : r ≡ survey_answer number fs list
  pub left : list' ≡ survey_left number fs list

-- ---- the contracts

abbrev pub FrameSurveyed : ℕ → List ℕ → List ℕ → Survey → List ℕ → Type 0
FrameSurveyed k frame = Surveyed (survey_number k (length frame)) (faults_in (system_of k) frame)

abbrev pub SequenceSurveyed : ℕ → ℕ → ℕ → List ℕ → List ℕ → Survey → List ℕ → Type 0
SequenceSurveyed k h q sequence = Surveyed (sequence_number k h q (length sequence)) (sequence_faults sequence h q)
