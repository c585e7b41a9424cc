-- The length of an input that was read to its end, and what is answered of it.
use Rattle.std.specs.Prelude.{◌≡◌, List, ℕ, ◌*◌, eqb, length}
use Rattle.base.specs.Pick.{pick}
use Rattle.paper.specs.declared.System.{System}
use Rattle.paper.specs.declared.Survey.{Survey}
use Rattle.rules_format.specs.Systems.{sequences_of, rate_of, number_of_system}
use Rattle.rules_surveys.specs.FaultLists.{frame_faults}
use Rattle.rules_surveys.specs.Records.{after}
use Rattle.rules_surveys.specs.Survey.{survey_number, survey_answer, refusal}
use Rattle.fault_list.specs.Asked.{tallied}
use Rattle.stream.specs.declared.Reading.{Reading}
use Rattle.stream.specs.Input.{dsf_in, Read}
use Rattle.verdict.specs.declared.FrameLength.{FrameLength}
use Rattle.verdict.specs.declared.FrameLength.TheVariants.{Right, Wrong}

-- ---- the length

-- the paper's number of each: 0, or refusal 2
abbrev pub length_number : FrameLength → ℕ
length_number Right = 0
length_number Wrong = 2

-- "2: frame length is not 48,000·n", and 0 where it is
pub record Judged (y : System) (count : ℕ) (r : FrameLength) : Type 0 where
  pub right : count ≡ 48000 * sequences_of y → length_number r ≡ 0
  pub wrong : (count ≡ 48000 * sequences_of y → ⊥) → length_number r ≡ 2

-- ---- the answer

-- for every system of the rate, s is what the call `survey` answers of the frame; and where that is no refusal, the list is what it leaves
pub record Surveys (y : System) (frame list₀ list : List ℕ) (s : Survey) : Type 0 where
  pub answer : s ≡ survey_answer (survey_number (number_of_system y) (length frame)) (frame_faults y frame) list₀
  pub left : s.number ≡ 0 → list ≡ after list₀ (frame_faults y frame)

-- the answer to a reading, of a list of so many numbers
unfoldable pub answer_of : Reading → ℕ → Survey
answer_of r size = pick (eqb r.count (48000 * sequences_of r.system)) (tallied r.total size) (refusal (length_number Wrong))

-- of any reading it is that answer, and of bytes that were read it is the survey's, in every system of the first block's rate
pub record Answered (r : Reading) (size : ℕ) (s : Survey) : Type 0 where
  pub surveys : (list₀ bytes list : List ℕ) → length list₀ ≡ size → Read list₀ bytes list r → (y : System) → rate_of y ≡ dsf_in bytes → Surveys y bytes list₀ list s
  pub answer : s ≡ answer_of r size
