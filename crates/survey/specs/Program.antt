-- What the program's state says after refills.
use Rattle.std.specs.Prelude.{◌≡◌, ◌⊎◌, List, ◌++◌, ℕ, ◌*◌, ◌≤◌, ◌<◌, length, take, drop}
use Rattle.paper.specs.declared.System.{System}
use Rattle.rules_format.specs.Systems.{rate_of, number_of_system}
use Rattle.rules_surveys.specs.FaultLists.{frame_faults}
use Rattle.rules_surveys.specs.Records.{width}
use Rattle.rules_surveys.specs.Survey.{survey_number}
use Rattle.report.specs.Printed.{survey_text, Texted}
use Rattle.verdict.specs.Length.{answer_of}
use Rattle.stream.specs.declared.Reading.{Reading}
use Rattle.stream.specs.Input.{dsf_in, Read}

-- the bytes that the refills gave: those before the last, and what the last left in the buffer
abbrev pub bytes_of : List ℕ → List ℕ → Reading → List ℕ
bytes_of before buf r = before ++ take r.last buf

-- the loop after so many refills: r and list are what whole sequences of bytes say
pub record Going (list₀ buf list : List ℕ) (r : Reading) (done : ℕ) : Type 0 where
  pub before : List ℕ
  pub read : Read list₀ (bytes_of before buf r) list r
  pub many : length (bytes_of before buf r) ≡ 12000 * done
  pub whole : length buf ≡ 12000
  pub size : length list ≡ length list₀

-- the input was read to its end, which is a refill of less than a sequence; or 2^64 - 1 refills were read
pub record Ended (list₀ buf list : List ℕ) (r : Reading) : Type 0 where
  pub before : List ℕ
  pub read : Read list₀ (bytes_of before buf r) list r
  pub last : (r.last < 12000) ⊎ (12000 * 18446744073709551615 ≤ length (bytes_of before buf r))

-- ---- what is printed

-- what document 01 has printed of an input in a system: its survey with room for 64 records, or a refusal
abbrev pub input_text : System → List ℕ → List ℕ
input_text y bytes = survey_text 64 (survey_number (number_of_system y) (length bytes)) (frame_faults y bytes)

-- t stands at the start of out', which was out; n are its bytes
pub record Starts (t out out' : List ℕ) (n : ℕ) : Type 0 where
  pub left : out' ≡ t ++ drop (length t) out
  pub count : n ≡ length t

-- of an input that was read, out' has what document 01 says of its bytes, in every system of the first block's rate
pub record Said (r : Reading) (list out out' : List ℕ) (n : ℕ) : Type 0 where
  pub says : (list₀ buf : List ℕ) → length list₀ ≡ 64 * width → 4160 ≤ length out → (d : Ended list₀ buf list r) (y : System)
      → rate_of y ≡ dsf_in (bytes_of d.before buf r) → Starts (input_text y (bytes_of d.before buf r)) out out' n
  pub texted : Texted (answer_of r (length list)) list out out' n

-- ---- the whole

-- one sequence, 64 records, and their lines
pub record Rooms (buf list text : List ℕ) : Type 0 where
  pub sequence : length buf ≡ 12000
  pub records : length list ≡ 64 * width
  pub lines : 4160 ≤ length text

-- the refills gave bytes, of which buf still has the last, up to the input's end; text' begins with what document 01 has printed of them, n bytes
pub record Surveyed (buf text text' : List ℕ) (n : ℕ) : Type 0 where
  pub before : List ℕ
  pub last : ℕ
  pub says : (y : System) → rate_of y ≡ dsf_in (before ++ take last buf) → Starts (input_text y (before ++ take last buf)) text text' n
  pub ended : (last < 12000) ⊎ (12000 * 18446744073709551615 ≤ length (before ++ take last buf))
  pub within : n ≤ length text'
