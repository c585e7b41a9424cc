-- What is printed of a survey (document 01: the survey program).
use Rattle.std.specs.Prelude.{◌≡◌, List, [], ◌∷◌, ◌++◌, ℕ, ◌+◌, ◌*◌, ◌≤◌, eqb, ltb, leb, length, take, drop}
use Rattle.base.specs.Pick.{pick}
use Rattle.base.specs.Run.{run}
use Rattle.paper.specs.declared.Fault.{Fault}
use Rattle.paper.specs.declared.Survey.{Survey}
use Rattle.rules_surveys.specs.Records.{numbers, width}
use Rattle.text.specs.Lines.{line_of}

-- "It prints `F`, channel, sequence, place, fault, parted by tabs": record i of the list, where it holds that
unfoldable pub record_line : List ℕ → ℕ → List ℕ
record_line list i = pick (ltb (length list) (width * i + width)) [] (line_of 0x46 (take width (drop (width * i) list)))

-- "then `T`, total, kept"
unfoldable pub totals_line : ℕ → ℕ → List ℕ
totals_line total kept = line_of 0x54 (total ∷ kept ∷ [])

-- "`E`, tab, `2` only"
unfoldable pub refusal_line : ℕ → List ℕ
refusal_line number = line_of 0x45 (number ∷ [])

-- line i of what is printed
unfoldable pub line_at : Survey → List ℕ → ℕ → List ℕ
line_at s list i =
    pick (eqb s.number 0)
    (pick (ltb i s.kept) (record_line list i) (pick (eqb i s.kept) (totals_line s.total s.kept) []))
    (pick (eqb i 0) (refusal_line s.number) [])

-- a line in a buffer of so many bytes: none where there are less than 64
unfoldable pub in_room : ℕ → List ℕ → List ℕ
in_room size text = pick (leb 64 size) text []

-- the line stands at the start of out, and behind it all is as it was
pub record Printed (text out out' : List ℕ) (r : ℕ) : Type 0 where
  pub left : out' ≡ in_room (length out) text ++ drop (length (in_room (length out) text)) out
  pub count : r ≡ length (in_room (length out) text)
  pub small : r ≤ 64

-- ---- all of it

-- the 65 lines that a list of 64 records has at most
abbrev pub lines_of : Survey → List ℕ → List ℕ
lines_of s list = run (line_at s list) 65

-- in a buffer of so many bytes: nothing where there are less than 4,160
unfoldable pub text_in : Survey → List ℕ → ℕ → List ℕ
text_in s list size = pick (leb 4160 size) (lines_of s list) []

-- the lines stand at the start of out, and behind them all is as it was
pub record Texted (s : Survey) (list out out' : List ℕ) (r : ℕ) : Type 0 where
  pub left : out' ≡ text_in s list (length out) ++ drop (length (text_in s list (length out))) out
  pub count : r ≡ length (text_in s list (length out))

-- the loop: i lines stand at the start of out, which was out₀
pub record Texting (s : Survey) (list out₀ out : List ℕ) (at i : ℕ) : Type 0 where
  pub left : out ≡ run (line_at s list) i ++ drop (length (run (line_at s list) i)) out₀
  pub ends : at ≡ length (run (line_at s list) i)
  pub size : length out ≡ length out₀
  pub small : at ≤ 64 * i
  pub turns : i ≤ 65

-- ---- what it is of a survey's faults

unfoldable pub fault_lines : List Fault → List ℕ
fault_lines [] = []
fault_lines (f ∷ fs) = line_of 0x46 (numbers f) ++ fault_lines fs

-- what is printed of a survey with this number and these faults, which has room for so many records
unfoldable pub survey_text : ℕ → ℕ → List Fault → List ℕ
survey_text room number fs =
    pick (eqb number 0)
    (fault_lines (take room fs) ++ totals_line (length fs) (length (take room fs)))
    (refusal_line number)
