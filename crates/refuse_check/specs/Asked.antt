-- What the frame check of a known system answers.
use Rattle.std.specs.Prelude.{List, ℕ, ◌*◌, eqb, length}
use Rattle.base.specs.Calls.{first_of}
use Rattle.base.specs.Pick.{pick}
use Rattle.paper.specs.declared.System.{System}
use Rattle.rules_format.specs.Systems.{sequences_of}
use Rattle.rules_reads.specs.Check.{check_rows}

-- the first of its rows that holds, or 0; 2 where the frame has not its length
unfoldable pub whole_number : System → List ℕ → ℕ
whole_number y frame = pick (eqb (length frame) (48000 * sequences_of y)) (first_of (check_rows y frame)) 2
