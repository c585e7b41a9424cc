-- What the functions say.
use Rattle.std.specs.Prelude.{not, ◌&&◌, List, [], ℕ, ◌/◌, min, eqb, ltb, length, Some}
use Rattle.base.specs.Pick.{pick}
use Rattle.paper.specs.declared.System.{System}
use Rattle.paper.specs.declared.Fault.{Fault}
use Rattle.paper.specs.declared.Survey.{Survey}
use Rattle.rules_surveys.specs.FaultLists.{sequence_faults}
use Rattle.rules_surveys.specs.Records.{width}
use Rattle.rules_surveys.specs.Survey.{outside_sequences}

-- what a survey that went through answers: its total t, of a list of so many numbers
abbrev pub tallied : ℕ → ℕ → Survey
tallied t size = record { number = 0; total = t; kept = min (size / width) t }

-- the faults of sequence q of DIF channel h, where t came before; none where it is none of the system's, or t are too many
unfoldable pub next_faults : System → ℕ → ℕ → List ℕ → ℕ → List Fault
next_faults y h q part t =
    pick (not (outside_sequences (Some y) h q) && (eqb (length part) 12000 && ltb t 8000)) (sequence_faults part h q) []
