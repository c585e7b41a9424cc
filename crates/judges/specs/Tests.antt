-- What a test asks of sequence q and its 12,000 bytes.
use Rattle.std.specs.Prelude.{Bool, List, ℕ}
use Rattle.paper.specs.declared.System.{System}
use Rattle.rules_reads.specs.Check.{dsf_agrees, vs_agrees, unflagged}
use Rattle.rules_reads.specs.Audio.{as_keeps, count_is, mode_is}
use Rattle.rules_reads.specs.Time.{subcode_agrees}
use Rattle.judges.specs.declared.Test.{Test}
use Rattle.judges.specs.declared.Test.TheVariants.{Dsf, Vs, Unflagged, AsKeeps, CountIs, ModeIs, Subcode}

abbrev pub test_of : System → Test → ℕ → List ℕ → Bool
test_of y Dsf = dsf_agrees y
test_of y Vs = vs_agrees y
test_of y (Unflagged k) = unflagged k
test_of y (AsKeeps c) = as_keeps y c
test_of y (CountIs count) = count_is count
test_of y (ModeIs mode) = mode_is mode
test_of y (Subcode said) = subcode_agrees y said.time said.group
