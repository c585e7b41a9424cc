use mathlib.Core.Path.{◌≡◌}
use mathlib.Core.Bool.{not}
use lib.Dec.{eqb}
use Rattle.base.specs.Below.{below}
use Rattle.base.specs.Run.{run}
use Rattle.rules_surveys.specs.FaultLists.{place_faults}
use Rattle.judged_bits.specs.Clean.{clear_at, Clean}
use Rattle.judged_bits.proofs.clean.clean_part.Given as goal

abbrev pub invariant-loop-p : goal.invariant-loop-p
invariant-loop-p g l = (l.good ≡ below (clear_at (not (eqb g.row.ASK 0)) l.part l.fn.dif.channel l.fn.dif.sequence) l.p) × Clean l.good (run (place_faults l.part l.fn.dif.channel l.fn.dif.sequence) l.p)
