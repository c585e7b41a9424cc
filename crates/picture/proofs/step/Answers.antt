-- `picture::step` meets its contract: number by number. Assumes nothing.
use mathlib.Core.Path.{◌≡◌, refl}
use native.Mathlib.Omega.{arith}
use Rattle.picture.proofs.step.Goals as goal

pub returns-in_default : goal.returns-in_default
returns-in_default c = let e : c.args.m ≡ 4 = omega arith in rw e (refl, omega arith)
