-- `rescue::half::samples_fit` meets its contract: by the system's numbers. Assumes nothing.
use mathlib.Core.Path.{refl}
use Rattle.rescue.specs.Taken.{samples_fit}
use Rattle.rescue.proofs.half.samples_fit.Goals as goal

pub returns : goal.returns
unfolding samples_fit
returns c = rw (c.frame_bytes.ensures, c.positions.ensures) refl
