-- `sound::places::first_of` meets its contract: it is below 9s, so that nothing overflows. Assumes nothing.
-- a div 3 is 2 at most
use Prim.Native.Nat.{◌<◌, ◌≤◌, ◌*◌}
use native.Mathlib.Omega.{arith}
use Rattle.rules_format.specs.Sound.{first_at}
use Rattle.rules_format.proofs.Sound.{first_below, half_ge, half_le}
use Rattle.sound.proofs.places.first_of.Goals as goal

low : (c : goal.Start) → first_at c.args.s c.args.r c.args.audio.0 < 9 * c.args.s
low c = first_below c.args.s c.requires.half c.args.r c.args.audio.0 c.requires.rank c.requires.audio

few : (c : goal.Start) → c.args.s ≤ 6
few c = half_le c.args.s c.requires.half

least : (c : goal.Start) → 5 ≤ c.args.s
least c = half_ge c.args.s c.requires.half

pub overflow_mul-result : goal.overflow_mul-result
overflow_mul-result c = omega (arith, few c)

pub overflow_mul-result-2 : goal.overflow_mul-result-2
overflow_mul-result-2 c = omega (arith, low c, few c)

pub overflow_mul-result-3 : goal.overflow_mul-result-3
overflow_mul-result-3 c = omega (arith, few c)

pub overflow_add-result : goal.overflow_add-result
overflow_add-result c = omega (arith, c.requires.rank, few c)

pub overflow_sub-result : goal.overflow_sub-result
overflow_sub-result c = omega (arith, least c, c.requires.audio)

pub nonzero_rem-result-2 : goal.nonzero_rem-result-2
nonzero_rem-result-2 c = omega (arith, least c)

pub overflow_mul-result-5 : goal.overflow_mul-result-5
overflow_mul-result-5 c = omega (arith, low c, few c)

pub overflow_add-result-2 : goal.overflow_add-result-2
overflow_add-result-2 c = omega (arith, low c, few c)

pub overflow_add-result-3 : goal.overflow_add-result-3
overflow_add-result-3 c = omega (arith, low c, few c)
