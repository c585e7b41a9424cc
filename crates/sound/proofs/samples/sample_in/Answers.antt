-- `sound::samples::sample_in` meets its contract: no sample, lost, or a level of 16 bits. Assumes nothing.
use Rattle.std.specs.Prelude.{Some, None}
use mathlib.Core.Path.{◌≡◌, refl, sym, ◌∙◌}
use mathlib.Core.Bool.{Bool, true, false}
use Prim.Native.Nat.{◌<◌, ◌≤◌, ◌^◌}
use native.Mathlib.Omega.{arith}
use lib.Dec.{leb}
use lib.IntN.{ℤ, pos, negsuc}
use mir.Syntax.{w16, w32}
use mir.Val.{SFits, to_z, of_z}
use mir.ValLaws.{to_z-of_z}
use borrow.Author.Tests.{leb-true, lt-leb}
use Rattle.base.specs.Pick.{pick}
use Rattle.base.proofs.Picks.{both_held}
use Rattle.paper.specs.declared.Sample.TheVariants.{Level, Lost}
use Rattle.rules_format.specs.Samples.{in_range, sample_in}
use Rattle.sound.proofs.Signed.{of_bits}
use Rattle.sound.proofs.samples.sample_in.Goals as goal
use Rattle.sound.proofs.samples.sample_in.Goals.{Else-x-eq32768}

-- the three answers, over any number
none : (z : ℤ) → in_range z ≡ false → None ≡ sample_in z
unfolding sample_in pick
none z e = rw e refl

lost_is : (z : ℤ) → z ≡ pos 32768 → Some Lost ≡ sample_in z
unfolding sample_in in_range pick
lost_is z e = rw e refl

-- a number in the range that is not 32,768 has 16 bits
level_fits : (z : ℤ) → in_range z ≡ true → (of_z w32 z ≡ 32768 → ⊥) → SFits w16 z
unfolding in_range
level_fits (pos n) e ne = let k : n ≤ 32768 = leb-true n 32768 e in record { sfits = omega arith }
level_fits (negsuc n) e ne = let k : n ≤ 32767 = leb-true n 32767 (both_held (leb n 32767) true e).0 in record { sfits = omega arith }

level_is : (z : ℤ) → in_range z ≡ true → SFits w16 z → Some (Level z) ≡ sample_in z
unfolding sample_in pick
level_is (pos n) e f = let k : n < 2 ^ 15 = f.sfits in rw (e, lt-leb 32768 n (omega arith)) refl
level_is (negsuc n) e f = rw e refl

-- what the call says of the number
told : (z : ℤ) (r : Bool) → SFits w32 z → r ≡ in_range (to_z w32 (of_z w32 z)) → r ≡ in_range z
told z r f e = rw (to_z-of_z w32 z f) at e

pub returns-then-not-in_range : goal.returns-then-not-in_range
returns-then-not-in_range c = none _ (sym (told _ _ c.ranges.x c.in_range.ensures) ∙ c.if-not-in_range.true)

pub returns-then-x-eq32768 : goal.returns-then-x-eq32768
returns-then-x-eq32768 c = lost_is _ (of_bits _ 32768 c.ranges.x (omega arith) c.if-x-eq32768.true)

ranged : (c : Else-x-eq32768) → in_range c.args.x ≡ true
ranged c = sym (told _ _ c.ranges.x c.in_range.ensures) ∙ c.if-not-in_range.false

fits_16 : (c : Else-x-eq32768) → SFits w16 c.args.x
fits_16 c = level_fits _ (ranged c) c.if-x-eq32768.false

pub overflow_cast-result : goal.overflow_cast-result
overflow_cast-result c = rw (to_z-of_z w32 _ c.ranges.x) (fits_16 c)

pub returns-else-x-eq32768 : goal.returns-else-x-eq32768
returns-else-x-eq32768 c = rw (to_z-of_z w32 _ c.ranges.x, to_z-of_z w16 _ (fits_16 c)) (level_is _ (ranged c) (fits_16 c))
