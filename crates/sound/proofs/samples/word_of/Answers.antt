-- `sound::samples::word_of` meets its contract: 8001h where a level's own bits say lost. Assumes nothing.
use mathlib.Core.Path.{◌≡◌, refl}
use mir.Syntax.{w16}
use Prim.Native.Nat.{ℕ}
use lib.IntN.{ℤ}
use mir.Val.{SFits, to_z, of_z}
use mir.ValLaws.{to_z-of_z}
use borrow.Author.Tests.{eq-eqb, ne_eqb}
use borrow.Author.Rules.{rules}
use Rattle.base.specs.Pick.{pick}
use Rattle.rules_format.specs.Samples.{word_of}
use Rattle.sound.proofs.samples.word_of.Goals as goal

-- what the call says of the level
told : (z : ℤ) (r : ℕ) → SFits w16 z → r ≡ of_z w16 (to_z w16 (of_z w16 z)) → r ≡ of_z w16 z
told z r f e = rw (to_z-of_z w16 z f) at e

pub returns-then-bits-eq32768 : goal.returns-then-bits-eq32768
unfolding word_of pick
returns-then-bits-eq32768 c = rw (c.in-Level.is, ← told c.in-Level.z _ (record { sfits = search rules }) c.cast_unsigned-bits.ensures, eq-eqb _ _ c.if-bits-eq32768.true) refl

pub returns-else-bits-eq32768 : goal.returns-else-bits-eq32768
unfolding word_of pick
returns-else-bits-eq32768 c = rw (c.in-Level.is, ← told c.in-Level.z _ (record { sfits = search rules }) c.cast_unsigned-bits.ensures, ne_eqb _ _ c.if-bits-eq32768.false) refl

pub returns-in-Lost : goal.returns-in-Lost
unfolding word_of
returns-in-Lost c = rw c.in-Lost.is refl
