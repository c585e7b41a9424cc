-- `sound::samples::sample_of` meets its contract: 8000h is lost, any other word a level. Assumes nothing.
-- lost, over any word
use mathlib.Core.Path.{◌≡◌, refl}
use Prim.Native.Nat.{ℕ}
use mir.Syntax.{w16}
use mir.ValLaws.{to_z-of_z}
use borrow.Author.Tests.{eq-eqb, ne_eqb}
use borrow.Author.Rules.{rules, sfits_of}
use Rattle.base.specs.Pick.{pick}
use Rattle.paper.specs.declared.Sample.TheVariants.{Lost}
use Rattle.rules_format.specs.Samples.{sample_of}
use Rattle.sound.proofs.samples.sample_of.Goals as goal

lost_is : (w : ℕ) → w ≡ 0x8000 → Lost ≡ sample_of w
unfolding sample_of pick
lost_is w e = rw (eq-eqb w 0x8000 e) refl

pub returns-then-word : goal.returns-then-word
returns-then-word c = search (lost_is, rules)

pub returns-else-word : goal.returns-else-word
unfolding sample_of pick
returns-else-word c = rw (to_z-of_z w16 _ (sfits_of c.cast_signed.type_inv), c.cast_signed.ensures, ne_eqb _ _ c.if-word.false) refl
