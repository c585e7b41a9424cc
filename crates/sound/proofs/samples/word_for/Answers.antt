-- `sound::samples::word_for` meets its contract: the word of the sample, or 0. Assumes nothing.
use Rattle.std.specs.Prelude.{Option}
use Rattle.paper.specs.declared.Sample.{Sample}
use mathlib.Core.Path.{◌≡◌, sym, ap, ◌∙◌}
use mir.Syntax.{w32}
use mir.ValLaws.{to_z-of_z}
use Rattle.rules_format.specs.Samples.{sample_in, word_in}
use Rattle.sound.proofs.samples.word_for.Goals as goal
use lib.IntN.{ℤ}
use mir.Val.{SFits, to_z, of_z}

-- what the call says of the number
told : (z : ℤ) (r : Option Sample) → SFits w32 z → r ≡ sample_in (to_z w32 (of_z w32 z)) → r ≡ sample_in z
told z r f e = rw (to_z-of_z w32 z f) at e

pub returns-in-Some : goal.returns-in-Some
unfolding word_in
returns-in-Some c = c.word_of.ensures ∙ sym (ap word_in (sym (told _ _ c.ranges.x c.sample_in.ensures) ∙ c.in-Some.is))

pub returns-in-None : goal.returns-in-None
unfolding word_in
returns-in-None c = sym (ap word_in (sym (told _ _ c.ranges.x c.sample_in.ensures) ∙ c.in-None.is))
