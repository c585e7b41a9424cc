-- `sound::samples::number_of` meets its contract: a level, or 32,768. Assumes nothing.
use mathlib.Core.Path.{sym, ap}
use mir.ValLaws.{to_z-of_z}
use mir.Syntax.{w16, w32}
use mir.Val.{SFits}
use borrow.Author.Rules.{rules}
use Rattle.rules_format.specs.Samples.{number_of}
use Rattle.sound.proofs.Signed.{wider}
use Rattle.sound.proofs.samples.number_of.Goals as goal
use Rattle.sound.proofs.samples.number_of.Goals.{In-Level}

-- in the arm of a level, the level has 16 bits
fits_16 : (c : In-Level) → SFits w16 c.in-Level.z
fits_16 c = record { sfits = search rules }

pub overflow_cast-result : goal.overflow_cast-result
overflow_cast-result c = rw (to_z-of_z w16 _ (fits_16 c)) (wider (fits_16 c))

pub returns-in-Level : goal.returns-in-Level
returns-in-Level c =
    rw (to_z-of_z w16 _ (fits_16 c), to_z-of_z w32 _ (wider (fits_16 c)))
    (sym (ap number_of c.in-Level.is))

pub returns-in-Lost : goal.returns-in-Lost
returns-in-Lost c = sym (ap number_of c.in-Lost.is)
