-- `blocks::header::rate_byte` meets its contract: 0 for 60 Hz. Assumes nothing.
use mathlib.Core.Path.{refl}
use Rattle.blocks.proofs.header.rate_byte.Goals as goal

pub returns-in-I60 : goal.returns-in-I60
returns-in-I60 c = rw c.in-I60.is refl

pub returns-in-I50 : goal.returns-in-I50
returns-in-I50 c = rw c.in-I50.is refl

pub returns-in-P60 : goal.returns-in-P60
returns-in-P60 c = rw c.in-P60.is refl

pub returns-in-P50 : goal.returns-in-P50
returns-in-P50 c = rw c.in-P50.is refl
