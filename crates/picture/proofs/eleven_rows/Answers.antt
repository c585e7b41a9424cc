-- `picture::eleven_rows` meets its contract: system by system. Assumes nothing.
use mathlib.Core.Path.{refl}
use Rattle.base.specs.Pick.{pick}
use Rattle.picture.proofs.eleven_rows.Goals as goal

pub returns-in-I60 : goal.returns-in-I60
unfolding pick
returns-in-I60 c = rw c.in-I60.is (record { carries = refl; found = refl })

pub returns-in-I50 : goal.returns-in-I50
unfolding pick
returns-in-I50 c = rw c.in-I50.is (record { carries = refl; found = refl })

pub returns-in-P60 : goal.returns-in-P60
unfolding pick
returns-in-P60 c = rw c.in-P60.is (record { carries = refl; found = refl })

pub returns-in-P50 : goal.returns-in-P50
unfolding pick
returns-in-P50 c = rw c.in-P50.is (record { carries = refl; found = refl })
