-- The refills, one after the other. Assumes nothing.
use mathlib.Core.Path.{◌≡◌, refl}
use mathlib.Core.List.{List, []}
use Prim.Native.Nat.{ℕ}
use lib.ListN.{length}
use Rattle.stream.specs.declared.Reading.{Reading}
use Rattle.stream.specs.Input.{nothing}
use Rattle.stream.proofs.Inputs.{read_start}
use Rattle.survey.specs.Program.{Going}

pub going_start : (buf list : List ℕ) (r : Reading) → r ≡ nothing → length buf ≡ 12000 → Going list buf list r 0
going_start buf list r e w = rw e (record { before = []; read = read_start list; many = refl; whole = w; size = refl })
