-- What an edit of this crate's definitions is refused by: headers, packs and their rules in document 01's own bytes. Assumes nothing.
use Rattle.std.specs.Prelude.{Some}
use mathlib.Core.Path.{◌≡◌}
use Prim.Native.Nat.{ℕ}
use Rattle.paper.specs.declared.System.{System}
use Rattle.rules_format.specs.Systems.{system_of}
use Rattle.rules_packs.specs.InBytes.{InBytes}
use Rattle.rules_packs.proofs.InBytes.{in_bytes}

pub packs_in_bytes : (k : ℕ) (y : System) → system_of k ≡ Some y → InBytes k y
packs_in_bytes = in_bytes
