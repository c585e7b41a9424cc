-- `sound::places::first_at` meets its contract: by the rank of the sequence in its half. Assumes nothing.
use mathlib.Core.Path.{◌≡◌, sym, subst}
use Prim.Native.Nat.{ℕ, ◌%◌}
use native.Mathlib.Nat.{mod-lt}
use native.Mathlib.Omega.{arith}
use borrow.Author.Rules.{rules}
use Rattle.paper.specs.declared.System.{System}
use Rattle.rules_format.specs.Systems.{half_of}
use Rattle.rules_format.specs.Sound.{first_at}
use Rattle.rules_format.proofs.Systems.{half_cases}
use Rattle.rules_format.proofs.Sound.{Half, half_some}
use Rattle.sound.specs.Asked.{First}
use Rattle.sound.proofs.places.first_at.Goals as goal

half_of_lem : (y : System) (s : ℕ) → s ≡ half_of y → Half s
half_of_lem y s e = subst Half (sym e) (half_cases y)

asked : (y : System) (s q a : ℕ) → s ≡ half_of y → First s (q % s) (a % 9)
asked y s q a e = record { half = half_of_lem y s e; rank = mod-lt q (half_some s (half_of_lem y s e)); audio = omega arith }

first_is : (y : System) (s q a t : ℕ) → s ≡ half_of y → t ≡ first_at s (q % s) (a % 9) → t ≡ first_at (half_of y) (q % half_of y) (a % 9)
first_is y s q a t es et = rw (← es) et

pub nonzero_rem-q : goal.nonzero_rem-q
nonzero_rem-q c = half_some _ (half_of_lem _ _ c.half-s.ensures)

pub first_of-requires : goal.first_of-requires
first_of-requires c = search (asked, rules)

pub returns : goal.returns
returns c = search (first_is, rules)
