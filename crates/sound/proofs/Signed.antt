-- Laws of signed numbers: wider ones, what the bits of one say, and those below zero. Assumes nothing.
use mathlib.Core.Path.{◌≡◌, refl, sym, ap, ◌∙◌}
use mathlib.Core.Bool.{true, false, true≢false}
use Prim.Native.Nat.{ℕ, suc, ◌-◌, ◌≤◌, ◌<◌, ◌^◌}
use native.Mathlib.Omega.{arith}
use lib.IntN.{ℤ, pos, negsuc, ◌-ℤ◌}
use lib.Signed.{lt_z, mag}
use mir.Syntax.{w16, w32}
use mir.Val.{to_z, of_z, SFits}
use mir.ValLaws.{to_z_pos, to_z-of_z}
use borrow.Author.Tests.{ltb-true, le-ltb}

-- a number of 16 bits is one of 32
pub wider : {z : ℤ} → SFits w16 z → SFits w32 z
wider {z} h = let k : mag z < 2 ^ 15 = h.sfits in record { sfits = omega arith }

-- what the bits of a signed number say
pub of_bits : (z : ℤ) (n : ℕ) → SFits w32 z → n < 2 ^ 31 → of_z w32 z ≡ n → z ≡ pos n
of_bits z n f h e = sym (to_z-of_z w32 z f) ∙ ap (to_z w32) e ∙ to_z_pos w32 n h

-- a number below zero, counted down from -1
pub down : (z : ℤ) → lt_z z (pos 0) ≡ true → negsuc 0 -ℤ z ≡ pos (mag z)
down (pos n) e = let k : n < 0 = ltb-true n 0 e in absurd (omega arith)
down (negsuc n) e =
    let k : 1 ≤ suc n = omega arith in
    let m : suc n - 1 ≡ n = omega arith in
    rw (le-ltb (suc n) 1 k) (ap pos m)

pub not_below : (z : ℤ) → lt_z z (pos 0) ≡ false → z ≡ pos (mag z)
not_below (pos n) e = refl
not_below (negsuc n) e = absurd (true≢false e)
