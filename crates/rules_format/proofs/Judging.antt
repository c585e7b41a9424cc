-- A block whose judged bits are those of its place, DIF channel and sequence names its place. Assumes nothing.
use mathlib.Core.Path.{◌≡◌, ◌∙◌}
use mathlib.Core.List.{List, [], ◌++◌}
use Prim.Native.Nat.{ℕ, ◌+◌, ◌*◌, ◌^◌, ◌/◌, ◌≤◌, ◌<◌}
use native.Mathlib.Omega.{arith}
use lib.Bits.{bit_and, and_block, and_mask, and_high}
use lib.Dec.{lit≤}
use lib.ListN.{length, get_or}
use Rattle.rules_format.specs.Places.{code_of, place, entry_at}
use Rattle.rules_format.specs.Ids.{id_bytes, id_at, fsc_of, fsp_of}
use Rattle.rules_format.specs.Faults.{fault_at}
use Rattle.rules_format.specs.Judging.{judged_bits, printed, key_of}
use Rattle.rules_format.proofs.Places.{code_below, number_below}
use Rattle.rules_format.proofs.Ids.{second_judged}
use Rattle.rules_format.proofs.Faults.{written_names}
use Rattle.rules_format.proofs.Paper.{fault_judged}

-- ---- bounds

pub key_below : (h q : ℕ) → q < 16 → key_of h q < 65536
key_below h q l = omega arith

pub printed_below : (p : ℕ) → p < 150 → printed (entry_at (place p)) < 10000000
printed_below p l = omega (arith, code_below (entry_at (place p)).section, number_below p l)

-- ---- judged_bits

-- the three parts of the judged bits are known from their sum
parts_one : (x y z s k n : ℕ) → x < 8 → y < 64 → z < 256 → s < 8 → k < 64 → n < 256 → 32 * x + 1024 * y + 65536 * z ≡ 32 * s + 65536 * n + 1024 * k → (x ≡ s) × (y ≡ k) × (z ≡ n)
parts_one x y z s k n hx hy hz hs hk hn e =
    let c : z ≡ n = omega arith in
    let b : y ≡ k = omega (arith, c) in
    (omega (arith, b, c), b, c)

-- a mask over four bytes in one word leaves them
pub judged_masked : (b0 b1 b2 b3 : ℕ) → b0 < 256 → b1 < 256 → b2 < 256 → b3 < 256
    → bit_and (b0 + 256 * b1 + 65536 * b2 + 16777216 * b3) 0xFFFCE0 ≡ 32 * (b0 / 32) + 1024 * (b1 / 4) + 65536 * b2
judged_masked b0 b1 b2 b3 h0 h1 h2 h3 =
    let e : b0 + 256 * b1 + 65536 * b2 + 16777216 * b3 ≡ ((b3 * 2 ^ 8 + b2) * 2 ^ 8 + b1) * 2 ^ 8 + b0 = omega arith in
    let k0 = and_block 8 ((b3 * 2 ^ 8 + b2) * 2 ^ 8 + b1) 0xFFFC b0 0xE0 h0 (lit≤ tt) in
    let k1 = and_block 8 (b3 * 2 ^ 8 + b2) 0xFF b1 0xFC h1 (lit≤ tt) in
    let k2 = and_mask (b3 * 2 ^ 8 + b2) 8 in
    let m0 = and_high b0 3 5 in
    let m1 = and_high b1 6 2 in
    rw e (omega (arith, k0, k1, k2, m0, m1, h0, h1, h2))

module _ (block : List ℕ) (h q p : ℕ) (long : 3 ≤ length block) (b0 : get_or block 0 0 < 256) (b1 : get_or block 1 0 < 256) (b2 : get_or block 2 0 < 256)
    (hh : h < 4) (hq : q < 16) (hp : p < 150) (e : judged_bits block ≡ printed (entry_at (place p)) + key_of h q) where
  parts : (get_or block 0 0 / 32 ≡ code_of (entry_at (place p)).section) × (get_or block 1 0 / 4 ≡ 4 * q + 2 * fsc_of h + fsp_of h) × (get_or block 2 0 ≡ (entry_at (place p)).number.0)
  unfolding judged_bits
  parts =
      parts_one (get_or block 0 0 / 32) (get_or block 1 0 / 4) (get_or block 2 0) (code_of (entry_at (place p)).section) (4 * q + 2 * fsc_of h + fsp_of h) (entry_at (place p)).number.0
      (omega (arith, b0)) (omega (arith, b1)) b2 (omega (arith, code_below (entry_at (place p)).section)) (omega arith) (omega (arith, number_below p hp)) e

  -- as if the ID that would be written there stood there
  pub judged_names : fault_at block h q p ≡ 0
  unfolding id_bytes id_at
  judged_names =
      fault_judged block (id_bytes (id_at h q (place p)) ++ []) h q p long (omega arith)
      (omega (arith, parts.0)) (omega (arith, parts.1, second_judged q (fsc_of h) (fsp_of h) hq (omega arith) (omega arith))) (omega (arith, parts.2, number_below p hp))
      ∙ written_names [] h q p hh hq hp
