-- The judged bits of a word. Assumes nothing.
use mathlib.Core.Path.{refl}
use mathlib.Core.List.{List}
use Prim.Native.Nat.{ℕ, ◌≤◌, ◌<◌}
use native.Mathlib.Omega.{arith}
use lib.Bits.{bit_and}
use lib.ListN.{length}
use Rattle.rules_format.specs.Judging.{judged_bits}
use Rattle.rules_format.proofs.Judging.{judged_masked}
use Rattle.judged_bits.specs.Asked.{Word, Judged, JudgedBlock}

judged_word : (block : List ℕ) (w : ℕ) → Word block w → Judged block (bit_and w 0xFFFCE0)
unfolding judged_bits
judged_word block w a =
    record { bits = rw a.value (judged_masked _ _ _ _ a.id.byte0 a.id.byte1 a.id.byte2 a.byte3); id = a.id }

pub judged_long : (block : List ℕ) (w : ℕ) → 4 ≤ length block → Word block w → JudgedBlock block (bit_and w 0xFFFCE0)
judged_long block w l a = record { long = λ _. judged_word block w a; short = λ s. absurd (omega arith) }

pub judged_short : (block : List ℕ) → length block < 4 → JudgedBlock block 0
judged_short block s = record { long = λ l. absurd (omega arith); short = λ _. refl }
