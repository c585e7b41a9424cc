-- What the functions say.
use Rattle.std.specs.Prelude.{◌≡◌, List, ℕ, ◌+◌, ◌*◌, ◌≤◌, ◌<◌, length, get_or}
use Rattle.rules_format.specs.Judging.{judged_bits}

-- the first three bytes of a block are bytes
pub record IdBytes (block : List ℕ) : Type 0 where
  pub byte0 : get_or block 0 0 < 256
  pub byte1 : get_or block 1 0 < 256
  pub byte2 : get_or block 2 0 < 256

-- r is its first four bytes, the first lowest
pub record Word (block : List ℕ) (r : ℕ) : Type 0 where
  pub value : r ≡ get_or block 0 0 + 256 * get_or block 1 0 + 65536 * get_or block 2 0 + 16777216 * get_or block 3 0
  pub id : IdBytes block
  pub byte3 : get_or block 3 0 < 256

-- r is the judged bits of its ID
pub record Judged (block : List ℕ) (r : ℕ) : Type 0 where
  pub bits : r ≡ judged_bits block
  pub id : IdBytes block

-- or 0, of a block of fewer than four bytes
pub record JudgedBlock (block : List ℕ) (r : ℕ) : Type 0 where
  pub long : 4 ≤ length block → Judged block r
  pub short : length block < 4 → r ≡ 0
