-- Numbers and lines as bytes: "parted by tabs".
use Rattle.std.specs.Prelude.{◌≡◌, ◌&&◌, List, [], ◌∷◌, ◌++◌, ℕ, zero, suc, ◌+◌, ◌*◌, ◌/◌, ◌%◌, ◌≤◌, ltb, leb, length, take, drop}
use Rattle.base.specs.Pick.{pick}

-- ---- a number in decimal, without leading zeros

-- the digits 30h to 39h
abbrev pub digit : ℕ → ℕ
digit d = 0x30 + d

-- the last digit behind the digits of a tenth; a number of at most k has at most k + 1
unfoldable pub digits_in : ℕ → ℕ → List ℕ
digits_in zero n = digit (n % 10) ∷ []
digits_in (suc k) n = pick (ltb n 10) (digit n ∷ []) (digits_in k (n / 10) ++ (digit (n % 10) ∷ []))

unfoldable pub decimal : ℕ → List ℕ
decimal n = digits_in n n

-- ---- a line

-- each field behind a tab
unfoldable pub fields_of : List ℕ → List ℕ
fields_of [] = []
fields_of (x ∷ xs) = (0x09 ∷ decimal x) ++ fields_of xs

-- a letter, the fields, a newline
unfoldable pub line_of : ℕ → List ℕ → List ℕ
line_of letter xs = (letter ∷ fields_of xs) ++ (0x0A ∷ [])

-- ---- what the functions ask and say

-- a piece from `at` on, and where it ends; before and behind it all is as it was
pub record Put (piece : List ℕ) (at : ℕ) (out out' : List ℕ) (r : ℕ) : Type 0 where
  pub left : out' ≡ take at out ++ (piece ++ drop (at + length piece) out)
  pub ends : r ≡ at + length piece
  pub within : at + length piece ≤ length out

-- a piece of at most `most` bytes
pub record PutField (piece : List ℕ) (most at : ℕ) (out out' : List ℕ) (r : ℕ) : Type 0 where
  pub put : Put piece at out out' r
  pub small : r ≤ at + most

pub record FieldsAsked (xs out : List ℕ) (at : ℕ) : Type 0 where
  pub few : length xs ≤ 5
  pub room : at + 55 ≤ length out

-- the loop over the fields: i of them stand from `at` on, up to `end`
pub record Fielding (xs : List ℕ) (at : ℕ) (out₀ out : List ℕ) (end i : ℕ) : Type 0 where
  pub put : Put (fields_of (take i xs)) at out₀ out end
  pub size : length out ≡ length out₀
  pub small : end ≤ at + 11 * i
  pub turns : i ≤ length xs

-- the line, or nothing where it has more than five fields or less than 64 bytes of room
unfoldable pub line_in : ℕ → List ℕ → ℕ → List ℕ
line_in letter xs size = pick (leb (length xs) 5 && leb 64 size) (line_of letter xs) []

-- the line stands at the start, and behind it all is as it was
pub record Lined (letter : ℕ) (xs out out' : List ℕ) (r : ℕ) : Type 0 where
  pub left : out' ≡ line_in letter xs (length out) ++ drop (length (line_in letter xs (length out))) out
  pub count : r ≡ length (line_in letter xs (length out))
  pub small : r ≤ 64
