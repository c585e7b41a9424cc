-- What a public call's contract is made of: its refusals in their order, and that it leaves one outcome.
use Rattle.std.specs.Prelude.{◌≡◌, Bool, List, [], ◌∷◌, ℕ}
use Rattle.base.specs.Pick.{pick}

-- a row of a call's refusal table: the number, and whether its condition holds
pub record Refusal : Type 0 where
  pub number : ℕ
  pub holds : Bool

infix 68 ◌when◌
abbrev pub ◌when◌ : ℕ → Bool → Refusal
k when b = record { number = k; holds = b }

-- the number of the first row whose condition holds, or 0
unfoldable pub first_of : List Refusal → ℕ
first_of [] = 0
first_of (r ∷ rs) = pick r.holds r.number (first_of rs)

-- exactly one outcome meets P
pub record ExactlyOne (A : Type 0) (P : A → Type 0) : Type 0 where
  pub outcome : A
  pub meets : P outcome
  pub only : (other : A) → P other → other ≡ outcome
