-- What is asked of blocks whose judged bits are compared with their places', and what such a comparison says.
use Rattle.std.specs.Prelude.{◌≡◌, Bool, true, false, ◌&&◌, ◌||◌, not, List, [], ℕ, ◌+◌, ◌≤◌, ◌<◌, eqb, ltb, length}
use Rattle.base.specs.Below.{below}
use Rattle.paper.specs.declared.IdAnswer.{IdAnswer}
use Rattle.paper.specs.declared.IdAnswer.TheVariants.{Named, Reserved, WrongLength}
use Rattle.paper.specs.declared.Fault.{Fault}
use Rattle.rules_format.specs.Places.{place, entry_at}
use Rattle.rules_format.specs.Blocks.{block_in}
use Rattle.rules_format.specs.Ids.{block_answer}
use Rattle.rules_format.specs.Judging.{judged_bits, printed, key_of}

-- whether an ID names a block at all
abbrev pub is_named : IdAnswer → Bool
is_named (Named b s) = true
is_named Reserved = false
is_named WrongLength = false

-- whether the judged bits of the block at place p of a sequence are its place's and, where that is asked, its ID names a block
unfoldable pub clear_at : Bool → List ℕ → ℕ → ℕ → ℕ → Bool
clear_at ask part h q p =
    (not ask || is_named (block_answer (block_in part p))) && eqb (judged_bits (block_in part p)) (printed (entry_at (place p)) + key_of h q)

-- whether all 150 blocks of a sequence are so; no other part is clear, nor one of another DIF channel or sequence than there are
unfoldable pub all_clear : Bool → List ℕ → ℕ → ℕ → Bool
all_clear ask part h q = eqb (length part) 12000 && (ltb h 4 && (ltb q 16 && below (clear_at ask part h q) 150))

-- h is a DIF channel, and q a number that Dseq can hold
pub record InSequence (h q : ℕ) : Type 0 where
  pub channel : h < 4
  pub sequence : q < 16

-- the block of place p; e is the place's entry in print, and k what DIF channel and sequence add to it
pub record BlockAsked (block : List ℕ) (h q p e k : ℕ) : Type 0 where
  pub long : 4 ≤ length block
  pub sequence : InSequence h q
  pub below : p < 150
  pub entry : e ≡ printed (entry_at (place p))
  pub key : k ≡ key_of h q

-- the 150 blocks of a sequence
pub record PartAsked (part : List ℕ) (h q : ℕ) : Type 0 where
  pub whole : length part ≡ 12000
  pub sequence : InSequence h q

-- where r says so there is no fault
pub record Clean (r : Bool) (fs : List Fault) : Type 0 where
  pub none : r ≡ true → fs ≡ []
