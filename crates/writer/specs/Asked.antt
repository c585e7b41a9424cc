-- What the private functions ask of their callers.
use Rattle.std.specs.Prelude.{◌≡◌, List, ◌⊎◌, ℕ, ◌*◌, ◌≤◌, ◌<◌, ℤ, length}
use Rattle.std.specs.Borrow.{MutBor}
use Rattle.paper.specs.declared.System.{System}
use Rattle.rules_format.specs.Systems.{sequences_of}

-- sequence q of DIF channel h, with s sequences to a half
pub record ChannelAsked (s h q : ℕ) : Type 0 where
  pub half : (s ≡ 5) ⊎ (s ≡ 6)
  pub channel : h < 4
  pub sequence : q < 2 * s

-- sound of eight audio channels, one of which is c; a count is below 2,000
pub record SamplesAsked (sound : List ℤ) (c count : ℕ) : Type 0 where
  pub above : 0 < c
  pub below : c < 9
  pub counted : count < 2000
  pub sounds : length sound ≡ 8 * count

-- a block writer, by what it leaves of a block: of block k below n the bytes of block k
abbrev pub PutsBlocks : (MutBor (List ℕ) → ℕ → Unit {0} → MutBor (List ℕ) → Type 0) → (ℕ → List ℕ) → ℕ → Type 0
PutsBlocks post bytes n = (p q : MutBor (List ℕ)) (k : ℕ) → k < n → length p.now ≡ 80 → post p k tt q → q.now ≡ bytes k

-- fifteen video blocks, from V(v) on
pub record VideosAsked (part : List ℕ) (v : ℕ) : Type 0 where
  pub long : length part ≡ 1200
  pub below : v ≤ 120

-- the bank of A(a)
pub record BankAsked (part : List ℕ) (a : ℕ) : Type 0 where
  pub long : length part ≡ 1280
  pub below : a < 9

-- sequence q of DIF channel h
pub record SequenceAsked (part : List ℕ) (y : System) (h q : ℕ) : Type 0 where
  pub long : length part ≡ 12000
  pub channel : h < 4
  pub sequence : q < sequences_of y

pub record ChannelPartAsked (part : List ℕ) (y : System) (h : ℕ) : Type 0 where
  pub long : length part ≡ sequences_of y * 12000
  pub channel : h < 4
