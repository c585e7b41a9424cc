-- What the private functions ask of their callers.
use Rattle.std.specs.Prelude.{◌≡◌, ◌⊎◌, ℕ, ◌<◌}

-- audio block a of the sequence of rank r, with s of them
pub record First (s r a : ℕ) : Type 0 where
  pub half : (s ≡ 5) ⊎ (s ≡ 6)
  pub rank : r < s
  pub audio : a < 9
