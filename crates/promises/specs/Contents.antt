-- What is lent to the writer beside the frame: the contents that it lays out.
use Rattle.std.specs.Prelude.{List, ℕ, ℤ}

pub record Contents : Type 0 where
  pub count : ℕ
  pub sound : List ℤ
  pub macroblocks : List ℕ
  pub time_code : List ℕ
  pub binary_group : List ℕ
