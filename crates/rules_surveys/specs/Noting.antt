-- The list as a loop leaves it that notes faults one after the other: what `Records` says at once, said record by record.
use Rattle.std.specs.Prelude.{◌≡◌, List, [], ◌∷◌, ◌++◌, ℕ, ◌+◌, ◌*◌, ltb, length, take, drop}
use Rattle.base.specs.Pick.{pick}
use Rattle.paper.specs.declared.Fault.{Fault}
use Rattle.rules_surveys.specs.Records.{numbers, width, room}

-- one record more, after t of them, where there is room for it
unfoldable pub put : List ℕ → ℕ → Fault → List ℕ
put list t f = pick (ltb t (room list)) (take (width * t) list ++ numbers f ++ drop (width * (t + 1)) list) list

-- records more, after t of them
unfoldable pub more : List ℕ → ℕ → List Fault → List ℕ
more list t [] = list
more list t (f ∷ fs) = more (put list t f) (t + 1) fs

-- a survey goes on: t faults came before, fs are found, the list becomes list' and the total r
pub record Noted (list : List ℕ) (t : ℕ) (fs : List Fault) (list' : List ℕ) (r : ℕ) : Type 0 where
  pub total : r ≡ t + length fs
  pub left : list' ≡ more list t fs
