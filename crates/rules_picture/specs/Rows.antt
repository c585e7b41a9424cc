-- The rows that the Recommendation prints of its tables 22 to 24, as one table under one test.
use Rattle.std.specs.Prelude.{Bool, true, false, ◌&&◌, List, [], ◌∷◌, ◌++◌, ℕ, ◌+◌, ◌*◌, eqb, Option, Some, None}
use Rattle.base.specs.Pick.{pick}
use Rattle.paper.specs.declared.System.{System}
use Rattle.paper.specs.declared.System.TheVariants.{I60, I50, P60, P50}
use Rattle.rules_picture.specs.Picture.{slot, carried_in}

-- the last column: compressed macroblock CM h,i,j,k, or a dash
pub data Compressed : Type 0 where
  CM : (h i j k : ℕ) → Compressed
  none : Compressed

-- a row: DIF channel h, DIF sequence q, DIF block V(v), and what it carries
pub data Row : Type 0 where
  row : System → (h q v : ℕ) → Compressed → Row

-- the number of CM h,i,j,k: ((R·h + i)·5 + j)·27 + k with R rows, 10 or 11; row 11 of system 1 is the edge
abbrev pub numbered : System → ℕ → ℕ → ℕ → ℕ → ℕ
numbered I60 h i j k = ((10 * h + i) * 5 + j) * 27 + k
numbered I50 h i j k = pick (eqb i 11) (5940 + 27 * j + k) (((11 * h + i) * 5 + j) * 27 + k)
numbered P60 h i j k = ((10 * h + i) * 5 + j) * 27 + k
numbered P50 h i j k = ((10 * h + i) * 5 + j) * 27 + k

-- the same is printed and carried
unfoldable pub meets : System → Compressed → Option ℕ → Bool
meets y (CM h i j k) (Some b) = eqb b (numbered y h i j k)
meets y (CM h i j k) None = false
meets y none (Some b) = false
meets y none None = true

unfoldable pub rows_agree : List Row → Bool
rows_agree [] = true
rows_agree (row y h q v c ∷ rows) = meets y c (carried_in y (slot h q v)) && rows_agree rows

-- table 22: "the 60 Hz system", which systems 0 and 2 are
unfoldable pub table22 : System → List Row
table22 y =
    row y 0 0 0 (CM 0 2 2 0)
    ∷ row y 0 0 1 (CM 0 6 1 0)
    ∷ row y 0 0 2 (CM 0 8 3 0)
    ∷ row y 0 0 3 (CM 0 0 0 0)
    ∷ row y 0 0 4 (CM 0 4 4 0)
    ∷ row y 0 9 134 (CM 0 3 4 26)
    ∷ row y 1 0 0 (CM 1 6 2 0)
    ∷ row y 1 0 1 (CM 1 0 1 0)
    ∷ row y 1 0 2 (CM 1 2 3 0)
    ∷ row y 1 0 3 (CM 1 4 0 0)
    ∷ row y 1 0 4 (CM 1 8 4 0)
    ∷ row y 1 9 134 (CM 1 7 4 26)
    ∷ row y 3 0 0 (CM 3 4 2 0)
    ∷ row y 3 0 1 (CM 3 8 1 0)
    ∷ row y 3 0 2 (CM 3 0 3 0)
    ∷ row y 3 0 3 (CM 3 2 0 0)
    ∷ row y 3 0 4 (CM 3 6 4 0)
    ∷ row y 3 9 134 (CM 3 5 4 26)
    ∷ []

-- table 23: 1080/50/I
unfoldable pub table23 : List Row
table23 =
    row I50 0 0 0 (CM 0 2 2 0)
    ∷ row I50 0 0 1 (CM 0 6 1 0)
    ∷ row I50 0 0 2 (CM 0 8 3 0)
    ∷ row I50 0 0 3 (CM 0 0 0 0)
    ∷ row I50 0 0 4 (CM 0 4 4 0)
    ∷ row I50 0 10 134 (CM 0 3 4 26)
    ∷ row I50 0 11 0 (CM 0 11 0 0)
    ∷ row I50 0 11 1 (CM 0 11 1 0)
    ∷ row I50 0 11 134 (CM 0 11 4 26)
    ∷ row I50 1 0 0 (CM 1 6 2 0)
    ∷ row I50 1 0 1 (CM 1 10 1 0)
    ∷ row I50 1 0 2 (CM 1 1 3 0)
    ∷ row I50 1 0 3 (CM 1 4 0 0)
    ∷ row I50 1 0 4 (CM 1 8 4 0)
    ∷ row I50 1 10 134 (CM 1 7 4 26)
    ∷ row I50 1 11 0 none
    ∷ row I50 1 11 134 none
    ∷ row I50 3 0 0 (CM 3 3 2 0)
    ∷ row I50 3 0 1 (CM 3 7 1 0)
    ∷ row I50 3 0 2 (CM 3 9 3 0)
    ∷ row I50 3 0 3 (CM 3 1 0 0)
    ∷ row I50 3 0 4 (CM 3 5 4 0)
    ∷ row I50 3 10 134 (CM 3 4 4 26)
    ∷ row I50 3 11 0 none
    ∷ row I50 3 11 134 none
    ∷ []

-- table 24: 720/50/P
unfoldable pub table24 : List Row
table24 =
    row P50 0 0 0 (CM 0 2 2 0)
    ∷ row P50 0 0 1 (CM 0 6 1 0)
    ∷ row P50 0 0 2 (CM 0 8 3 0)
    ∷ row P50 0 0 3 (CM 0 0 0 0)
    ∷ row P50 0 0 4 (CM 0 4 4 0)
    ∷ row P50 0 9 134 (CM 0 3 4 26)
    ∷ row P50 0 10 0 none
    ∷ row P50 0 10 134 none
    ∷ row P50 0 11 0 none
    ∷ row P50 0 11 134 none
    ∷ row P50 1 0 0 (CM 1 6 2 0)
    ∷ row P50 1 0 1 (CM 1 0 1 0)
    ∷ row P50 1 0 2 (CM 1 2 3 0)
    ∷ row P50 1 0 3 (CM 1 4 0 0)
    ∷ row P50 1 0 4 (CM 1 8 4 0)
    ∷ row P50 1 9 134 (CM 1 7 4 26)
    ∷ row P50 1 10 0 none
    ∷ row P50 1 10 134 none
    ∷ row P50 1 11 0 none
    ∷ row P50 1 11 134 none
    ∷ row P50 3 0 0 (CM 3 4 2 0)
    ∷ row P50 3 0 1 (CM 3 8 1 0)
    ∷ row P50 3 0 2 (CM 3 0 3 0)
    ∷ row P50 3 0 3 (CM 3 2 0 0)
    ∷ row P50 3 0 4 (CM 3 6 4 0)
    ∷ row P50 3 9 134 (CM 3 5 4 26)
    ∷ row P50 3 10 0 none
    ∷ row P50 3 10 134 none
    ∷ row P50 3 11 0 none
    ∷ row P50 3 11 134 none
    ∷ []

unfoldable pub printed_rows : List Row
printed_rows = table22 I60 ++ (table22 P60 ++ (table23 ++ table24))
