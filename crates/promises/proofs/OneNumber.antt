-- A refusal table gives one number at most. Assumes nothing.
use mathlib.Core.Path.{◌≡◌, sym, ap, ◌∙◌}
use mathlib.Core.List.{List}
use mathlib.Core.Logic.{⊎_elim}
use Prim.Native.Nat.{ℕ}
use native.Mathlib.Omega.{arith}
use lib.IntN.{ℤ}
use Rattle.base.proofs.Cases.{by_lt, by_eq}
use Rattle.paper.specs.Paper.{stream_fault}
use Rattle.promises.specs.Contents.{Contents}
use Rattle.promises.specs.Refusals.{Table, ◌if◌, ◌else◌, none, FirstFault, OwnFault, checked, id_table, survey_table, salvage_table, sequence_table}
use Rattle.promises.specs.Refusals.{view_table, check_table, audio_table, macroblock_table, time_table, sounded, replace_table, write_table}

abbrev pub One : Table → Type 0
One table = (r r' : ℕ) → table r → table r' → r ≡ r'

-- ---- the rows

none_one : One none
none_one r r' e e' = e ∙ sym e'

if_one : (number : ℕ) (Holds : Type 0) → One (number if Holds)
if_one number Holds r r' g g' = g.0 ∙ sym g'.0

-- a row that gives a number keeps those behind it from giving one
else_one : (row rows : Table) → One row → One rows → One (row else rows)
else_one row rows a b r r' g g' =
    ⊎_elim
    (λ here. ⊎_elim (λ here'. a r r' here here') (λ past'. absurd (past'.0 r here)) g')
    (λ past. ⊎_elim (λ here'. absurd (past.0 r' here')) (λ past'. b r r' past.1 past'.1) g')
    g

row : (number : ℕ) (Holds : Type 0) (rows : Table) → One rows → One (number if Holds else rows)
row number Holds rows b = else_one (number if Holds) rows (if_one number Holds) b

-- the first of two faulty blocks is one block
first_one : (n : ℕ) (f : List ℕ) → One (FirstFault n f)
first_one n f r r' g g' =
    by_eq g.j g'.j
    (λ e. g.is ∙ ap (λ (j : ℕ). stream_fault n f j j) e ∙ sym g'.is)
    (λ d.
    by_lt g.j g'.j
    (λ l. absurd (g.some (g.is ∙ g'.before g.j l)))
    (λ m. absurd (g'.some (g'.is ∙ g.before g'.j (omega (arith, m, d))))))

own_one : (n : ℕ) (f : List ℕ) (h q p : ℕ) → One (OwnFault n f h q p)
own_one n f h q p r r' g g' = g.is ∙ sym g'.is

checked_one : (k : ℕ) (f : List ℕ) (rows : Table) → One rows → One (checked k f rows)
checked_one k f rows b = else_one _ _ (first_one _ f) (row 21 _ _ (row 22 _ rows b))

sounded_one : (k : ℕ) (f : List ℕ) (c : ℕ) (rows : Table) → One rows → One (sounded k f c rows)
sounded_one k f c rows b = row 23 _ _ (row 24 _ _ (row 25 _ rows b))

-- ---- call by call

pub id_one : (id : List ℕ) → One (id_table id)
id_one id = row 4 _ _ (row 11 _ none none_one)

pub survey_one : (k size : ℕ) → One (survey_table k size)
survey_one k size = row 1 _ _ (row 2 _ none none_one)

pub salvage_one : (k size room : ℕ) → One (salvage_table k size room)
salvage_one k size room = row 1 _ _ (row 2 _ _ (row 4 _ none none_one))

pub sequence_one : (k h q size : ℕ) → One (sequence_table k h q size)
sequence_one k h q size = row 1 _ _ (row 3 _ _ (row 4 _ none none_one))

pub view_one : (k : ℕ) (f : List ℕ) (h q p : ℕ) → One (view_table k f h q p)
view_one k f h q p = row 1 _ _ (row 2 _ _ (row 3 _ _ (else_one _ none (own_one _ f h q p) none_one)))

pub check_one : (k : ℕ) (f : List ℕ) → One (check_table k f)
check_one k f = row 1 _ _ (row 2 _ _ (checked_one k f none none_one))

pub audio_one : (k : ℕ) (f : List ℕ) (c room : ℕ) → One (audio_table k f c room)
audio_one k f c room = row 1 _ _ (row 2 _ _ (row 3 _ _ (row 4 _ _ (checked_one k f _ (sounded_one k f c none none_one)))))

pub replace_one : (k : ℕ) (f : List ℕ) (c : ℕ) (samples : List ℤ) → One (replace_table k f c samples)
replace_one k f c samples = row 1 _ _ (row 2 _ _ (row 3 _ _ (checked_one k f _ (sounded_one k f c _ (row 29 _ _ (row 31 _ _ (row 33 _ none none_one)))))))

pub macroblock_one : (k : ℕ) (f : List ℕ) (b : ℕ) → One (macroblock_table k f b)
macroblock_one k f b = row 1 _ _ (row 2 _ _ (row 3 _ _ (checked_one k f _ (row 23 _ none none_one))))

pub time_one : (k : ℕ) (f : List ℕ) → One (time_table k f)
time_one k f = row 1 _ _ (row 2 _ _ (checked_one k f _ (row 23 _ _ (row 26 _ _ (row 27 _ none none_one)))))

pub write_one : (k : ℕ) (l : Contents) (size : ℕ) → One (write_table k l size)
write_one k l size = row 1 _ _ (row 2 _ _ (row 3 _ _ (row 4 _ _ (row 31 _ _ (row 32 _ none none_one)))))
