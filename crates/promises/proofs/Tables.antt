-- Laws of refusal tables: a table gives exactly the number that a list of tests comes to. Assumes nothing.
use Rattle.std.specs.Prelude.{Option, Some, None}
use mathlib.Core.Path.{◌≡◌, refl, sym, subst, ◌∙◌, ap}
use mathlib.Core.Bool.{Bool, true, false, not}
use mathlib.Core.List.{List, [], ◌∷◌}
use mathlib.Core.Logic.{inl, inr, ⊎_elim, ◌≢◌, ◌⊎◌}
use Prim.Native.Nat.{ℕ, suc, ◌<◌, ◌*◌}
use native.Mathlib.Omega.{arith}
use lib.Dec.{eqb, leb}
use lib.IntN.{ℤ, pos, negsuc}
use lib.ListN.{get_or}
use borrow.Author.Tests.{eq-eqb, ne_eqb, eqb-true, eqb-false, leb-true, leb-false, not-true, not-false}
use Rattle.base.specs.Calls.{Refusal, first_of, ◌when◌}
use Rattle.base.proofs.Cases.{by_bool, by_eq, clash}
use Rattle.base.proofs.Picks.{both_held, first_here, first_next}
use Rattle.paper.specs.declared.System.{System}
use Rattle.rules_format.specs.Systems.{system_of, is_no_system, sequences_of}
use Rattle.rules_format.specs.Samples.{in_range, all_in_range}
use Rattle.promises.specs.Refusals.{Table, ◌if◌, ◌else◌, none, Outside, SomeOutside}
use Rattle.rules_format.proofs.Paper.{known_below, none_above, columns}
use Rattle.rules_format.proofs.Samples.{all_in}
use Rattle.paper.specs.Paper.{sequences}

-- the table gives n, and no other number
pub record Exactly (table : Table) (n : ℕ) : Type 0 where
  pub gives : table n
  pub only : (r : ℕ) → table r → r ≡ n

pub exactly_none : Exactly none (first_of [])
unfolding first_of
exactly_none = record { gives = refl; only = λ r e. e }

-- a row that gives a number, and one that gives none
exactly_here : (row rows : Table) (n : ℕ) → row n → ((r : ℕ) → row r → r ≡ n) → Exactly (row else rows) n
exactly_here row rows n here one = record { gives = inl here; only = λ r. ⊎_elim (one r) (λ past. absurd (past.0 n here)) }

exactly_past : (row rows : Table) (n : ℕ) → ((r : ℕ) → row r → ⊥) → Exactly rows n → Exactly (row else rows) n
exactly_past row rows n never e = record { gives = inr (never, e.gives); only = λ r. ⊎_elim (λ here. absurd (never r here)) (λ past. e.only r past.1) }

-- where a table gives 0, no row before its last holds
pub row_past : {number : ℕ} {Holds Rest : Type 0} → number ≢ 0 → ((0 ≡ number) × Holds) ⊎ (((s : ℕ) → (s ≡ number) × Holds → ⊥) × Rest) → (Holds → ⊥) × Rest
row_past {number} some = ⊎_elim (λ h. absurd (some (sym h.0))) (λ p. ((λ h. p.0 number (refl, h)), p.1))

-- and back
pub row_on : {number : ℕ} {Holds Rest : Type 0} → (Holds → ⊥) → Rest → ((0 ≡ number) × Holds) ⊎ (((s : ℕ) → (s ≡ number) × Holds → ⊥) × Rest)
row_on none rest = inr ((λ s h. none h.1), rest)

-- a row that does not hold is passed over
pub row_skip : {number r : ℕ} {Holds Rest : Type 0} → (Holds → ⊥) → ((r ≡ number) × Holds) ⊎ (((s : ℕ) → (s ≡ number) × Holds → ⊥) × Rest) → Rest
row_skip none = ⊎_elim (λ h. absurd (none h.1)) (λ p. p.1)

-- ---- a row of a list of tests

-- what it is given for holds exactly where the test does
pub row_exactly : {Holds : Type 0} (number : ℕ) (b : Bool) (table : Table) (rows : List Refusal) → (b ≡ true → Holds) → (b ≡ false → Holds → ⊥)
    → (b ≡ false → Exactly table (first_of rows)) → Exactly (number if Holds else table) (first_of (number when b ∷ rows))
row_exactly {Holds} number b table rows holds not-holds rest =
    by_bool b
    (λ e.
    subst (Exactly (number if Holds else table)) (sym (first_here b number rows e))
    (exactly_here (number if Holds) table number (refl, holds e) (λ r given. given.0)))
    (λ e.
    subst (Exactly (number if Holds else table)) (sym (first_next b number rows e))
    (exactly_past (number if Holds) table (first_of rows) (λ r given. not-holds e given.1) (rest e)))

-- given where two numbers differ; the table has the second in other words
pub row_differs : (number a b b' : ℕ) (table : Table) (rows : List Refusal) → b' ≡ b → (a ≡ b → Exactly table (first_of rows))
    → Exactly (number if (a ≢ b') else table) (first_of (number when not (eqb a b) ∷ rows))
row_differs number a b b' table rows same rest =
    row_exactly number (not (eqb a b)) table rows
    (λ e z. eqb-false a b (not-true _ e) (z ∙ same))
    (λ e d. d (eqb-true a b (not-false _ e) ∙ sym same))
    (λ e. rest (eqb-true a b (not-false _ e)))

-- given for a fault, by its own number
pub row_fault : (row table : Table) (x : ℕ) (rows : List Refusal) → (x ≢ 0 → row x) → ((r : ℕ) → row r → (r ≢ 0) × (r ≡ x)) → (x ≡ 0 → Exactly table (first_of rows))
    → Exactly (row else table) (first_of (x when not (eqb x 0) ∷ rows))
row_fault row table x rows given one rest =
    by_eq x 0
    (λ z.
    subst (Exactly (row else table)) (sym (first_next _ x rows (off z)))
    (exactly_past row table (first_of rows) (λ r g. (one r g).0 ((one r g).1 ∙ z)) (rest z)))
    (λ d.
    subst (Exactly (row else table)) (sym (first_here _ x rows (on d)))
    (exactly_here row table x (given d) (λ r g. (one r g).1)))
  where
    off : x ≡ 0 → not (eqb x 0) ≡ false
    off z = rw (eq-eqb x 0 z) refl

    on : x ≢ 0 → not (eqb x 0) ≡ true
    on d = rw (ne_eqb x 0 d) refl

-- 1: "system above 3"
pub row_system : (k : ℕ) (table : Table) (rows : Option System → List Refusal) → ((y : System) → system_of k ≡ Some y → Exactly table (first_of (rows (Some y))))
    → Exactly (1 if (3 < k) else table) (first_of (1 when is_no_system (system_of k) ∷ rows (system_of k)))
row_system k table rows rest = by_number (system_of k) refl
  where
    no_true : is_no_system None ≡ false → ⊥
    no_true t = let z : ◌≡◌ {A = ℕ} 0 1 = cc in omega arith

    no_false : (y : System) → is_no_system (Some y) ≡ true → ⊥
    no_false y t = let z : ◌≡◌ {A = ℕ} 0 1 = cc in omega arith

    by_number : (s : Option System) → system_of k ≡ s → Exactly (1 if (3 < k) else table) (first_of (1 when is_no_system s ∷ rows s))
    by_number (Some y) e = row_exactly 1 (is_no_system (Some y)) table (rows (Some y)) (λ t. absurd (no_false y t)) (λ t above. omega (arith, known_below k y e)) (λ t. rest y e)
    by_number None e =
        row_exactly 1 (is_no_system None) table (rows None)
        (λ t. none_above k e) (λ t. absurd (no_true t)) (λ t. absurd (no_true t))

-- 2: "frame length is not 48,000·n"
pub row_length : (k : ℕ) (y : System) → system_of k ≡ Some y → (size : ℕ) (table : Table) (rows : List Refusal) → (size ≡ 48000 * sequences_of y → Exactly table (first_of rows))
    → Exactly (2 if (size ≢ 48000 * sequences k) else table) (first_of (2 when not (eqb size (48000 * sequences_of y)) ∷ rows))
row_length k y known size table rows rest =
    row_differs 2 size (48000 * sequences_of y) (48000 * sequences k) table rows (ap (λ (n : ℕ). 48000 * n) (columns k y known).sequences_is) rest

-- ---- 31: "a sample outside -32,768 to 32,768"

range_or : (z : ℤ) → in_range z ≡ false → Outside z
unfolding in_range
range_or (pos v) e = leb-false v 32768 e
range_or (negsuc v) e = by_bool (leb v 32767) (λ t. absurd (clash refl (rw t at e))) (λ d. leb-false v 32767 d)

range_clash : (z : ℤ) → in_range z ≡ true → Outside z → ⊥
unfolding in_range
range_clash (pos v) e o = omega (arith, o, leb-true v 32768 e)
range_clash (negsuc v) e o = omega (arith, o, leb-true v 32767 (both_held (leb v 32767) true e).0)

pub some_outside : (sound : List ℤ) → all_in_range sound ≡ false → SomeOutside sound
unfolding all_in_range
some_outside [] e = let z : ◌≡◌ {A = ℕ} 0 1 = cc in absurd (omega arith)
some_outside (x ∷ xs) e =
    by_bool (in_range x)
    (λ t. let o = some_outside xs (rw t at e) in record { i = suc o.i; within = omega (arith, o.within); outside = o.outside })
    (λ d. record { i = 0; within = omega arith; outside = range_or x d })

pub none_outside : (sound : List ℤ) → all_in_range sound ≡ true → SomeOutside sound → ⊥
none_outside sound e o = range_clash (get_or sound o.i (pos 0)) (all_in sound o.i e o.within) o.outside

pub row_outside : (sound : List ℤ) (table : Table) (rows : List Refusal) → (all_in_range sound ≡ true → Exactly table (first_of rows))
    → Exactly (31 if SomeOutside sound else table) (first_of (31 when not (all_in_range sound) ∷ rows))
row_outside sound table rows rest =
    row_exactly 31 (not (all_in_range sound)) table rows
    (λ e. some_outside sound (not-true _ e))
    (λ e. none_outside sound (not-false _ e))
    (λ e. rest (not-false _ e))
