-- The slot of a macroblock carries it, and a macroblock lies in the slot that carries it: a rule of R rows, by the parts of a number and of a slot, each with
-- its way back; then ten rows, eleven rows and the edge unit. Assumes nothing.
use Rattle.std.specs.Prelude.{Option, Some, None}
use mathlib.Core.Path.{◌≡◌, refl, sym, ap, subst, ◌∙◌}
use mathlib.Core.Bool.{Bool, true, false}
use Prim.Native.Nat.{ℕ, ◌+◌, ◌-◌, ◌*◌, ◌/◌, ◌%◌, ◌<◌, ◌≤◌}
use native.Mathlib.Nat.{mod-lt, div-eq_of_lt, mod-eq_of_lt, div-add-mod, mul-add-div, mul-add-mod_self_left, div-div-eq-div-mul, div-lt_iff_lt-mul, mul-le-mul_left}
use native.Mathlib.Omega.{arith}
use lib.Dec.{T, eqb, ltb, eqb→eq, ltb→lt}
use borrow.Author.Tests.{eqb-true, lt-ltb, le-ltb, eq-eqb}
use Rattle.base.specs.Pick.{pick}
use Rattle.base.specs.Below.{below}
use Rattle.base.proofs.Cases.{by_lt}
use Rattle.base.proofs.Picks.{pick_true, pick_false}
use Rattle.base.proofs.Below.{below_at}
use Rattle.paper.specs.declared.Slot.{Slot}
use Rattle.rules_picture.specs.Picture.{slot, step_of, column_of, macroblock, unit_of, turn_of, ten_carries, eleven_carries, within, unit_at, slot_at, ten_turn}
use Rattle.rules_picture.specs.Picture.{ten_found, eleven_found, carried_by}

-- ---- macroblock: the parts of a number, with R·h + row as its row

module _ (row column k : ℕ) (hc : column < 5) (hk : k < 27) where
  number_row : macroblock row column k / 135 ≡ row
  number_row = omega arith

  number_column : macroblock row column k / 27 % 5 ≡ column
  number_column = omega arith

  number_place : macroblock row column k % 27 ≡ k
  number_place = omega arith

  number_below : (R : ℕ) → row < 4 * R → macroblock row column k < 540 * R
  number_below R l = omega arith

number_parts : (b : ℕ) → macroblock (b / 135) (b / 27 % 5) (b % 27) ≡ b
number_parts b = omega arith

module _ (R h row : ℕ) (l : row < R) where
  rows_channel : (R * h + row) / R ≡ h
  rows_channel = mul-add-div (omega arith) h row ∙ ap (λ (x : ℕ). h + x) (div-eq_of_lt l) ∙ omega arith

  rows_row : (R * h + row) % R ≡ row
  rows_row = mul-add-mod_self_left R h row ∙ mod-eq_of_lt l

  rows_below : h < 4 → R * h + row < 4 * R
  rows_below lh = let most : R * h ≤ R * 3 = mul-le-mul_left R (omega arith) in omega arith

-- ---- slot_at, turn_of: z and m of a slot, and back

module _ (z m : ℕ) (hm : m < 5) where
  slot_turn : turn_of (z / 27) (5 * (z % 27) + m) ≡ z
  slot_turn = omega arith

  slot_unit : unit_of (5 * (z % 27) + m) ≡ m
  slot_unit = omega arith

  video_below : 5 * (z % 27) + m < 135
  video_below = omega arith

module _ (q v : ℕ) (hv : v < 135) where
  turn_sequence : turn_of q v / 27 ≡ q
  turn_sequence = omega arith

  turn_video : 5 * (turn_of q v % 27) + unit_of v ≡ v
  turn_video = omega arith

  turn_below : (R : ℕ) → q < R → turn_of q v < 27 * R
  turn_below R l = omega arith

-- ---- column_of, unit_at: five units, five columns

each_below : (f : ℕ → ℕ) (m n : ℕ) → T (below (λ (i : ℕ). ltb (f i) m) n) → (i : ℕ) → i < n → f i < m
each_below f m n t i l = ltb→lt (f i) m (below_at (λ (j : ℕ). ltb (f j) m) n t i l)

each_same : (f : ℕ → ℕ) (n : ℕ) → T (below (λ (i : ℕ). eqb (f i) i) n) → (i : ℕ) → i < n → f i ≡ i
each_same f n t i l = eqb→eq (f i) i (below_at (λ (j : ℕ). eqb (f j) j) n t i l)

column_below : (m : ℕ) → m < 5 → column_of m < 5
column_below = each_below column_of 5 5 tt

unit_below : (c : ℕ) → c < 5 → unit_at c < 5
unit_below = each_below unit_at 5 5 tt

unit_column : (m : ℕ) → m < 5 → unit_at (column_of m) ≡ m
unit_column = each_same (λ (m : ℕ). unit_at (column_of m)) 5 tt

column_unit : (c : ℕ) → c < 5 → column_of (unit_at c) ≡ c
column_unit = each_same (λ (c : ℕ). column_of (unit_at c)) 5 tt

-- ---- step_of: the row of an order o with R rows, i = (4h + o) mod R, and the order of a row

abbrev row_at : ℕ → ℕ → ℕ → ℕ → ℕ
row_at R h m o = ((4 * h + o) % R + step_of m) % R

abbrev order_at : ℕ → ℕ → ℕ → ℕ → ℕ
order_at R h m row = ((row + R - step_of m) % R + (R - 4) * h) % R

-- a test of 4 DIF channels, 5 units and R orders or rows: f gives the last one back
module _ (f : ℕ → ℕ → ℕ → ℕ) (R : ℕ) where
  abbrev in_unit : ℕ → ℕ → Bool
  in_unit h m = below (λ (o : ℕ). eqb (f h m o) o) R

  abbrev in_channel : ℕ → Bool
  in_channel h = below (in_unit h) 5

  turned_back : T (below in_channel 4) → (h m o : ℕ) → h < 4 → m < 5 → o < R → f h m o ≡ o
  turned_back t h m o lh lm lo = each_same (f h m) R (below_at (in_unit h) 5 (below_at in_channel 4 t h lh) m lm) o lo

-- ---- a rule with R rows

-- the number that slot z, m of DIF channel h carries, by the order and the place k of z
abbrev number_by : ℕ → (ℕ → ℕ) → (ℕ → ℕ) → ℕ → ℕ → ℕ → ℕ
number_by R order place h z m = macroblock (R * h + row_at R h m (order z)) (column_of m) (place z)

-- the slot of macroblock b, with z by its place b mod 27 and an order
abbrev slot_by : ℕ → (ℕ → ℕ → ℕ) → ℕ → Slot
slot_by R turn b =
    slot_at (b / 135 / R) (turn b (order_at R (b / 135 / R) (unit_at (b / 27 % 5)) (b / 135 % R))) (unit_at (b / 27 % 5))

-- f says what a slot carries and g where a macroblock lies; z has an order below R and a place below 27, and `turn` is the way back
record Ruled (R : ℕ) (order place : ℕ → ℕ) (turn : ℕ → ℕ → ℕ) (f : ℕ → ℕ → ℕ → Option ℕ) (g : ℕ → Option Slot) : Type 0 where
  carries : (h q v : ℕ) → q < R → v < 135 → f h q v ≡ Some (number_by R order place h (turn_of q v) (unit_of v))
  found : (b : ℕ) → b < 540 * R → g b ≡ Some (slot_by R turn b)
  rows : 0 < R
  order_row : (h m o : ℕ) → h < 4 → m < 5 → o < R → order_at R h m (row_at R h m o) ≡ o
  row_order : (h m row : ℕ) → h < 4 → m < 5 → row < R → row_at R h m (order_at R h m row) ≡ row
  order_turn : (b o : ℕ) → o < R → order (turn b o) ≡ o
  place_turn : (b o : ℕ) → o < R → place (turn b o) ≡ b % 27
  turn_order : (b z : ℕ) → z < 27 * R → b % 27 ≡ place z → turn b (order z) ≡ z
  order_below : (z : ℕ) → order z < R
  place_below : (z : ℕ) → z < 27 * R → place z < 27
  turn_below : (b o : ℕ) → o < R → turn b o < 27 * R

pub within_there : (f : ℕ → ℕ → ℕ → Option ℕ) (s : Slot) → s.channel < 4 → s.video.0 < 135 → within f s ≡ f s.channel s.sequence s.video.0
unfolding within
within_there f s h v = pick_true _ _ (lt-ltb _ _ h) ∙ pick_true _ _ (lt-ltb _ _ v)

module _ {R : ℕ} {order place : ℕ → ℕ} {turn : ℕ → ℕ → ℕ} {f : ℕ → ℕ → ℕ → Option ℕ} {g : ℕ → Option Slot} (rule : Ruled R order place turn f g) where
  -- the slot of a macroblock carries it
  forth_by : (b : ℕ) → b < 540 * R → carried_by (within f) (g b) ≡ Some b
  forth_by b hb =
      let h = b / 135 / R in
      let row = b / 135 % R in
      let column = b / 27 % 5 in
      let m = unit_at column in
      let o = order_at R h m row in
      let z = turn b o in
      let lh : h < 4 = (div-lt_iff_lt-mul rule.rows).1 (omega arith) in
      let lr : row < R = mod-lt (b / 135) rule.rows in
      let lc : column < 5 = omega arith in
      let lm : m < 5 = unit_below column lc in
      let lo : o < R = mod-lt _ rule.rows in
      let lq : z / 27 < R = let lz = rule.turn_below b o lo in omega arith in
      let lv = video_below z m lm in
      ap (carried_by (within f)) (rule.found b hb)
      ∙ within_there f (slot_by R turn b) lh lv
      ∙ rule.carries h (z / 27) (5 * (z % 27) + m) lq lv
      ∙ (λ i. Some (number_by R order place h (slot_turn z m lm i) (slot_unit z m lm i)))
      ∙ (λ i. Some (macroblock (R * h + row_at R h m (rule.order_turn b o lo i)) (column_unit column lc i) (rule.place_turn b o lo i)))
      ∙ (λ i. Some (macroblock (R * h + rule.row_order h m row lh lm lr i) column (b % 27)))
      ∙ (λ i. Some (macroblock (div-add-mod (b / 135) R i) column (b % 27)))
      ∙ ap Some (number_parts b)

  -- the number that a slot carries is below 540·R, and lies in that slot
  lies_by : (h q v n : ℕ) → h < 4 → q < R → v < 135 → n ≡ number_by R order place h (turn_of q v) (unit_of v) → (n < 540 * R) × (g n ≡ Some (slot h q v))
  lies_by h q v n lh lq lv e =
      let z = turn_of q v in
      let m = unit_of v in
      let row = row_at R h m (order z) in
      let lm : m < 5 = omega arith in
      let lz : z < 27 * R = turn_below q v lv R lq in
      let lr : row < R = mod-lt _ rule.rows in
      let lc = column_below m lm in
      let lk = rule.place_below z lz in
      let row_is : n / 135 ≡ R * h + row = ap (λ (x : ℕ). x / 135) e ∙ number_row _ (column_of m) (place z) lc lk in
      let h_is : n / 135 / R ≡ h = ap (λ (x : ℕ). x / R) row_is ∙ rows_channel R h row lr in
      let r_is : n / 135 % R ≡ row = ap (λ (x : ℕ). x % R) row_is ∙ rows_row R h row lr in
      let m_is : unit_at (n / 27 % 5) ≡ m = ap (λ (x : ℕ). unit_at (x / 27 % 5)) e ∙ ap unit_at (number_column (R * h + row) _ (place z) lc lk) ∙ unit_column m lm in
      let k_is : n % 27 ≡ place z = ap (λ (x : ℕ). x % 27) e ∙ number_place (R * h + row) (column_of m) _ lc lk in
      let less : n < 540 * R = rw e (number_below (R * h + row) (column_of m) (place z) lc lk R (rows_below R h row lr lh)) in (
        less,
        rule.found n less
            ∙ (λ i. Some (slot_at (h_is i) (turn n (order_at R (h_is i) (m_is i) (r_is i))) (m_is i)))
            ∙ (λ i. Some (slot_at h (turn n (rule.order_row h m (order z) lh lm (rule.order_below z) i)) m))
            ∙ (λ i. Some (slot_at h (rule.turn_order n z lz k_is i) m))
            ∙ (λ i. Some (slot h (turn_sequence q v lv i) (turn_video q v lv i))),
      )

  back_by : (h q v b : ℕ) → h < 4 → q < R → v < 135 → f h q v ≡ Some b → (b < 540 * R) × (g b ≡ Some (slot h q v))
  back_by h q v b lh lq lv e = lies_by h q v b lh lq lv (let c = rule.carries h q v lq lv in cc)

-- ---- ten_carries, ten_found: the order of z is q div 5 + 2z

abbrev ten_order_of : ℕ → ℕ
ten_order_of z = (z / 27 / 5 + 2 * z) % 10

abbrev ten_place_of : ℕ → ℕ
ten_place_of z = z / 5 % 27

ten_carries_lem : (h q v : ℕ) → q < 10 → v < 135 → ten_carries h q v ≡ Some (number_by 10 ten_order_of ten_place_of h (turn_of q v) (unit_of v))
unfolding ten_carries
ten_carries_lem h q v lq lv = rw (← i_is) (pick_true _ _ (lt-ltb q _ (omega (arith, lq))))
  where
    i_is : (4 * h + q / 5 + 2 * turn_of q v) % 10 ≡ (4 * h + ten_order_of (turn_of q v)) % 10
    i_is = rw (turn_sequence q v lv) (omega arith)

ten_found_lem : (b : ℕ) → b < 5400 → ten_found b ≡ Some (slot_by 10 ten_turn b)
unfolding ten_found
ten_found_lem b l = rw (div-div-eq-div-mul b 135 10) (pick_true _ _ (lt-ltb b 5400 l))

-- z is 135a + 5k + d, and its order is a + 2d
module _ (a k d : ℕ) (la : a < 2) (lk : k < 27) (ld : d < 5) where
  ten_half : (135 * a + 5 * k + d) / 27 / 5 ≡ a
  ten_half = omega arith

  ten_order : ten_order_of (135 * a + 5 * k + d) ≡ a + 2 * d
  ten_order = rw ten_half (omega arith)

  ten_place : ten_place_of (135 * a + 5 * k + d) ≡ k
  ten_place = omega arith

  ten_turn_lem : (b : ℕ) → b % 27 ≡ k → ten_turn b (ten_order_of (135 * a + 5 * k + d)) ≡ 135 * a + 5 * k + d
  ten_turn_lem b e = rw ten_order (omega arith)

ten_ruled : Ruled 10 ten_order_of ten_place_of ten_turn ten_carries ten_found
ten_ruled = record {
  carries = ten_carries_lem;
  found = ten_found_lem;
  rows = omega arith;
  order_row = turned_back (λ (h m o : ℕ). order_at 10 h m (row_at 10 h m o)) 10 tt;
  row_order = turned_back (λ (h m row : ℕ). row_at 10 h m (order_at 10 h m row)) 10 tt;
  order_turn = λ b o l. ten_order (o % 2) (b % 27) (o / 2) (omega arith) (omega arith) (omega arith) ∙ omega arith;
  place_turn = λ b o l. ten_place (o % 2) (b % 27) (o / 2) (omega arith) (omega arith) (omega arith);
  turn_order = λ b z l e.
      let parts : 135 * (z / 135) + 5 * (z / 5 % 27) + z % 5 ≡ z = omega arith in
      subst (λ (x : ℕ). ten_turn b (ten_order_of x) ≡ x) parts (ten_turn_lem (z / 135) (z / 5 % 27) (z % 5) (omega arith) (omega arith) (omega arith) b e);
  order_below = λ z. omega arith;
  place_below = λ z l. omega arith;
  turn_below = λ b o l. omega arith;
}

pub ten_forth : (b : ℕ) → b < 5400 → carried_by (within ten_carries) (ten_found b) ≡ Some b
ten_forth = forth_by ten_ruled

pub ten_back : (h q v b : ℕ) → h < 4 → q < 10 → v < 135 → ten_carries h q v ≡ Some b → (b < 5400) × (ten_found b ≡ Some (slot h q v))
ten_back = back_by ten_ruled

-- ---- eleven_carries, eleven_found: z is 11 times its place and its order

eleven_carries_lem : (h q v : ℕ) → q < 11 → v < 135 → eleven_carries h q v ≡ Some (number_by 11 (λ (z : ℕ). z % 11) (λ (z : ℕ). z / 11) h (turn_of q v) (unit_of v))
unfolding eleven_carries
eleven_carries_lem h q v lq lv = rw (← i_is) (pick_true _ _ (lt-ltb q 11 lq))
  where
    i_is : (4 * h + turn_of q v) % 11 ≡ (4 * h + turn_of q v % 11) % 11
    i_is = omega arith

eleven_found_lem : (b : ℕ) → b < 5940 → eleven_found b ≡ Some (slot_by 11 (λ (n o : ℕ). 11 * (n % 27) + o) b)
unfolding eleven_found
eleven_found_lem b l = rw (div-div-eq-div-mul b 135 11) (pick_true _ _ (lt-ltb b 5940 l))

eleven_ruled : Ruled 11 (λ (z : ℕ). z % 11) (λ (z : ℕ). z / 11) (λ (n o : ℕ). 11 * (n % 27) + o) eleven_carries eleven_found
eleven_ruled = record {
  carries = eleven_carries_lem;
  found = eleven_found_lem;
  rows = omega arith;
  order_row = turned_back (λ (h m o : ℕ). order_at 11 h m (row_at 11 h m o)) 11 tt;
  row_order = turned_back (λ (h m row : ℕ). row_at 11 h m (order_at 11 h m row)) 11 tt;
  order_turn = λ b o l. omega arith;
  place_turn = λ b o l. omega arith;
  turn_order = λ b z l e. omega arith;
  order_below = λ z. omega arith;
  place_below = λ z l. omega arith;
  turn_below = λ b o l. omega arith;
}

-- ---- eleven_carries, eleven_found: the edge unit, sequence 11 of DIF channel 0

pub carried_picked : (t : Bool) (x : Option ℕ) (b : ℕ) → pick t x None ≡ Some b → (t ≡ true) × (x ≡ Some b)
unfolding pick
carried_picked true x b e = (refl, e)
carried_picked false x b e = let q : ◌≡◌ {A = ℕ} 0 1 = cc in absurd (omega arith)

edge_carries : (h v : ℕ) → eleven_carries h 11 v ≡ pick (eqb h 0) (Some (5940 + 27 * (v % 5) + v / 5)) None
unfolding eleven_carries pick
edge_carries h v = refl

edge_found : (b : ℕ) → 5940 ≤ b → b < 6075 → eleven_found b ≡ Some (slot 0 11 (5 * ((b - 5940) % 27) + (b - 5940) / 27))
unfolding eleven_found
edge_found b past l = pick_false _ _ (le-ltb b 5940 past) ∙ pick_true _ _ (lt-ltb b 6075 l)

edge_forth : (b : ℕ) → 5940 ≤ b → b < 6075 → carried_by (within eleven_carries) (eleven_found b) ≡ Some b
edge_forth b past l =
    let v = 5 * ((b - 5940) % 27) + (b - 5940) / 27 in
    ap (carried_by (within eleven_carries)) (edge_found b past l)
    ∙ within_there eleven_carries (slot 0 11 v) (omega arith) (omega arith)
    ∙ edge_carries 0 v
    ∙ pick_true _ _ (eq-eqb 0 0 refl)
    ∙ ap Some (omega arith)

edge_back : (h v b : ℕ) → v < 135 → eleven_carries h 11 v ≡ Some b → (b < 6075) × (eleven_found b ≡ Some (slot h 11 v))
edge_back h v b l e =
    let p = carried_picked (eqb h 0) _ b (sym (edge_carries h v) ∙ e) in
    let first : 0 ≡ h = sym (eqb-true h 0 p.0) in
    let number : 5940 + 27 * (v % 5) + v / 5 ≡ b = let c = p.1 in cc in
    let video : 5 * ((b - 5940) % 27) + (b - 5940) / 27 ≡ v = omega arith in
    (omega arith, edge_found b (omega arith) (omega arith) ∙ (λ i. Some (slot (first i) 11 (video i))))

pub eleven_forth : (b : ℕ) → b < 6075 → carried_by (within eleven_carries) (eleven_found b) ≡ Some b
eleven_forth b l = by_lt b 5940 (forth_by eleven_ruled b) (λ past. edge_forth b past l)

pub eleven_back : (h q v b : ℕ) → h < 4 → q < 12 → v < 135 → eleven_carries h q v ≡ Some b → (b < 6075) × (eleven_found b ≡ Some (slot h q v))
eleven_back h q v b lh lq lv e =
    by_lt q 11
    (λ l. let r = back_by eleven_ruled h q v b lh l lv e in (omega (arith, r.0), r.1))
    (λ l.
    let last : q ≡ 11 = omega arith in
    let r = edge_back h v b lv (rw last at e) in
    (r.0, rw last r.1))
