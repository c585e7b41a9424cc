-- Each way out of the code, by what the tests and the callees say. Assumes nothing.
use Rattle.std.specs.Prelude.{Option, Some, None}
use mathlib.Core.Path.{◌≡◌, refl, sym, ap, ◌∙◌}
use mathlib.Core.Bool.{Bool, true, false}
use mathlib.Core.Logic.{◌⊎◌, inl, inr}
use Prim.Native.Nat.{ℕ, ◌<◌, ◌≤◌, ◌+◌, ◌-◌, ◌*◌, ◌/◌, ◌%◌}
use borrow.Author.Tests.{lt-ltb, le-ltb, ne_eqb}
use Rattle.base.specs.Pick.{pick}
use Rattle.base.proofs.Picks.{pick_true, pick_false}
use Rattle.paper.specs.declared.System.{System}
use Rattle.paper.specs.declared.Slot.{Slot}
use Rattle.rules_picture.specs.Picture.{step_of, column_of, macroblock, edge_number, ten_carries, eleven_carries, within, carries_of, carried_in, unit_at}
use Rattle.rules_picture.specs.Picture.{slot_at, ten_turn, edge_slot, ten_found, eleven_found, carrier_of}
use Rattle.picture.specs.Ruled.{Ruled}

-- ---- what a slot carries: s and c are the step and the column of v's unit, b the number

pub ten_number : (h q v s c b : ℕ) → q < 10 → s ≡ step_of (v % 5) → c ≡ column_of (v % 5)
    → b ≡ macroblock (10 * h + ((4 * h + q / 5 + 2 * (27 * q + v / 5)) % 10 + s) % 10) c ((27 * q + v / 5) / 5 % 27) → Some b ≡ ten_carries h q v
unfolding ten_carries pick
ten_number h q v s c b hq es ec eb = rw (lt-ltb q 10 hq, eb, es, ec) refl

pub ten_nothing : (h q v : ℕ) → 10 ≤ q → None ≡ ten_carries h q v
unfolding ten_carries pick
ten_nothing h q v hq = rw (le-ltb q 10 hq) refl

pub eleven_number : (h q v s c b : ℕ) → q < 11 → s ≡ step_of (v % 5) → c ≡ column_of (v % 5)
    → b ≡ macroblock (11 * h + ((4 * h + (27 * q + v / 5)) % 11 + s) % 11) c ((27 * q + v / 5) / 11) → Some b ≡ eleven_carries h q v
unfolding eleven_carries pick
eleven_number h q v s c b hq es ec eb = rw (lt-ltb q 11 hq, eb, es, ec) refl

pub edge_number_lem : (h q v : ℕ) → q ≡ 11 → h ≡ 0 → Some (edge_number v) ≡ eleven_carries h q v
unfolding eleven_carries pick
edge_number_lem h q v eq eh = rw (eq, eh) refl

pub eleven_nothing : (h q v : ℕ) → 11 ≤ q → ((q ≡ 11) × (h ≡ 0 → ⊥)) ⊎ (q ≡ 11 → ⊥) → None ≡ eleven_carries h q v
unfolding eleven_carries pick
eleven_nothing h q v hq (inl both) = rw (both.0, ne_eqb h 0 both.1) refl
eleven_nothing h q v hq (inr nq) = rw (le-ltb q 11 hq, ne_eqb q 11 nq) refl

pub eleven_carried : (y : System) (h q v : ℕ) (t : Bool) (r : Option ℕ) → Ruled y t → t ≡ true → r ≡ eleven_carries h q v → r ≡ carries_of y h q v
eleven_carried y h q v t r k e er = er ∙ sym (ap (λ (f : ℕ → ℕ → ℕ → Option ℕ). f h q v) (k.carries ∙ pick_true _ _ e))

pub ten_carried : (y : System) (h q v : ℕ) (t : Bool) (r : Option ℕ) → Ruled y t → t ≡ false → r ≡ ten_carries h q v → r ≡ carries_of y h q v
ten_carried y h q v t r k e er = er ∙ sym (ap (λ (f : ℕ → ℕ → ℕ → Option ℕ). f h q v) (k.carries ∙ pick_false _ _ e))

module _ (y : System) (s : Slot) where
  pub inside : (r : Option ℕ) → s.channel < 4 → s.video.0 < 135 → r ≡ carries_of y s.channel s.sequence s.video.0 → r ≡ carried_in y s
  unfolding within pick
  inside r lh lv e = e ∙ rw (lt-ltb s.channel 4 lh, lt-ltb s.video.0 135 lv) refl

  pub outside : ((s.channel < 4) × (135 ≤ s.video.0)) ⊎ (4 ≤ s.channel) → None ≡ carried_in y s
  unfolding within pick
  outside (inl both) = rw (lt-ltb s.channel 4 both.0, le-ltb s.video.0 135 both.1) refl
  outside (inr lh) = rw (le-ltb s.channel 4 lh) refl

-- ---- where a macroblock lies: m and s are the unit of its column and the step of that, r the slot

pub ten_in : (b m s : ℕ) (r : Slot) → b < 5400 → m ≡ unit_at (b / 27 % 5) → s ≡ step_of m
    → r ≡ slot_at (b / 1350) (ten_turn b (((b / 135 % 10 + 10 - s) % 10 + 6 * (b / 1350)) % 10)) m → Some r ≡ ten_found b
unfolding ten_found pick
ten_in b m s r hb em es er = rw (lt-ltb b 5400 hb, er, es, em) refl

pub ten_past : (b : ℕ) → 5400 ≤ b → None ≡ ten_found b
unfolding ten_found pick
ten_past b hb = rw (le-ltb b 5400 hb) refl

pub eleven_in : (b m s : ℕ) (r : Slot) → b < 5940 → m ≡ unit_at (b / 27 % 5) → s ≡ step_of m
    → r ≡ slot_at (b / 1485) (11 * (b % 27) + ((b / 135 % 11 + 11 - s) % 11 + 7 * (b / 1485)) % 11) m → Some r ≡ eleven_found b
unfolding eleven_found pick
eleven_in b m s r hb em es er = rw (lt-ltb b 5940 hb, er, es, em) refl

pub edge_in : (b : ℕ) → 5940 ≤ b → b < 6075 → Some (edge_slot (b - 5940)) ≡ eleven_found b
unfolding eleven_found pick
edge_in b hb lb = rw (le-ltb b 5940 hb, lt-ltb b 6075 lb) refl

pub eleven_past : (b : ℕ) → 5940 ≤ b → 6075 ≤ b → None ≡ eleven_found b
unfolding eleven_found pick
eleven_past b hb lb = rw (le-ltb b 5940 hb, le-ltb b 6075 lb) refl

pub eleven_lies : (y : System) (b : ℕ) (t : Bool) (r : Option Slot) → Ruled y t → t ≡ true → r ≡ eleven_found b → r ≡ carrier_of y b
eleven_lies y b t r k e er = er ∙ sym (ap (λ (f : ℕ → Option Slot). f b) (k.found ∙ pick_true _ _ e))

pub ten_lies : (y : System) (b : ℕ) (t : Bool) (r : Option Slot) → Ruled y t → t ≡ false → r ≡ ten_found b → r ≡ carrier_of y b
ten_lies y b t r k e er = er ∙ sym (ap (λ (f : ℕ → Option Slot). f b) (k.found ∙ pick_false _ _ e))
