-- What the picture slots are in document 01's own numbers (`paper`): what each carries, that every macroblock has its slot, and the way back.
use Rattle.std.specs.Prelude.{◌≡◌, ℕ, ◌+◌, ◌*◌, ◌≤◌, ◌<◌, Some, None}
use Rattle.paper.specs.declared.System.{System}
use Rattle.paper.specs.declared.System.TheVariants.{I60, I50}
use Rattle.paper.specs.declared.Slot.{Slot}
use Rattle.rules_format.specs.Systems.{sequences_of, macroblocks_of, system_of}
use Rattle.rules_picture.specs.Picture.{slot, carried_in, carrier_of, carried_by}
use Rattle.paper.specs.Paper.{sequences, macroblocks, carried}

-- the slot V(5g+m) of sequence q of DIF channel h carries macroblock b
pub record SlotOf (k b : ℕ) : Type 0 where
  pub h : ℕ
  pub q : ℕ
  pub g : ℕ
  pub m : ℕ
  pub channel : h < 4
  pub sequence : q < sequences k
  pub group : g < 27
  pub unit : m < 5
  pub carries : carried k h q g m ≡ Some b

pub record SlotsInNumbers : Type 0 where
  -- what the slot V(5g+m) carries, and that every macroblock of the system has its slot
  pub slots : (k : ℕ) (y : System) → system_of k ≡ Some y → (h q g m : ℕ) → h < 4 → q < sequences_of y → g < 27 → m < 5
      → carried_in y (slot h q (5 * g + m)) ≡ carried k h q g m
  pub slot_is : (h q v : ℕ) → slot h q v ≡ record { channel = h; sequence = q; video = record { 0 = v } }
  pub carries_back : (y : System) (b : ℕ) → b < macroblocks_of y → carried_by (carried_in y) (carrier_of y b) ≡ Some b
  pub all_carried : (k b : ℕ) → b < macroblocks k → SlotOf k b
  -- and back: a macroblock lies in the one slot that carries it; past the system's macroblocks there is none
  pub lies : (y : System) (s : Slot) (b : ℕ) → carried_in y s ≡ Some b → (b < macroblocks_of y) × (carrier_of y b ≡ Some s)
  pub lies_past : (y : System) (b : ℕ) → macroblocks_of y ≤ b → carrier_of y b ≡ None
  -- the known places of document 01
  pub known : (carried_in I60 (slot 1 9 134) ≡ Some 2429) × (carried_in I50 (slot 1 0 0) ≡ Some 2349)
