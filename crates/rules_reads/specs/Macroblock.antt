-- The calls `macroblock_number`, `macroblock` and `macroblock_at`.
use Rattle.std.specs.Prelude.{◌≡◌, not, List, [], ◌∷◌, ◌++◌, ℕ, ◌+◌, eqb, ltb, length, drop, Option, Some, None}
use Rattle.base.specs.Calls.{Refusal, first_of, ◌when◌}
use Rattle.base.specs.Pick.{pick}
use Rattle.paper.specs.declared.System.{System}
use Rattle.paper.specs.declared.Section.TheVariants.{Video}
use Rattle.paper.specs.declared.Part.{Part}
use Rattle.paper.specs.declared.Slot.{Slot}
use Rattle.rules_format.specs.Systems.{macroblocks_of, in_system, system_of, is_no_system, passes, rows_in, frame_bytes}
use Rattle.rules_format.specs.Places.{place_in}
use Rattle.rules_format.specs.Blocks.{start_of, block_at, part_at, bytes_of}
use Rattle.rules_picture.specs.Picture.{carrier_of}
use Rattle.rules_reads.specs.Check.{every_sequence, unflagged, check_rows}

-- ---- the refusals in their order

-- "macroblock read 23"
unfoldable pub picture_rows : System → List ℕ → List Refusal
picture_rows y frame = 23 when not (every_sequence y frame (unflagged 2)) ∷ []

-- system k, the frame, macroblock b
unfoldable pub macroblock_number : ℕ → List ℕ → ℕ → ℕ
macroblock_number k frame b = first_of (
    1 when is_no_system (system_of k)
    ∷ 2 when not (eqb (length frame) (frame_bytes (system_of k)))
    ∷ 3 when not (passes (λ (y : System). ltb b (macroblocks_of y)) (system_of k))
    ∷ rows_in (system_of k) (λ (y : System). check_rows y frame ++ picture_rows y frame))

-- ---- the part: "A macroblock read answers its 77 bytes as a part of the frame"

-- those behind the ID of the slot's block
unfoldable pub slot_bytes : System → List ℕ → Slot → List ℕ
slot_bytes y frame s = drop 3 (block_at y frame s.channel s.sequence (place_in Video s.video.0))

unfoldable pub carrier_bytes : System → List ℕ → Option Slot → List ℕ
carrier_bytes y frame (Some s) = slot_bytes y frame s
carrier_bytes y frame None = []

-- "the part empty exactly when the number is a refusal"
unfoldable pub macroblock_part : ℕ → List ℕ → ℕ → List ℕ
macroblock_part k frame b = pick (eqb (macroblock_number k frame b) 0) (in_system [] (λ (y : System). carrier_bytes y frame (carrier_of y b)) (system_of k)) []

-- the same part by its first byte and its length
unfoldable pub slot_start : System → Slot → ℕ
slot_start y s = start_of y s.channel s.sequence (place_in Video s.video.0) + 3

unfoldable pub carrier_start : System → Option Slot → ℕ
carrier_start y (Some s) = slot_start y s
carrier_start y None = 0

abbrev pub macroblock_start : Option System → ℕ → ℕ
macroblock_start s b = in_system 0 (λ (y : System). carrier_start y (carrier_of y b)) s

unfoldable pub macroblock_at : ℕ → List ℕ → ℕ → Part
macroblock_at k frame b = part_at (macroblock_number k frame b) (macroblock_start (system_of k) b) 77

pub record MacroblockNumbered (k : ℕ) (frame : List ℕ) (b r : ℕ) : Type 0 where
  pub answer : r ≡ macroblock_number k frame b

pub record MacroblockRead (k : ℕ) (frame : List ℕ) (b : ℕ) (part : List ℕ) : Type 0 where
  pub answer : part ≡ macroblock_part k frame b

pub record MacroblockLies (k : ℕ) (frame : List ℕ) (b : ℕ) (r : Part) : Type 0 where
  pub answer : r ≡ macroblock_at k frame b
  -- its bytes are those that `macroblock` answers
  pub bytes : bytes_of frame r ≡ macroblock_part k frame b
