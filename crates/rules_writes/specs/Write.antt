-- The call `write_frame`.
use Rattle.std.specs.Prelude.{◌≡◌, Bool, true, not, ◌&&◌, List, [], ◌∷◌, ℕ, ◌*◌, eqb, ℤ, length}
use Rattle.base.specs.Calls.{first_of, ◌when◌}
use Rattle.base.specs.Pick.{pick}
use Rattle.base.specs.Run.{run}
use Rattle.paper.specs.declared.System.{System}
use Rattle.rules_format.specs.Systems.{sequences_of, is_count, macroblocks_of, in_system, system_of, is_no_system, passes, frame_bytes}
use Rattle.rules_packs.specs.TimeCode.{time_pack, time_taken}
use Rattle.rules_packs.specs.Repeated.{repeated_of}
use Rattle.rules_format.specs.Samples.{all_in_range}
use Rattle.promises.specs.Contents.{Contents}
use Rattle.rules_writes.specs.Written.{Material, material_of, written_channel}

abbrev pub contents_of : ℕ → List ℤ → List ℕ → List ℕ → List ℕ → Contents
contents_of count sound macroblocks time group = record { count = count; sound = sound; macroblocks = macroblocks; time_code = time; binary_group = group }

-- ---- the refusals in their order: "the writer 1-4, 31, 32"

-- "eight times the one count for sound .., 77 bytes a macroblock .., 4 each for time code and binary group"
abbrev pub lengths_fit : System → ℕ → List ℤ → List ℕ → List ℕ → List ℕ → Bool
lengths_fit y count sound macroblocks time group =
    eqb (length sound) (8 * count)
    && eqb (length macroblocks) (77 * macroblocks_of y)
    && eqb (length time) 4
    && eqb (length group) 4

abbrev pub lengths_ok : Contents → System → Bool
lengths_ok l y = lengths_fit y l.count l.sound l.macroblocks l.time_code l.binary_group

abbrev pub count_ok : Contents → System → Bool
count_ok l y = is_count y l.count

abbrev pub clock_taken : Contents → System → Bool
clock_taken l y = time_taken y (time_pack l.time_code)

unfoldable pub write_number : ℕ → Contents → ℕ → ℕ
write_number k l size = first_of (
    1 when is_no_system (system_of k)
    ∷ 2 when not (eqb size (frame_bytes (system_of k)))
    ∷ 3 when not (passes (count_ok l) (system_of k))
    ∷ 4 when not (passes (lengths_ok l) (system_of k))
    ∷ 31 when not (all_in_range l.sound)
    ∷ 32 when not (passes (clock_taken l) (system_of k))
    ∷ [])

-- ---- the frame: a run of DIF channels

-- what is lent, as the material of a frame
abbrev pub material : System → Contents → Material
material y l = material_of (repeated_of y l.time_code l.binary_group) l.count l.sound l.macroblocks

unfoldable pub written_frame : System → Contents → List ℕ
written_frame y l = run (written_channel y (material y l)) 4

-- "A refusal .. writes nothing."
unfoldable pub write_left : ℕ → Contents → List ℕ → List ℕ
write_left k l frame = pick (eqb (write_number k l (length frame)) 0) (in_system frame (λ (y : System). written_frame y l) (system_of k)) frame

-- system k, what is lent, the frame before, the answer r, the frame after
pub record Wrote (k : ℕ) (l : Contents) (frame : List ℕ) (r : ℕ) (frame' : List ℕ) : Type 0 where
  pub answer : r ≡ write_number k l (length frame)
  pub left : frame' ≡ write_left k l frame

-- what the writer takes, for a frame of so many bytes
pub record Takes (y : System) (l : Contents) (size : ℕ) : Type 0 where
  pub frame : size ≡ 48000 * sequences_of y
  pub counts : is_count y l.count ≡ true
  pub sounds : length l.sound ≡ 8 * l.count
  pub pictures : length l.macroblocks ≡ 77 * macroblocks_of y
  pub times : length l.time_code ≡ 4
  pub groups : length l.binary_group ≡ 4
  pub levels : all_in_range l.sound ≡ true
  pub clock : time_taken y (time_pack l.time_code) ≡ true
