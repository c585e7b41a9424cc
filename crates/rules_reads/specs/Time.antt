-- The call `read_time`.
use Rattle.std.specs.Prelude.{◌≡◌, Bool, true, not, ◌&&◌, List, [], ◌∷◌, ◌++◌, ℕ, ◌+◌, ◌*◌, ◌/◌, ◌%◌, eqb, length}
use Rattle.base.specs.Below.{below}
use Rattle.base.specs.Calls.{Refusal, first_of, ◌when◌}
use Rattle.base.specs.Pick.{pick}
use Rattle.paper.specs.declared.System.{System}
use Rattle.paper.specs.declared.Section.TheVariants.{Subcode}
use Rattle.paper.specs.declared.Pack.{Pack}
use Rattle.paper.specs.declared.SubcodePack.{SubcodePack}
use Rattle.paper.specs.declared.SubcodePack.TheVariants.{TimeCode, BinaryGroup, NoPack}
use Rattle.paper.specs.declared.TimeAnswer.{TimeAnswer}
use Rattle.rules_format.specs.Systems.{rate_of, in_system, system_of, is_no_system, rows_in, frame_bytes}
use Rattle.rules_format.specs.Places.{place_in}
use Rattle.rules_format.specs.Blocks.{sequence_at, block_in}
use Rattle.rules_packs.specs.TimeCode.{time_ok, group_ok}
use Rattle.rules_packs.specs.Subcode.{is_first, kind_of, ssyb_pack}
use Rattle.rules_reads.specs.Check.{every_sequence, unflagged, check_rows}
use Rattle.rules_packs.specs.Packs.{four_bytes}

-- ---- the packs of a frame

-- that of SSYB k of a sequence's twelve: "SSYB 0-5 in SC0, 6-11 in SC1"
abbrev pub ssyb_in : ℕ → List ℕ → Pack
ssyb_in k part = ssyb_pack (block_in part (place_in Subcode (k / 6))) (k % 6)

-- "in channel 0, sequence 0, the time code (SSYB 3) or binary group (SSYB 4)"
unfoldable pub time_first : System → List ℕ → Pack
time_first y frame = ssyb_in 3 (sequence_at y frame 0 0)

unfoldable pub group_first : System → List ℕ → Pack
group_first y frame = ssyb_in 4 (sequence_at y frame 0 0)

-- ---- comparing: "At 50 Hz bit 6 of PC1 is arbitrary: .. reading ignores it on comparing and answers 1."

abbrev pub with_bit6 : ℕ → ℕ
with_bit6 x = x / 128 * 128 + 64 + x % 64

-- a time code as it is compared and answered
unfoldable pub settled : System → Pack → Pack
settled y p = record { pc0 = p.pc0; pc1 = pick (eqb (rate_of y) 1) (with_bit6 p.pc1) p.pc1; pc2 = p.pc2; pc3 = p.pc3; pc4 = p.pc4 }

unfoldable pub same_pack : Pack → Pack → Bool
same_pack p o = eqb p.pc0 o.pc0 && (eqb p.pc1 o.pc1 && (eqb p.pc2 o.pc2 && (eqb p.pc3 o.pc3 && eqb p.pc4 o.pc4)))

-- the pack p of an SSYB is the time code or the binary group, by what its position carries
unfoldable pub pack_agrees : System → Pack → Pack → SubcodePack → Pack → Bool
pack_agrees y time group TimeCode p = same_pack (settled y p) (settled y time)
pack_agrees y time group BinaryGroup p = same_pack p group
pack_agrees y time group NoPack p = true

-- not 27: "another such pack of the frame differs from it"
unfoldable pub subcode_agrees : System → Pack → Pack → ℕ → List ℕ → Bool
subcode_agrees y time group q part = below (λ (k : ℕ). pack_agrees y time group (kind_of (is_first y q) k) (ssyb_in k part)) 12

-- ---- the refusals in their order

-- "time code read 23, 26, 27"
unfoldable pub time_rows : System → List ℕ → List Refusal
time_rows y frame =
    23 when not (every_sequence y frame (unflagged 3))
    ∷ 26 when not (time_ok y (time_first y frame) && group_ok (group_first y frame))
    ∷ 27 when not (every_sequence y frame (subcode_agrees y (time_first y frame) (group_first y frame)))
    ∷ []

unfoldable pub time_number : ℕ → List ℕ → ℕ
time_number k frame = first_of (
    1 when is_no_system (system_of k)
    ∷ 2 when not (eqb (length frame) (frame_bytes (system_of k)))
    ∷ rows_in (system_of k) (λ (y : System). check_rows y frame ++ time_rows y frame))

-- ---- the answer: "four bytes of time code and four of binary group by value"

-- "A refusal answers its number, otherwise zeros"
abbrev pub time_refused : ℕ → TimeAnswer
time_refused number = record { number = number; time = 0 ∷ 0 ∷ 0 ∷ 0 ∷ []; group = 0 ∷ 0 ∷ 0 ∷ 0 ∷ [] }

unfoldable pub time_found : System → List ℕ → TimeAnswer
time_found y frame = record { number = 0; time = four_bytes (settled y (time_first y frame)); group = four_bytes (group_first y frame) }

unfoldable pub time_answer : ℕ → List ℕ → TimeAnswer
time_answer k frame = pick (eqb (time_number k frame) 0) (in_system (time_refused 1) (λ (y : System). time_found y frame) (system_of k)) (time_refused (time_number k frame))

pub record TimeRead (k : ℕ) (frame : List ℕ) (r : TimeAnswer) : Type 0 where
  pub answer : r ≡ time_answer k frame
