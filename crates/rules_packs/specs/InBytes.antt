-- What the definitions of this crate are in document 01's own bytes (`paper`): what is written in the blocks, where a pack is read, what is judged of it.
-- k is the number of system y.
use Rattle.std.specs.Prelude.{◌≡◌, true, false, List, [], ◌∷◌, ◌++◌, ◌⊎◌, ◌≢◌, ℕ, ◌+◌, ◌*◌, ◌/◌, ◌%◌, ◌<◌, eqb, ltb, length, get_or, replicate}
use Rattle.base.specs.Run.{run}
use Rattle.paper.specs.declared.System.{System}
use Rattle.paper.specs.declared.Pack.{Pack}
use Rattle.paper.specs.declared.SubcodeData.{SubcodeData}
use Rattle.paper.specs.declared.SubcodePack.TheVariants.{TimeCode, BinaryGroup}
use Rattle.rules_format.specs.Systems.{half_of, sequences_of}
use Rattle.rules_format.specs.Sound.{audio_at}
use Rattle.rules_packs.specs.Packs.{pack_bytes, pack_in, four_bytes}
use Rattle.rules_packs.specs.TimeCode.{Clock, time_pack, time_ok, group_ok, time_taken}
use Rattle.rules_packs.specs.Vaux.{Vs, vs_at, vaux_pack, vaux_bytes, vaux_block, vaux_in, vs_ok}
use Rattle.rules_packs.specs.Aaux.{As, as_at, as_pack, aaux_pack, aaux_in, count_in, mode_in, is_mark, as_ok}
use Rattle.rules_packs.specs.Repeated.{repeated_of}
use Rattle.rules_packs.specs.Header.{header_bytes, dsf_ok, flagged}
use Rattle.rules_packs.specs.Subcode.{is_first, kind_of, ssyb, subcode_bytes, ssyb_pack}
use Rattle.paper.specs.Paper
use Rattle.paper.specs.Paper.{sequences, rate, count_by, vaux_place, vaux_byte, ssyb_byte, holds_time, holds_group}
use Rattle.paper.specs.Bytes.{five_from, header_form, ssyb_form, vaux_form, aaux_form, size_form, WrongVs, WrongAs, WrongClock, WrongTime}

pub record InBytes (k : ℕ) (y : System) : Type 0 where
  -- ---- header
  pub header : header_bytes y ≡ header_form k
  -- 21: "some header's DSF disagrees", bit 7 of byte 3; 23: TF1, TF2, TF3, bit 7 of bytes 5, 6, 7
  pub dsf : (block : List ℕ) → dsf_ok y block ≡ eqb (get_or block 3 0 / 128) (rate k)
  pub flags : (i : ℕ) (block : List ℕ) → flagged i block ≡ eqb (get_or block (4 + i) 0 / 128) 1
  -- ---- subcode: "FR: 1 in the first n/2 sequences"; what an SSYB holds
  pub first : (q : ℕ) → is_first y q ≡ ltb q (sequences k / 2)
  pub holds_time_lem : (q j : ℕ) → holds_time (sequences k) q j ≡ true → kind_of (is_first y q) j ≡ TimeCode
  pub holds_group_lem : (q j : ℕ) → holds_group (sequences k) q j ≡ true → kind_of (is_first y q) j ≡ BinaryGroup
  pub ssybs : (time group : List ℕ) → length time ≡ 4 → length group ≡ 4 → (q j : ℕ) → j < 12
      → ssyb (is_first y q) (repeated_of y time group).subcode j ≡ ssyb_form k time group q j
  pub subcode : (said : SubcodeData) (q b : ℕ)
      → subcode_bytes (is_first y q) said b ≡ run (λ (i : ℕ). ssyb (is_first y q) said (6 * b + i)) 6 ++ replicate 29 0xFF
  pub ssyb_read : (block : List ℕ) (j : ℕ) → pack_bytes (ssyb_pack block (j % 6)) ≡ five_from block (ssyb_byte j)
  -- 26, 32: time code and binary group
  pub time_wrong : (p : Pack) → time_ok y p ≡ false → (p.pc0 ≢ 0x13) ⊎ WrongClock k p.pc1 p.pc2 p.pc3 p.pc4
  pub time_right : (p : Pack) → time_ok y p ≡ true → (p.pc0 ≢ 0x13) ⊎ WrongClock k p.pc1 p.pc2 p.pc3 p.pc4 → ⊥
  pub group : (p : Pack) → group_ok p ≡ eqb p.pc0 0x14
  pub taken_wrong : (time : List ℕ) → time_taken y (time_pack time) ≡ false → WrongTime k time
  pub taken_right : (time : List ℕ) → time_taken y (time_pack time) ≡ true → WrongTime k time → ⊥
  -- ---- VAUX
  pub vaux : (time group : List ℕ) (q j : ℕ) → pack_bytes (vaux_pack (repeated_of y time group).vs (repeated_of y time group).vsc q j) ≡ vaux_form k q j
  -- "VSC follows it", and below "ASC .. follows", whatever the packs are
  pub vaux_pair : (vs vsc : Pack) (q : ℕ) → (vaux_pack vs vsc q (Paper.vs_pack q) ≡ vs) × (vaux_pack vs vsc q (Paper.vs_pack q + 1) ≡ vsc)
  pub vaux_blocks : (vs vsc : Pack) (q b : ℕ) → vaux_bytes vs vsc q b ≡ run (λ (i : ℕ). pack_bytes (vaux_pack vs vsc q (15 * b + i))) 15 ++ 0xFF ∷ 0xFF ∷ []
  pub vs_at_lem : (q : ℕ) → vs_at q ≡ Paper.vs_pack q
  pub vaux_read : (block : List ℕ) (j : ℕ) → pack_bytes (vaux_in block j) ≡ five_from block (vaux_byte j)
  pub vaux_block_lem : (j : ℕ) → 3 + vaux_block j ≡ vaux_place j
  -- 22
  pub vs_wrong : (p : Pack) → vs_ok y p ≡ false → WrongVs k p.pc0 p.pc3
  pub vs_right : (p : Pack) → vs_ok y p ≡ true → WrongVs k p.pc0 p.pc3 → ⊥
  -- ---- AAUX: of sequence q of DIF channel h
  pub aaux : (time group : List ℕ) (count h q a : ℕ) → q < sequences_of y
      → pack_bytes (aaux_pack (as_pack y count (audio_at (half_of y) h q)) (repeated_of y time group).asc q a) ≡ aaux_form k (size_form count) q a
  pub aaux_pair : (source asc : Pack) (q : ℕ) → (aaux_pack source asc q (Paper.as_pack q) ≡ source) × (aaux_pack source asc q (Paper.as_pack q + 1) ≡ asc)
  pub as_at_lem : (q : ℕ) → as_at q ≡ Paper.as_pack q
  pub aaux_read : (block : List ℕ) → pack_bytes (aaux_in block) ≡ five_from block 3
  -- 24; the count and the mode of 25, and the mark
  pub as_wrong : (c : ℕ) (p : Pack) → as_ok y c p ≡ false → WrongAs k c p.pc0 p.pc1 p.pc2 p.pc3 p.pc4
  pub as_right : (c : ℕ) (p : Pack) → as_ok y c p ≡ true → WrongAs k c p.pc0 p.pc1 p.pc2 p.pc3 p.pc4 → ⊥
  pub count : (p : Pack) → count_in p ≡ count_by (p.pc1 % 64)
  pub mode : (p : Pack) → mode_in p ≡ p.pc2 % 16
  pub mark : (p : Pack) → is_mark (mode_in p) ≡ eqb (p.pc2 % 16) 0xF
  -- a pack in a block, and its bytes
  pub packs : (p : Pack) → (pack_bytes p ≡ p.pc0 ∷ p.pc1 ∷ p.pc2 ∷ p.pc3 ∷ p.pc4 ∷ []) × (four_bytes p ≡ p.pc1 ∷ p.pc2 ∷ p.pc3 ∷ p.pc4 ∷ [])
  pub pack_in_lem : (block : List ℕ) (at : ℕ) → pack_in block at ≡ record {
    pc0 = get_or block at 0;
    pc1 = get_or block (at + 1) 0;
    pc2 = get_or block (at + 2) 0;
    pc3 = get_or block (at + 3) 0;
    pc4 = get_or block (at + 4) 0;
  }
  -- the records of clauses are the tests
  pub clock_clauses : (p : Pack) → (time_ok y p ≡ true → (p.pc0 ≡ 0x13) × Clock y p) × (p.pc0 ≡ 0x13 → Clock y p → time_ok y p ≡ true)
  pub vs_clauses : (p : Pack) → (vs_ok y p ≡ true → Vs y p) × (Vs y p → vs_ok y p ≡ true)
  pub as_clauses : (c : ℕ) (p : Pack) → (as_ok y c p ≡ true → As y c p) × (As y c p → as_ok y c p ≡ true)
