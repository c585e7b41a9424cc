-- The subcode blocks (document 01, "Subcode").
use Rattle.std.specs.Prelude.{Bool, true, false, List, [], ◌∷◌, ◌++◌, ℕ, ◌+◌, ◌*◌, ltb, get_or, replicate}
use Rattle.base.specs.Pick.{pick}
use Rattle.base.specs.Run.{run}
use Rattle.paper.specs.declared.System.{System}
use Rattle.paper.specs.declared.Pack.{Pack}
use Rattle.paper.specs.declared.SubcodeData.{SubcodeData}
use Rattle.paper.specs.declared.SubcodePack.{SubcodePack}
use Rattle.paper.specs.declared.SubcodePack.TheVariants.{TimeCode, BinaryGroup, NoPack}
use Rattle.rules_format.specs.Systems.{half_of}
use Rattle.rules_packs.specs.Packs.{pack_in, pack_bytes, no_pack}

-- the first n/2 sequences
abbrev pub is_first : System → ℕ → Bool
is_first y q = ltb q (half_of y)

-- "First half: time code in 3, 5, 9, 11, binary group in 4, 10. Second half: time code in 3, 9."
unfoldable pub kind_of : Bool → ℕ → SubcodePack
kind_of true k =
    get_or
    (NoPack ∷ NoPack ∷ NoPack ∷ TimeCode ∷ BinaryGroup ∷ TimeCode ∷ NoPack ∷ NoPack ∷ NoPack ∷ TimeCode ∷ BinaryGroup ∷ TimeCode ∷ []) k NoPack
kind_of false k =
    get_or
    (NoPack ∷ NoPack ∷ NoPack ∷ TimeCode ∷ NoPack ∷ NoPack ∷ NoPack ∷ NoPack ∷ NoPack ∷ TimeCode ∷ NoPack ∷ NoPack ∷ []) k NoPack

-- ---- what is written

-- "Others all ones."
abbrev pub subcode_pack : SubcodePack → Pack → Pack → Pack
subcode_pack TimeCode time group = time
subcode_pack BinaryGroup time group = group
subcode_pack NoPack time group = no_pack

-- "ID0 (bit 7 FR: 1 in the first n/2 sequences)"
abbrev pub fr_byte : Bool → ℕ
fr_byte first = pick first 0xFF 0x7F

-- the eight bytes of SSYB k: "ID0 .., ID1 (low nibble the SSYB number), FFh, a 5-byte pack"
unfoldable pub ssyb : Bool → SubcodeData → ℕ → List ℕ
ssyb first said k = fr_byte first ∷ (0xF0 + k) ∷ 0xFF ∷ pack_bytes (subcode_pack (kind_of first k) said.time said.group)

-- those of SC(k): "SSYB 0-5 in SC0, 6-11 in SC1, eight bytes each from byte 3"
unfoldable pub ssybs : Bool → SubcodeData → ℕ → List ℕ
ssybs first said k = run (λ (j : ℕ). ssyb first said (6 * k + j)) 6

-- bytes 3 to 79 of SC(k)
unfoldable pub subcode_bytes : Bool → SubcodeData → ℕ → List ℕ
subcode_bytes first said k = ssybs first said k ++ replicate 29 0xFF

-- ---- what is read

-- the pack of SSYB j of a subcode block's six
abbrev pub ssyb_pack : List ℕ → ℕ → Pack
ssyb_pack block j = pack_in block (6 + 8 * j)
