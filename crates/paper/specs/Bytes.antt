-- What document 01 lays down inside the blocks: the bytes that are written there, and what breaks its rules when they are read. All of it in its own
-- numbers. k is a system's number, q a sequence; a pack is its five bytes, PC0 to PC4.
use Rattle.std.specs.Prelude.{◌≡◌, ◌&&◌, List, [], ◌∷◌, ◌⊎◌, ◌≢◌, ℕ, ◌+◌, ◌-◌, ◌*◌, ◌/◌, ◌%◌, ◌≤◌, ◌<◌, eqb, ltb, get_or, replicate}
use Rattle.base.specs.Pick.{pick}
use Rattle.paper.specs.Paper.{sequences, fewer, more, rate, stype, last_frame, as_pack, count_by, vs_pack, holds_time, holds_group}

-- ---- a pack in a block

-- the five bytes of a block from byte `at` on
abbrev pub five_from : List ℕ → ℕ → List ℕ
five_from block at = get_or block at 0 ∷ get_or block (at + 1) 0 ∷ get_or block (at + 2) 0 ∷ get_or block (at + 3) 0 ∷ get_or block (at + 4) 0 ∷ []

-- ---- what is written

-- 0 in the first n/2 sequences, where the odd audio channels lie, and 1 in the rest
abbrev pub half_in : ℕ → ℕ → ℕ
half_in k q = pick (ltb q (sequences k / 2)) 0 1

-- "Byte 3: bit 7 DSF (0 for 60 Hz), bit 6 zero. Bytes 4-7: APT, AP1, AP2, AP3 in bits 2-0, written 111. Bytes 5, 6, 7: bit 7 is TF1 .., TF2 .., TF3 ..; .. 0 is
-- written." and 72 bytes of ones
unfoldable pub header_form : ℕ → List ℕ
header_form k = (0x80 * rate k + 0x3F) ∷ 0xFF ∷ 0x7F ∷ 0x7F ∷ 0x7F ∷ replicate 72 0xFF

-- the pack of SSYB j, of four bytes of time code and four of binary group; "Headers: 13h, 14h."; "Others all ones."
unfoldable pub subcode_form : ℕ → List ℕ → List ℕ → ℕ → ℕ → List ℕ
subcode_form k time group q j =
    pick (holds_time (sequences k) q j) (0x13 ∷ time) (pick (holds_group (sequences k) q j) (0x14 ∷ group) (replicate 5 0xFF))

-- "ID0 (bit 7 FR: 1 in the first n/2 sequences), ID1 (low nibble the SSYB number), FFh, a 5-byte pack"
unfoldable pub ssyb_form : ℕ → List ℕ → List ℕ → ℕ → ℕ → List ℕ
ssyb_form k time group q j = (0xFF - 0x80 * half_in k q) ∷ (0xF0 + j) ∷ 0xFF ∷ subcode_form k time group q j

-- "VS: 60h, FFh, FFh, PC3, FFh; PC3 bit 5 is 1 for 50 Hz, bits 4-0 are 14h (1080) or 18h (720). VSC: 61h, four FFh.", which follows it
unfoldable pub vaux_form : ℕ → ℕ → ℕ → List ℕ
vaux_form k q j =
    pick (eqb j (vs_pack q)) (0x60 ∷ 0xFF ∷ 0xFF ∷ (0xC0 + 0x20 * rate k + stype k) ∷ 0xFF ∷ [])
    (pick (eqb j (vs_pack q + 1)) (0x61 ∷ replicate 4 0xFF) (replicate 5 0xFF))

-- "AS: 50h; LF 0 in bit 7 and AF size in bits 5-0 ..; bit 7 zero, CHN 00 in bits 6-5, mode in bits 3-0 ..; 50/60 bit 5, STYPE 00011; SMP and QU 000 in bits
-- 5-0."; "ASC (51h, four FFh) follows": `size` is the byte of the AF size
unfoldable pub aaux_form : ℕ → ℕ → ℕ → ℕ → List ℕ
aaux_form k size q a =
    pick (eqb a (as_pack q)) (0x50 ∷ size ∷ (0x10 + half_in k q) ∷ (0xC3 + 0x20 * rate k) ∷ 0xC0 ∷ [])
    (pick (eqb a (as_pack q + 1)) (0x51 ∷ replicate 4 0xFF) (replicate 5 0xFF))

-- "AF size .. (20, 22, 24 for 1,600, 1,602, 1,920 ..)", under LF 0 and a bit of ones
unfoldable pub size_form : ℕ → ℕ
size_form count = 0x40 + pick (eqb count 1600) 20 (pick (eqb count 1602) 22 24)

-- ---- what breaks the rules

-- 22: a VS "disagrees in 60h, rate or STYPE", bits 5 and 4-0 of PC3
abbrev pub WrongVs : ℕ → ℕ → ℕ → Type 0
WrongVs k pc0 pc3 = (pc0 ≢ 0x60) ⊎ ((pc3 / 32 % 2 ≢ rate k) ⊎ (pc3 % 32 ≢ stype k))

-- "only the system's own counts"
abbrev pub OwnCount : ℕ → ℕ → Type 0
OwnCount k count = (count ≡ fewer k) ⊎ (count ≡ more k)

-- 24: "AS: 50h; LF 0 in bit 7 and AF size in bits 5-0 ..; bit 7 zero, CHN 00 in bits 6-5, mode in bits 3-0 (0 for channels 1, 3, 5, 7; 1 for 2, 4, 6, 8 ..);
-- 50/60 bit 5, STYPE 00011; SMP and QU 000 in bits 5-0.": of audio channel c. "24 no longer covers 1111", the mode of "invalid audio data"
pub data WrongAs (k c pc0 pc1 pc2 pc3 pc4 : ℕ) : Type 0 where
  wrong_header : pc0 ≢ 0x50 → WrongAs k c pc0 pc1 pc2 pc3 pc4
  wrong_lf : 128 ≤ pc1 → WrongAs k c pc0 pc1 pc2 pc3 pc4
  wrong_size : (OwnCount k (count_by (pc1 % 64)) → ⊥) → WrongAs k c pc0 pc1 pc2 pc3 pc4
  wrong_chn : 32 ≤ pc2 → WrongAs k c pc0 pc1 pc2 pc3 pc4
  wrong_mode : pc2 % 16 ≢ (c + 1) % 2 → pc2 % 16 ≢ 0xF → WrongAs k c pc0 pc1 pc2 pc3 pc4
  wrong_rate : pc3 / 32 % 2 ≢ rate k → WrongAs k c pc0 pc1 pc2 pc3 pc4
  wrong_stype : pc3 % 32 ≢ 3 → WrongAs k c pc0 pc1 pc2 pc3 pc4
  wrong_smp_qu : pc4 % 64 ≢ 0 → WrongAs k c pc0 pc1 pc2 pc3 pc4

-- "Units 0-9", in the low nibble; the tens above them in two bits (four values) or three (eight)
abbrev pub WrongDigits : ℕ → ℕ → ℕ → Type 0
WrongDigits values most b = (10 ≤ b % 16) ⊎ (most < b / 16 % values * 10 + b % 16)

-- "tens of frames bits 5-4 of PC1, of seconds and minutes bits 6-4 of PC2 and PC3, of hours bits 5-4 of PC4 .. frames to 29 or 24, seconds and minutes to
-- 59, hours to 23"
abbrev pub WrongClock : ℕ → ℕ → ℕ → ℕ → ℕ → Type 0
WrongClock k pc1 pc2 pc3 pc4 = WrongDigits 4 (last_frame k) pc1 ⊎ (WrongDigits 8 59 pc2 ⊎ (WrongDigits 8 59 pc3 ⊎ WrongDigits 4 23 pc4))

-- 32: "time code bytes to be written break the rules"; "At 50 Hz .. the writer takes only 1 (else 32)" in bit 6 of PC1
abbrev pub WrongTime : ℕ → List ℕ → Type 0
WrongTime k time =
    ((rate k ≡ 1) × (get_or time 0 0 / 64 % 2 ≢ 1)) ⊎ WrongClock k (get_or time 0 0) (get_or time 1 0) (get_or time 2 0) (get_or time 3 0)

-- 27: "At 50 Hz bit 6 of PC1 is arbitrary: .. reading ignores it on comparing": byte i of a time code pack as it is compared
abbrev pub compared : ℕ → ℕ → ℕ → ℕ
compared k i b = pick (eqb i 1 && eqb (rate k) 1) (b / 128 * 128 + b % 64) b

-- "and answers 1"
abbrev pub first_answered : ℕ → ℕ → ℕ
first_answered k pc1 = pick (eqb (rate k) 1) (pc1 / 128 * 128 + 64 + pc1 % 64) pc1
