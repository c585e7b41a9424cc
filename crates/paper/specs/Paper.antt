-- Document 01 in its own numbers and bytes, through none of the definitions that the library is built on: the words of the headlines.
-- k is a system's number, n its sequences, f the bytes of a frame; h is a DIF channel, q a sequence of it, p a place; c is an audio channel,
-- 1 to 8, and t a position of it.
use Rattle.std.specs.Prelude.{Bool, false, not, ◌||◌, List, [], ◌∷◌, ℕ, ◌+◌, ◌-◌, ◌*◌, ◌/◌, ◌%◌, eqb, ltb, leb, ℤ, pos, negsuc, get_or, take, drop, Option, Some, None}
use Rattle.base.specs.Calls.{first_of, ◌when◌}
use Rattle.base.specs.Pick.{pick}
use Rattle.base.specs.Run.{run}

-- ---- "Each system brings its own four numbers.": the table's columns, for systems 0 to 3

abbrev pub sequences : ℕ → ℕ
sequences k = get_or (10 ∷ 12 ∷ 10 ∷ 12 ∷ []) k 0

abbrev pub positions : ℕ → ℕ
positions k = get_or (1620 ∷ 1944 ∷ 1620 ∷ 1944 ∷ []) k 0

-- the two sample counts, which are one at 50 Hz
abbrev pub fewer : ℕ → ℕ
fewer k = get_or (1600 ∷ 1920 ∷ 1600 ∷ 1920 ∷ []) k 0

abbrev pub more : ℕ → ℕ
more k = get_or (1602 ∷ 1920 ∷ 1602 ∷ 1920 ∷ []) k 0

abbrev pub macroblocks : ℕ → ℕ
macroblocks k = get_or (5400 ∷ 6075 ∷ 5400 ∷ 5400 ∷ []) k 0

-- the bit of the rate, 0 for 60 Hz and 1 for 50 Hz; STYPE of VS; "frames to 29 or 24"
abbrev pub rate : ℕ → ℕ
rate k = get_or (0 ∷ 1 ∷ 0 ∷ 1 ∷ []) k 0

abbrev pub stype : ℕ → ℕ
stype k = get_or (0x14 ∷ 0x14 ∷ 0x18 ∷ 0x18 ∷ []) k 0

abbrev pub last_frame : ℕ → ℕ
last_frame k = get_or (29 ∷ 24 ∷ 29 ∷ 24 ∷ []) k 0

-- ---- blocks

-- "Block start: ((n·h + q)·150 + place)·80."
abbrev pub start : ℕ → ℕ → ℕ → ℕ → ℕ
start n h q p = ((n * h + q) * 150 + p) * 80

-- byte i of the block there
abbrev pub byte_at : ℕ → List ℕ → ℕ → ℕ → ℕ → ℕ → ℕ
byte_at n f h q p i = get_or f (start n h q p + i) 0

-- m bytes from its byte i on
abbrev pub bytes_at : ℕ → List ℕ → ℕ → ℕ → ℕ → ℕ → ℕ → List ℕ
bytes_at n f h q p i m = take m (drop (start n h q p + i) f)

-- figure 3, the 150 places of a sequence: a section's number in an ID, and the block's number d in its section (Vi is the paper's V)
abbrev H : ℕ → ℕ × ℕ
H d = (0, d)

abbrev SC : ℕ → ℕ × ℕ
SC d = (1, d)

abbrev VA : ℕ → ℕ × ℕ
VA d = (2, d)

abbrev A : ℕ → ℕ × ℕ
A d = (3, d)

abbrev Vi : ℕ → ℕ × ℕ
Vi d = (4, d)

unfoldable pub figure3 : List (ℕ × ℕ)
figure3 =
    H 0 ∷ SC 0 ∷ SC 1 ∷ VA 0 ∷ VA 1 ∷ VA 2
    ∷ A 0 ∷ Vi 0 ∷ Vi 1 ∷ Vi 2 ∷ Vi 3 ∷ Vi 4 ∷ Vi 5 ∷ Vi 6 ∷ Vi 7 ∷ Vi 8 ∷ Vi 9 ∷ Vi 10 ∷ Vi 11 ∷ Vi 12 ∷ Vi 13 ∷ Vi 14
    ∷ A 1 ∷ Vi 15 ∷ Vi 16 ∷ Vi 17 ∷ Vi 18 ∷ Vi 19 ∷ Vi 20 ∷ Vi 21 ∷ Vi 22 ∷ Vi 23 ∷ Vi 24 ∷ Vi 25 ∷ Vi 26 ∷ Vi 27 ∷ Vi 28 ∷ Vi 29
    ∷ A 2 ∷ Vi 30 ∷ Vi 31 ∷ Vi 32 ∷ Vi 33 ∷ Vi 34 ∷ Vi 35 ∷ Vi 36 ∷ Vi 37 ∷ Vi 38 ∷ Vi 39 ∷ Vi 40 ∷ Vi 41 ∷ Vi 42 ∷ Vi 43 ∷ Vi 44
    ∷ A 3 ∷ Vi 45 ∷ Vi 46 ∷ Vi 47 ∷ Vi 48 ∷ Vi 49 ∷ Vi 50 ∷ Vi 51 ∷ Vi 52 ∷ Vi 53 ∷ Vi 54 ∷ Vi 55 ∷ Vi 56 ∷ Vi 57 ∷ Vi 58 ∷ Vi 59
    ∷ A 4 ∷ Vi 60 ∷ Vi 61 ∷ Vi 62 ∷ Vi 63 ∷ Vi 64 ∷ Vi 65 ∷ Vi 66 ∷ Vi 67 ∷ Vi 68 ∷ Vi 69 ∷ Vi 70 ∷ Vi 71 ∷ Vi 72 ∷ Vi 73 ∷ Vi 74
    ∷ A 5 ∷ Vi 75 ∷ Vi 76 ∷ Vi 77 ∷ Vi 78 ∷ Vi 79 ∷ Vi 80 ∷ Vi 81 ∷ Vi 82 ∷ Vi 83 ∷ Vi 84 ∷ Vi 85 ∷ Vi 86 ∷ Vi 87 ∷ Vi 88 ∷ Vi 89
    ∷ A 6 ∷ Vi 90 ∷ Vi 91 ∷ Vi 92 ∷ Vi 93 ∷ Vi 94 ∷ Vi 95 ∷ Vi 96 ∷ Vi 97 ∷ Vi 98 ∷ Vi 99 ∷ Vi 100 ∷ Vi 101 ∷ Vi 102 ∷ Vi 103 ∷ Vi 104
    ∷ A 7 ∷ Vi 105 ∷ Vi 106 ∷ Vi 107 ∷ Vi 108 ∷ Vi 109 ∷ Vi 110 ∷ Vi 111 ∷ Vi 112 ∷ Vi 113 ∷ Vi 114 ∷ Vi 115 ∷ Vi 116 ∷ Vi 117 ∷ Vi 118 ∷ Vi 119
    ∷ A 8 ∷ Vi 120 ∷ Vi 121 ∷ Vi 122 ∷ Vi 123 ∷ Vi 124 ∷ Vi 125 ∷ Vi 126 ∷ Vi 127 ∷ Vi 128 ∷ Vi 129 ∷ Vi 130 ∷ Vi 131 ∷ Vi 132 ∷ Vi 133 ∷ Vi 134
    ∷ []

abbrev pub section_at : ℕ → ℕ
section_at p = (get_or figure3 p (H 0)).0

abbrev pub number_at : ℕ → ℕ
number_at p = (get_or figure3 p (H 0)).1

-- "(FSC, FSP) = (0,1), (1,1), (0,0), (1,0) is channel 0, 1, 2, 3": by the two bits, and back
abbrev pub channel_by : ℕ → ℕ
channel_by bits = get_or (2 ∷ 0 ∷ 3 ∷ 1 ∷ []) bits 0

abbrev pub channel_bits : ℕ → ℕ
channel_bits h = get_or (1 ∷ 3 ∷ 0 ∷ 2 ∷ []) h 0

-- 11 to 15 of a block by the three bytes of its ID, at place p of sequence q of DIF channel h; 0 where it names its place
unfoldable pub fault : ℕ → ℕ → ℕ → ℕ → ℕ → ℕ → ℕ
fault b0 b1 b2 h q p = first_of (
    11 when leb 5 (b0 / 32)
    ∷ 12 when not (eqb (b0 / 32) (section_at p))
    ∷ 13 when not (eqb (channel_by (b1 / 4 % 4)) h)
    ∷ 14 when not (eqb (b1 / 16) q)
    ∷ 15 when not (eqb b2 (number_at p))
    ∷ [])

-- ---- blocks counted in stream order: block j of the bytes is block i of the stream

abbrev pub stream_fault : ℕ → List ℕ → ℕ → ℕ → ℕ
stream_fault n bytes j i = fault (get_or bytes (j * 80) 0) (get_or bytes (j * 80 + 1) 0) (get_or bytes (j * 80 + 2) 0) (i / 150 / n) (i / 150 % n) (i % 150)

-- "Survey records are four unsigned 32-bit numbers: channel, sequence, place, fault.": those of m blocks, the first of which is block `first` of the stream
unfoldable pub records : ℕ → List ℕ → ℕ → ℕ → List ℕ
records n bytes first m =
    run (λ (j : ℕ).
    let i = first + j in
    pick (eqb (stream_fault n bytes j i) 0) [] (i / 150 / n ∷ i / 150 % n ∷ i % 150 ∷ stream_fault n bytes j i ∷ [])) m

-- ---- sound, with s = n/2

-- "channel c lies in DIF channel (c-1) div 2; odd c in the first n/2 sequences, even c in the rest"
abbrev pub sound_channel : ℕ → ℕ
sound_channel c = (c - 1) / 2

abbrev pub sound_first : ℕ → ℕ → ℕ
sound_first n c = n / 2 * ((c + 1) % 2)

-- the block of a position in the stream: "sample t is in sequence (t div 3 + 2(t mod 3)) mod s, plus s for even c; audio block
-- 3(t mod 3) + (t mod 9s) div 3s"; "place 6+16a is A(a)"
abbrev pub sound_index : ℕ → ℕ → ℕ → ℕ
sound_index n c t =
    (n * sound_channel c + (sound_first n c + (t / 3 + 2 * (t % 3)) % (n / 2))) * 150 + (6 + 16 * (3 * (t % 3) + t % (9 * (n / 2)) / (3 * (n / 2))))

-- its word: "byte 8 + 2(t div 9s), high byte first"
abbrev pub sound_start : ℕ → ℕ → ℕ → ℕ
sound_start n c t = sound_index n c t * 80 + (8 + 2 * (t / (9 * (n / 2))))

abbrev pub sound_word : ℕ → List ℕ → ℕ → ℕ → ℕ
sound_word n f c t = get_or f (sound_start n c t) 0 * 256 + get_or f (sound_start n c t + 1) 0

-- a word as the number of a lent slice: "Word 8000h is lost", 32,768; below it stand the levels from 0 on, above it those from -32,767 to -1
unfoldable pub sample_by : ℕ → ℤ
sample_by w = pick (leb w 0x8000) (pos w) (negsuc (0xFFFF - w))

-- a number as a word: "a level of -32,768 is written 8001h"
unfoldable pub word_by : ℤ → ℕ
word_by (pos v) = v
word_by (negsuc v) = pick (eqb v 32767) 0x8001 (0xFFFF - v)

-- and what comes back of it: "a level of -32,768 comes back as -32,767"
unfoldable pub back : ℤ → ℤ
back (pos v) = pos v
back (negsuc v) = pick (eqb v 32767) (negsuc 32766) (negsuc v)

-- ---- AAUX: "Bytes 3-7 of A0-A8 are packs 0-8."

-- "AS is pack 3 in even sequences, 0 in odd"
unfoldable pub as_pack : ℕ → ℕ
as_pack q = pick (eqb (q % 2) 0) 3 0

abbrev pub as_place : ℕ → ℕ
as_place q = 6 + 16 * as_pack q

-- "AF size .. (20, 22, 24 for 1,600, 1,602, 1,920 ..)"; no other size says a count
unfoldable pub count_by : ℕ → ℕ
count_by size = pick (eqb size 20) 1600 (pick (eqb size 22) 1602 (pick (eqb size 24) 1920 0))

-- what the AS of sequence q of DIF channel h says: its count, and its mode, "in bits 3-0" of PC2
abbrev pub count_said : ℕ → List ℕ → ℕ → ℕ → ℕ
count_said n f h q = count_by (byte_at n f h q (as_place q) 4 % 64)

abbrev pub mode_said : ℕ → List ℕ → ℕ → ℕ → ℕ
mode_said n f h q = byte_at n f h q (as_place q) 5 % 16

-- ---- VAUX: "45 packs, 15 to a block, five bytes each from byte 3"

abbrev pub vaux_place : ℕ → ℕ
vaux_place j = 3 + j / 15

abbrev pub vaux_byte : ℕ → ℕ
vaux_byte j = 3 + 5 * (j % 15)

-- "VS is pack 39 in even sequences, 0 in odd"
unfoldable pub vs_pack : ℕ → ℕ
vs_pack q = pick (eqb (q % 2) 0) 39 0

-- ---- subcode: "SSYB 0-5 in SC0, 6-11 in SC1, eight bytes each from byte 3: ID0 .., ID1 .., FFh, a 5-byte pack"

abbrev pub ssyb_place : ℕ → ℕ
ssyb_place j = 1 + j / 6

-- the first byte of its pack
abbrev pub ssyb_byte : ℕ → ℕ
ssyb_byte j = 6 + 8 * (j % 6)

-- one of the numbers
abbrev pub is_one_of : List ℕ → ℕ → Bool
is_one_of [] j = false
is_one_of (x ∷ xs) j = eqb j x || is_one_of xs j

-- "First half: time code in 3, 5, 9, 11, binary group in 4, 10. Second half: time code in 3, 9."
unfoldable pub holds_time : ℕ → ℕ → ℕ → Bool
holds_time n q j = pick (ltb q (n / 2)) (is_one_of (3 ∷ 5 ∷ 9 ∷ 11 ∷ []) j) (is_one_of (3 ∷ 9 ∷ []) j)

unfoldable pub holds_group : ℕ → ℕ → ℕ → Bool
holds_group n q j = pick (ltb q (n / 2)) (is_one_of (4 ∷ 10 ∷ []) j) false

-- ---- picture slots: "V(5g+m), g 0-26, m 0-4, sequence q, z = 27q + g."

-- the place of V(v): "place 6+16a is A(a), the next 15 are V(15a) to V(15a+14)"
abbrev pub slot_place : ℕ → ℕ
slot_place v = 7 + 16 * (v / 15) + v % 15

-- "Row is i + (2, 6, 8, 0, 4) by m, modulo 10 or 11; column (2, 1, 3, 0, 4) by m. With R rows the macroblock number is ((R·h + row)·5 + column)·27 + k.":
-- k is the paper's here, and no system
abbrev pub slot_number : ℕ → ℕ → ℕ → ℕ → ℕ → ℕ
slot_number rows h i m k = ((rows * h + (i + get_or (2 ∷ 6 ∷ 8 ∷ 0 ∷ 4 ∷ []) m 0) % rows) * 5 + get_or (2 ∷ 1 ∷ 3 ∷ 0 ∷ 4 ∷ []) m 0) * 27 + k

-- "Ten-row systems 0, 2, 3, q below 10: i = (4h + q div 5 + 2z) mod 10, k = (z div 5) mod 27."
abbrev pub ten_rows : ℕ → ℕ → ℕ → ℕ → ℕ
ten_rows h q g m = slot_number 10 h ((4 * h + q / 5 + 2 * (27 * q + g)) % 10) m ((27 * q + g) / 5 % 27)

-- "System 1, q below 11: i = (4h + z) mod 11, k = z div 11."
abbrev pub eleven_rows : ℕ → ℕ → ℕ → ℕ → ℕ
eleven_rows h q g m = slot_number 11 h ((4 * h + (27 * q + g)) % 11) m ((27 * q + g) / 11)

-- "Sequence 11 of channel 0 in system 1 is the edge unit: number 5,940 + 27m + g. Remaining slots (system 1: sequence 11 of channels 1-3; system 3:
-- sequences 10, 11) carry none"
unfoldable pub carried : ℕ → ℕ → ℕ → ℕ → ℕ → Option ℕ
carried k h q g m =
    pick (eqb k 1)
    (pick (ltb q 11) (Some (eleven_rows h q g m)) (pick (eqb h 0) (Some (5940 + 27 * m + g)) None))
    (pick (ltb q 10) (Some (ten_rows h q g m)) None)
