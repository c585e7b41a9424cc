-- Document 01's refusal table, call by call: a number is given exactly when its row holds and none before it does. All of it in document 01's
-- own numbers, of the bytes of the frame (crate `paper`).
use Rattle.std.specs.Prelude.{◌≡◌, true, List, ◌⊎◌, ◌≢◌, ℕ, ◌+◌, ◌*◌, ◌/◌, ◌≤◌, ◌<◌, ℤ, pos, negsuc, length, get_or}
use Rattle.paper.specs.Paper.{sequences, positions, macroblocks, rate, byte_at, stream_fault, fault, sound_channel, sound_first, as_place, count_said, mode_said}
use Rattle.paper.specs.Paper.{vaux_place, vaux_byte, vs_pack, ssyb_place, ssyb_byte, holds_time, holds_group}
use Rattle.promises.specs.Contents.{Contents}
use Rattle.paper.specs.Bytes.{WrongVs, OwnCount, WrongAs, WrongClock, WrongTime, compared}

-- ---- a table says which number is given

abbrev pub Table : Type 1
Table = ℕ → Type 0

-- a row: its number, and what it is given for
infix 68 ◌if◌
abbrev pub ◌if◌ : ℕ → Type 0 → Table
◌if◌ number Holds r = (r ≡ number) × Holds

-- what a row gives; and where it gives nothing, what the rows behind it give: "Lower numbers come first"
infixr 60 ◌else◌
abbrev pub ◌else◌ : Table → Table → Table
◌else◌ row rows r = row r ⊎ (((s : ℕ) → row s → ⊥) × rows r)

-- "A call that succeeds answers number 0."
abbrev pub none : Table
none r = r ≡ 0

-- ---- 11 to 15

-- "of 11-15, the first faulty block in stream order, then its lowest number"
pub record FirstFault (n : ℕ) (f : List ℕ) (r : ℕ) : Type 0 where
  pub j : ℕ
  pub within : j < 600 * n
  pub before : (i : ℕ) → i < j → stream_fault n f i i ≡ 0
  pub is : r ≡ stream_fault n f j j
  pub some : r ≢ 0

-- "its own block's 11-15"
pub record OwnFault (n : ℕ) (f : List ℕ) (h q p r : ℕ) : Type 0 where
  pub is : r ≡ fault (byte_at n f h q p 0) (byte_at n f h q p 1) (byte_at n f h q p 2) h q p
  pub some : r ≢ 0

-- ---- 21 to 23: some header, some VS

-- some sequence q of some DIF channel h
pub record SomeInFrame (n : ℕ) (Is : ℕ → ℕ → Type 0) : Type 0 where
  pub h : ℕ
  pub q : ℕ
  pub channel : h < 4
  pub sequence : q < n
  pub is : Is h q

-- 21: "some header's DSF disagrees", bit 7 of byte 3
abbrev pub WrongDsf : ℕ → List ℕ → ℕ → ℕ → Type 0
WrongDsf k f h q = byte_at (sequences k) f h q 0 3 / 128 ≢ rate k

-- byte i of the VS of a sequence
abbrev pub vs_byte : ℕ → List ℕ → ℕ → ℕ → ℕ → ℕ
vs_byte n f h q i = byte_at n f h q (vaux_place (vs_pack q)) (vaux_byte (vs_pack q) + i)

-- 22: "some VS disagrees .., where its header's TF2 is 0", bit 7 of byte 6
pub record VsDisagrees (k : ℕ) (f : List ℕ) (h q : ℕ) : Type 0 where
  pub valid : byte_at (sequences k) f h q 0 6 / 128 ≢ 1
  pub wrong : WrongVs k (vs_byte (sequences k) f h q 0) (vs_byte (sequences k) f h q 3)

-- 23: "some header sets TF1 .., TF2 .. or TF3", bit 7 of byte 5, 6 or 7
abbrev pub Flagged : ℕ → ℕ → List ℕ → ℕ → ℕ → Type 0
Flagged i n f h q = byte_at n f h q 0 i / 128 ≡ 1

-- ---- 24, 25: the AS packs of an audio channel

-- some sequence of its half
pub record SomeInHalf (n c : ℕ) (Is : ℕ → ℕ → Type 0) : Type 0 where
  pub r : ℕ
  pub rank : r < n / 2
  pub is : Is (sound_channel c) (sound_first n c + r)

-- byte i of the AS of a sequence
abbrev pub as_byte : ℕ → List ℕ → ℕ → ℕ → ℕ → ℕ
as_byte n f h q i = byte_at n f h q (as_place q) (3 + i)

-- 24: "an AS of the channel breaks the rules above"
abbrev pub AsBreaks : ℕ → List ℕ → ℕ → ℕ → ℕ → Type 0
AsBreaks k f c h q =
    WrongAs k c (as_byte (sequences k) f h q 0) (as_byte (sequences k) f h q 1) (as_byte (sequences k) f h q 2) (as_byte (sequences k) f h q 3)
    (as_byte (sequences k) f h q 4)

-- two sequences of its half that say different numbers
pub record DifferInHalf (n c : ℕ) (said : ℕ → ℕ → ℕ) : Type 0 where
  pub r : ℕ
  pub r' : ℕ
  pub rank : r < n / 2
  pub rank' : r' < n / 2
  pub differ : said (sound_channel c) (sound_first n c + r) ≢ said (sound_channel c) (sound_first n c + r')

-- 25: "the channel's AS packs differ in count"; "25 also covers AS packs that differ in mode"
abbrev pub AsDiffer : ℕ → List ℕ → ℕ → Type 0
AsDiffer n f c = DifferInHalf n c (count_said n f) ⊎ DifferInHalf n c (mode_said n f)

-- ---- 26, 27: time code and binary group

-- byte i of the pack of SSYB j
abbrev pub ssyb_at : ℕ → List ℕ → ℕ → ℕ → ℕ → ℕ → ℕ
ssyb_at n f h q j i = byte_at n f h q (ssyb_place j) (ssyb_byte j + i)

-- 26: "in channel 0, sequence 0, the time code (SSYB 3) or binary group (SSYB 4) has a wrong header, or the time code a wrong digit"
pub data WrongFirst (k : ℕ) (f : List ℕ) : Type 0 where
  wrong_time_header : ssyb_at (sequences k) f 0 0 3 0 ≢ 0x13 → WrongFirst k f
  wrong_digit : WrongClock k (ssyb_at (sequences k) f 0 0 3 1) (ssyb_at (sequences k) f 0 0 3 2) (ssyb_at (sequences k) f 0 0 3 3) (ssyb_at (sequences k) f 0 0 3 4)
      → WrongFirst k f
  wrong_group_header : ssyb_at (sequences k) f 0 0 4 0 ≢ 0x14 → WrongFirst k f

-- 27: "another such pack of the frame differs from it", in byte i
pub data Differs (k : ℕ) (f : List ℕ) (h q : ℕ) : Type 0 where
  other_time : (j i : ℕ) → holds_time (sequences k) q j ≡ true → i < 5
      → compared k i (ssyb_at (sequences k) f h q j i) ≢ compared k i (ssyb_at (sequences k) f 0 0 3 i) → Differs k f h q
  other_group : (j i : ℕ) → holds_group (sequences k) q j ≡ true → i < 5
      → ssyb_at (sequences k) f h q j i ≢ ssyb_at (sequences k) f 0 0 4 i → Differs k f h q

-- ---- 31: "a sample outside -32,768 to 32,768"

abbrev pub Outside : ℤ → Type 0
Outside (pos v) = 32768 < v
Outside (negsuc v) = 32767 < v

pub record SomeOutside (sound : List ℤ) : Type 0 where
  pub i : ℕ
  pub within : i < length sound
  pub outside : Outside (get_or sound i (pos 0))

-- ---- call by call: 1 "system above 3", 2 "frame length is not 48,000·n", 3 "channel, sequence, place, macroblock number or sample count outside the system",
-- 4 "another lent buffer's length is wrong (the fault list may have any length)"

-- "an ID read 4 and 11": "an ID 3 bytes"; "5-7 reserved"
abbrev pub id_table : List ℕ → Table
id_table id = 4 if (length id ≢ 3) else 11 if (5 ≤ get_or id 0 0 / 32) else none

-- "Salvage and survey use 1, 2, 4": a survey is lent the fault list alone, which may have any length, so 4 is never due
abbrev pub survey_table : ℕ → ℕ → Table
survey_table k size = 1 if (3 < k) else 2 if (size ≢ 48000 * sequences k) else none

-- "salvage, eight times the positions"
abbrev pub salvage_table : ℕ → ℕ → ℕ → Table
salvage_table k size room = 1 if (3 < k) else 2 if (size ≢ 48000 * sequences k) else 4 if (room ≢ 8 * positions k) else none

-- "a sequence survey 1, 3, 4": "a surveyed sequence 12,000"
abbrev pub sequence_table : ℕ → ℕ → ℕ → ℕ → Table
sequence_table k h q size = 1 if (3 < k) else 3 if ((4 ≤ h) ⊎ (sequences k ≤ q)) else 4 if (size ≢ 12000) else none

-- "A block view uses 1, 2, 3 and its own block's 11-15."
abbrev pub view_table : ℕ → List ℕ → ℕ → ℕ → ℕ → Table
view_table k f h q p =
    1 if (3 < k)
    else 2 if (length f ≢ 48000 * sequences k)
    else 3 if (((4 ≤ h) ⊎ (sequences k ≤ q)) ⊎ (150 ≤ p))
    else OwnFault (sequences k) f h q p
    else none

-- "Frame check ends at 22": the rows of every strict read, before its own
abbrev pub checked : ℕ → List ℕ → Table → Table
checked k f rows = FirstFault (sequences k) f else 21 if SomeInFrame (sequences k) (WrongDsf k f) else 22 if SomeInFrame (sequences k) (VsDisagrees k f) else rows

abbrev pub check_table : ℕ → List ℕ → Table
check_table k f = 1 if (3 < k) else 2 if (length f ≢ 48000 * sequences k) else checked k f none

-- "audio read adds 23-25"
abbrev pub sounded : ℕ → List ℕ → ℕ → Table → Table
sounded k f c rows =
    23 if SomeInFrame (sequences k) (Flagged 5 (sequences k) f)
    else 24 if SomeInHalf (sequences k) c (AsBreaks k f c)
    else 25 if AsDiffer (sequences k) f c
    else rows

-- "audio read, the system's positions"
abbrev pub audio_table : ℕ → List ℕ → ℕ → ℕ → Table
audio_table k f c room =
    1 if (3 < k)
    else 2 if (length f ≢ 48000 * sequences k)
    else 3 if ((c ≡ 0) ⊎ (8 < c))
    else 4 if (room ≢ positions k)
    else checked k f (sounded k f c none)

-- the count and the mode that audio channel c says, in its first AS
abbrev pub count_stored : ℕ → List ℕ → ℕ → ℕ
count_stored k f c = count_said (sequences k) f (sound_channel c) (sound_first (sequences k) c)

abbrev pub mode_stored : ℕ → List ℕ → ℕ → ℕ
mode_stored k f c = mode_said (sequences k) f (sound_channel c) (sound_first (sequences k) c)

-- of new samples for an audio channel that says this count and this mode: "new 29, a sample list whose length is not the stored count; then 31; then new
-- 33, a channel marked 1111"
abbrev pub list_table : ℕ → List ℤ → ℕ → Table
list_table count samples mode = 29 if (length samples ≢ count) else 31 if SomeOutside samples else 33 if (mode ≡ 0xF) else none

-- of replacing audio channel c "those of the audio read, but no 4 for the sample list; then" these
abbrev pub replace_table : ℕ → List ℕ → ℕ → List ℤ → Table
replace_table k f c samples =
    1 if (3 < k)
    else 2 if (length f ≢ 48000 * sequences k)
    else 3 if ((c ≡ 0) ⊎ (8 < c))
    else checked k f (sounded k f c (list_table (count_stored k f c) samples (mode_stored k f c)))

-- "macroblock read 23"
abbrev pub macroblock_table : ℕ → List ℕ → ℕ → Table
macroblock_table k f b =
    1 if (3 < k)
    else 2 if (length f ≢ 48000 * sequences k)
    else 3 if (macroblocks k ≤ b)
    else checked k f (23 if SomeInFrame (sequences k) (Flagged 6 (sequences k) f) else none)

-- "time code read 23, 26, 27"
abbrev pub time_table : ℕ → List ℕ → Table
time_table k f =
    1 if (3 < k)
    else 2 if (length f ≢ 48000 * sequences k)
    else checked k f (23 if SomeInFrame (sequences k) (Flagged 7 (sequences k) f) else 26 if WrongFirst k f else 27 if SomeInFrame (sequences k) (Differs k f) else none)

-- 4 of the writer: "eight times the one count for sound .., 77 bytes a macroblock .., 4 each for time code and binary group"
abbrev pub WrongLengths : ℕ → Contents → Type 0
WrongLengths k l =
    (length l.sound ≢ 8 * l.count)
    ⊎ ((length l.macroblocks ≢ 77 * macroblocks k) ⊎ ((length l.time_code ≢ 4) ⊎ (length l.binary_group ≢ 4)))

-- "the writer 1-4, 31, 32"
abbrev pub write_table : ℕ → Contents → ℕ → Table
write_table k l size =
    1 if (3 < k)
    else 2 if (size ≢ 48000 * sequences k)
    else 3 if (OwnCount k l.count → ⊥)
    else 4 if WrongLengths k l
    else 31 if SomeOutside l.sound
    else 32 if WrongTime k l.time_code
    else none
