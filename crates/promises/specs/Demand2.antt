-- The customer's second demand, clause by clause under his own words. k is a system's number, f a frame, l what is lent to the writer; h is a DIF channel,
-- q a sequence of it; c is an audio channel, 1 to 8, and t a position of it.
use Rattle.std.specs.Prelude.{◌≡◌, List, [], ◌∷◌, ◌≢◌, ℕ, ◌+◌, ◌-◌, ◌*◌, ◌/◌, ◌%◌, ◌≤◌, ◌<◌, ℤ, pos, length, get_or, take, drop, replicate, Some}
use Rattle.paper.specs.declared.Section.TheVariants.{Header, Subcode, Vaux, Audio, Video}
use Rattle.paper.specs.declared.Place.{Place}
use Rattle.paper.specs.declared.IdAnswer.{IdAnswer}
use Rattle.paper.specs.declared.IdAnswer.TheVariants.{Named, Reserved, WrongLength}
use Rattle.paper.specs.declared.IdValues.{IdValues}
use Rattle.paper.specs.declared.Part.{Part}
use Rattle.paper.specs.declared.AudioAnswer.{AudioAnswer}
use Rattle.paper.specs.declared.TimeAnswer.{TimeAnswer}
use Rattle.rules_format.specs.Ids.{id_values}
use Rattle.promises.specs.Contents.{Contents}
use Rattle.paper.specs.Paper.{sequences, positions, macroblocks, start, byte_at, bytes_at, channel_by, sound_start, sound_word, sample_by}
use Rattle.paper.specs.Paper.{word_by, back, count_said, slot_place, carried}
use Rattle.promises.specs.Refusals.{count_stored, mode_stored}
use Rattle.promises.specs.Form.{HasForm}
use Rattle.paper.specs.Bytes.{first_answered}

-- ---- "Frames are read .. as Recommendation ITU-R BT.1620-1 lays down and document 01 sets out, for all four systems": any input, where a read answers 0

-- "block IDs": the answer o, and the same by its values v; "The ID answer must carry the four arbitrary bits and three reserved bits as found, beside
-- what it names."
pub record IdOut (id : List ℕ) (o : IdAnswer) (v : IdValues) : Type 0 where
  pub wrong_length : length id ≢ 3 → o ≡ WrongLength
  pub reserved : length id ≡ 3 → 5 ≤ get_or id 0 0 / 32 → o ≡ Reserved
  pub named : length id ≡ 3 → get_or id 0 0 / 32 < 5
      → o ≡ Named (record {
        section = get_or (Header ∷ Subcode ∷ Vaux ∷ Audio ∷ Video ∷ []) (get_or id 0 0 / 32) Header;
        channel = channel_by (get_or id 1 0 / 4 % 4);
        dseq = get_or id 1 0 / 16;
        dbn = record { 0 = get_or id 2 0 };
      })
      (record { arbitrary = get_or id 0 0 % 16; reserved = get_or id 0 0 / 16 % 2 * 4 + get_or id 1 0 % 4 })
  pub values : v.number ≡ 0
      → v ≡ record {
        number = 0;
        section = get_or id 0 0 / 32;
        channel = channel_by (get_or id 1 0 / 4 % 4);
        dseq = get_or id 1 0 / 16;
        dbn = get_or id 2 0;
        arbitrary = get_or id 0 0 % 16;
        reserved = get_or id 0 0 / 16 % 2 * 4 + get_or id 1 0 % 4;
      }
  pub same : id_values o ≡ v

-- a block view: the number with its part, and the same by start and length
pub record ViewOut (k : ℕ) (f : List ℕ) (h q : ℕ) (p : Place) (number : ℕ) (part : List ℕ) (r : Part) : Type 0 where
  pub block : number ≡ 0 → part ≡ bytes_at (sequences k) f h q p.0 0 80
  pub lies : r.number ≡ 0 → r ≡ record { number = 0; start = start (sequences k) h q p.0; length = 80 }

-- a macroblock by start and length: behind the ID of the slot V(5g+m) which carries it
pub record MacroblockOut (k : ℕ) (f : List ℕ) (b : ℕ) (r : Part) : Type 0 where
  pub lies : r.number ≡ 0 → (h q g m : ℕ) → h < 4 → q < sequences k → g < 27 → m < 5 → carried k h q g m ≡ Some b
      → r ≡ record { number = 0; start = start (sequences k) h q (slot_place (5 * g + m)) + 3; length = 77 }

-- what the strict reads answer of a frame: the check, audio channel c, macroblock b, the time code
pub record Strict : Type 0 where
  pub check : ℕ
  pub audio : AudioAnswer
  pub samples : List ℤ
  pub number : ℕ
  pub part : List ℕ
  pub time : TimeAnswer

pub record ReadOut (k : ℕ) (f : List ℕ) (c : ℕ) (samples : List ℤ) (b : ℕ) (o : Strict) : Type 0 where
  -- "packs, the place of each audio sample": of a channel that is not marked what stands there
  pub count : o.audio.number ≡ 0 → o.audio.count ≡ count_stored k f c
  pub sample : o.audio.number ≡ 0 → mode_stored k f c ≢ 0xF → (t : ℕ) → t < o.audio.count
      → get_or o.samples t (pos 0) ≡ sample_by (sound_word (sequences k) f c t)
  -- of one that is marked "with audio mode 1111" it "hands out every sample up to it as lost", the count
  pub unrecorded : o.audio.number ≡ 0 → mode_stored k f c ≡ 0xF → (t : ℕ) → t < o.audio.count
      → get_or o.samples t (pos 0) ≡ pos 32768
  pub rest : o.audio.number ≡ 0 → drop o.audio.count o.samples ≡ drop o.audio.count samples
  pub size : length o.samples ≡ length samples
  -- "and each compressed macroblock": that of the slot V(5g+m) which carries it
  pub macroblock : o.number ≡ 0 → (h q g m : ℕ) → h < 4 → q < sequences k → g < 27 → m < 5 → carried k h q g m ≡ Some b
      → o.part ≡ bytes_at (sequences k) f h q (slot_place (5 * g + m)) 3 77
  -- SSYB 3 and 4 of DIF channel 0, sequence 0, in SC0: their packs stand from bytes 30 and 38 on
  pub time : o.time.number ≡ 0 → o.time.time ≡ first_answered k (byte_at (sequences k) f 0 0 1 31) ∷ bytes_at (sequences k) f 0 0 1 32 3
  pub group : o.time.number ≡ 0 → o.time.group ≡ bytes_at (sequences k) f 0 0 1 39 4

-- an audio read that answers o and leaves `after` of the list `before`: so many samples, each as it is said, and the entries behind them untouched
pub record AudioOut (count : ℕ) (said : ℕ → ℤ) (before : List ℤ) (o : AudioAnswer) (after : List ℤ) : Type 0 where
  pub answer : o ≡ record { number = 0; count = count }
  pub sample : (t : ℕ) → t < count → get_or after t (pos 0) ≡ said t
  pub rest : drop count after ≡ drop count before
  pub size : length after ≡ length before

-- all of them go through
pub record GoesThrough (o : Strict) : Type 0 where
  pub check : o.check ≡ 0
  pub audio : o.audio.number ≡ 0
  pub number : o.number ≡ 0
  pub time : o.time.number ≡ 0

-- ---- "Frames are .. written" so: the frame f that is made of l

-- what was lent for position t of audio channel c: "eight times the one count for sound, also channel after channel"
abbrev pub given : Contents → ℕ → ℕ → ℤ
given l c t = get_or l.sound ((c - 1) * l.count + t) (pos 0)

pub record LaidOut (k : ℕ) (l : Contents) (f : List ℕ) : Type 0 where
  -- "block IDs, packs", and every byte that is not carried
  pub form : HasForm k f
  pub count : count_said (sequences k) f 0 0 ≡ l.count
  pub time : bytes_at (sequences k) f 0 0 1 31 4 ≡ l.time_code
  pub group : bytes_at (sequences k) f 0 0 1 39 4 ≡ l.binary_group
  -- "the place of each audio sample", high byte first
  pub high : (c t : ℕ) → 0 < c → c < 9 → t < l.count → get_or f (sound_start (sequences k) c t) 0 ≡ word_by (given l c t) / 256
  pub low : (c t : ℕ) → 0 < c → c < 9 → t < l.count → get_or f (sound_start (sequences k) c t + 1) 0 ≡ word_by (given l c t) % 256
  -- "and each compressed macroblock"
  pub macroblock : (h q g m b : ℕ) → h < 4 → q < sequences k → g < 27 → m < 5 → carried k h q g m ≡ Some b
      → bytes_at (sequences k) f h q (slot_place (5 * g + m)) 3 77 ≡ take 77 (drop (77 * b) l.macroblocks)

-- "A frame from our writer reads back to the samples, macroblocks, time code and binary groups it was given"
pub record ReadsBack (l : Contents) (c : ℕ) (samples : List ℤ) (b : ℕ) (o : Strict) : Type 0 where
  pub check : o.check ≡ 0
  pub audio : o.audio ≡ record { number = 0; count = l.count }
  -- "except that a level of -32,768 comes back as -32,767"
  pub sample : (t : ℕ) → t < l.count → get_or o.samples t (pos 0) ≡ back (given l c t)
  pub rest : drop l.count o.samples ≡ drop l.count samples
  pub size : length o.samples ≡ length samples
  pub number : o.number ≡ 0
  pub part : o.part ≡ take 77 (drop (77 * b) l.macroblocks)
  pub time : o.time ≡ record { number = 0; time = l.time_code; group = l.binary_group }

-- the writer was lent l, answered 0 and left f; what it takes is its refusal table's. Reads is what the contracts of the strict reads allow
pub record WritesBack (Reads : ℕ → List ℕ → ℕ → List ℤ → ℕ → Strict → Type 0) (k : ℕ) (l : Contents) (f : List ℕ) : Type 0 where
  pub laid_out : LaidOut k l f
  pub reads_back : (c : ℕ) (samples : List ℤ) (b : ℕ) (o : Strict) → 0 < c → c < 9 → length samples ≡ positions k → b < macroblocks k
      → Reads k f c samples b o → ReadsBack l c samples b o

-- ---- what may be lent for a system and a count: one level throughout, and time 0

abbrev pub tone : ℕ → ℕ → ℕ → Contents
tone k count level = record {
  count = count;
  sound = replicate (8 * count) (pos level);
  macroblocks = replicate (77 * macroblocks k) 0;
  time_code = 0x40 ∷ 0 ∷ 0 ∷ 0 ∷ [];
  binary_group = 0 ∷ 0 ∷ 0 ∷ 0 ∷ [];
}
