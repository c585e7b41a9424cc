-- What the definitions of this crate are in document 01's own numbers (`paper`). The laws above go through it, and it says what no call shows, as the way
-- back from a block to its place.
use Rattle.std.specs.Prelude.{◌≡◌, true, false, ◌||◌, Bool, List, [], ◌∷◌, ◌⊎◌, ◌≢◌, ◌-◌, ℕ, ◌+◌, ◌*◌, ◌/◌, ◌%◌, ◌≤◌, ◌<◌, eqb, leb, ℤ, pos, negsuc, length, get_or, take, drop, Some, None}
use Rattle.base.specs.Calls.{Refusal}
use Rattle.paper.specs.declared.Part.{Part}
use Rattle.rules_format.specs.Systems.{number_of_system, is_no_system, sequences_in, positions_in, passes, rows_in, frame_bytes, sequences_of, half_of}
use Rattle.rules_format.specs.Systems.{positions_of, counts_of, is_count, macroblocks_of, system_of, rate_of, stype_of}
use Rattle.rules_format.specs.Blocks
use Rattle.rules_format.specs.Blocks.{start_of, Holds, block_at, block_in, sequence_at, part_at}
use Rattle.rules_format.specs.Places.{place_in, code_of, section_of, place, entry_at, place_for, place_of}
use Rattle.rules_format.specs.Ids.{id_at, section_bits, dseq_bits, fsc_bit, fsp_bit, dbn_byte, arbitrary_bits, reserved_bits, channel_of, id_bytes, id_of}
use Rattle.rules_format.specs.Ids.{id_answer, id_values}
use Rattle.rules_format.specs.Samples.{all_in_range, number_of, in_range, sample_in, sample_of, word_for, back_of, bytes_of}
use Rattle.rules_format.specs.Sound.{dif_of, half_at, rank_of, audio_of, word_number, audio_at, rank_at, first_at, sample_at, byte_of}
use Rattle.rules_format.specs.Faults
use Rattle.rules_format.specs.Stream.{blocks_in, named}
use Rattle.base.specs.Run.{tab}
use Rattle.paper.specs.declared.System.{System}
use Rattle.paper.specs.declared.System.TheVariants.{I60, I50, P60, P50}
use Rattle.paper.specs.declared.Sample.TheVariants.{Level, Lost}
use Rattle.paper.specs.declared.Section.{Section}
use Rattle.paper.specs.declared.BlockNumber.{BlockNumber}
use Rattle.paper.specs.declared.Place.{Place}
use Rattle.paper.specs.declared.Entry.{Entry}
use Rattle.paper.specs.declared.Section.TheVariants.{Header, Subcode, Vaux, Audio, Video}
use Rattle.paper.specs.declared.BlockId.{BlockId}
use Rattle.paper.specs.declared.Spare.{Spare}
use Rattle.paper.specs.declared.IdAnswer.TheVariants.{Named, Reserved, WrongLength}
use Rattle.rules_format.specs.Faults.{fault_at, NamesPlace}
use Rattle.rules_format.specs.Reading.{sound_block, sound_named, read_sample, salvaged_sample}
use Rattle.paper.specs.Paper
use Rattle.paper.specs.Paper.{figure3, channel_bits, channel_by, bytes_at, fault, sample_by}

-- a row of the table of systems, with its two sample counts
pub record Numbers (k : ℕ) (y : System) (n positions fewer more count rate stype : ℕ) : Type 0 where
  pub system : system_of k ≡ Some y
  pub numbers : (sequences_of y ≡ n) × (positions_of y ≡ positions) × (counts_of y ≡ record { fewer = fewer; more = more }) × (macroblocks_of y ≡ count)
      × (rate_of y ≡ rate) × (stype_of y ≡ stype)

-- The four systems
pub record SystemsInNumbers : Type 0 where
  -- "Each system brings its own four numbers."; its rate's bit and its STYPE
  pub systems : Numbers 0 I60 10 1620 1600 1602 5400 0 0x14 × Numbers 1 I50 12 1944 1920 1920 6075 1 0x14
      × Numbers 2 P60 10 1620 1600 1602 5400 0 0x18 × Numbers 3 P50 12 1944 1920 1920 5400 1 0x18
  pub counts : (y : System) (k : ℕ) → (sequences_of y ≡ 10 → is_count y k ≡ (eqb k 1600 || eqb k 1602)) × (sequences_of y ≡ 12 → is_count y k ≡ eqb k 1920)
  -- 1: "system above 3"
  pub no_system : (k : ℕ) → 3 < k → system_of k ≡ None
  pub system_numbers : (number_of_system I60 ≡ 0) × (number_of_system I50 ≡ 1) × (number_of_system P60 ≡ 2) × (number_of_system P50 ≡ 3)
  -- what is said of a system, and of none: "frame length: 48,000·n"
  pub in_system : (y : System) (test : System → Bool) (rows : System → List Refusal)
      → (is_no_system (Some y) ≡ false) × (sequences_in (Some y) ≡ sequences_of y) × (positions_in (Some y) ≡ positions_of y)
      × (frame_bytes (Some y) ≡ 48000 * sequences_of y) × (passes test (Some y) ≡ test y) × (rows_in (Some y) rows ≡ rows y)
  pub in_none : (test : System → Bool) (rows : System → List Refusal)
      → (is_no_system None ≡ true) × (passes test None ≡ false) × (rows_in None rows ≡ [])

-- Block IDs
pub record IdsInNumbers : Type 0 where
  -- "0 header, 1 subcode, 2 VAUX, 3 audio, 4 video"; "(FSC, FSP) = (0,1), (1,1), (0,0), (1,0) is channel 0, 1, 2, 3"
  pub sections : (section_of 0 ≡ Header) × (section_of 1 ≡ Subcode) × (section_of 2 ≡ Vaux) × (section_of 3 ≡ Audio) × (section_of 4 ≡ Video)
  pub codes : (code_of Header ≡ 0) × (code_of Subcode ≡ 1) × (code_of Vaux ≡ 2) × (code_of Audio ≡ 3) × (code_of Video ≡ 4)
  pub channels : (channel_of 0 1 ≡ 0) × (channel_of 1 1 ≡ 1) × (channel_of 0 0 ≡ 2) × (channel_of 1 0 ≡ 3)
  -- "Byte 0: section in bits 7-5 .. Byte 1: Dseq in bits 7-4, FSC bit 3, FSP bit 2. Byte 2: DBN."; "Other bits are written 1": of any block, in a frame or not
  pub bits : (id : List ℕ) → (section_bits id ≡ get_or id 0 0 / 32) × (dseq_bits id ≡ get_or id 1 0 / 16) × (fsc_bit id ≡ get_or id 1 0 / 8 % 2)
      × (fsp_bit id ≡ get_or id 1 0 / 4 % 2) × (dbn_byte id ≡ get_or id 2 0) × (arbitrary_bits id ≡ get_or id 0 0 % 16)
      × (reserved_bits id ≡ get_or id 0 0 / 16 % 2 * 4 + get_or id 1 0 % 4)
  pub ids : (s : Section) (h q d : ℕ) → h < 4 → q < 16 → d < 256
      → id_bytes (id_of h q s d) ≡ (32 * code_of s + 31) ∷ (16 * q + 4 * channel_bits h + 3) ∷ d ∷ []
  pub ids_at : (h q p : ℕ) → h < 4 → q < 16 → p < 150
      → id_bytes (id_at h q (place p)) ≡ (32 * Paper.section_at p + 31) ∷ (16 * q + 4 * channel_bits h + 3) ∷ Paper.number_at p ∷ []
  -- "The answer to an ID is a named block with its section, or fault 11": "5-7 reserved"; "an ID 3 bytes", else 4; "the four arbitrary bits and three
  -- reserved bits as found, beside what it names"
  pub read : (id : List ℕ) → length id ≡ 3 → get_or id 0 0 / 32 < 5
      → id_answer id ≡ Named (record {
        section = section_of (get_or id 0 0 / 32);
        channel = channel_by (get_or id 1 0 / 4 % 4);
        dseq = get_or id 1 0 / 16;
        dbn = record { 0 = get_or id 2 0 };
      })
      (record { arbitrary = get_or id 0 0 % 16; reserved = get_or id 0 0 / 16 % 2 * 4 + get_or id 1 0 % 4 })
  pub reserved : (id : List ℕ) → length id ≡ 3 → 5 ≤ get_or id 0 0 / 32 → id_answer id ≡ Reserved
  pub wrong_length : (id : List ℕ) → length id ≢ 3 → id_answer id ≡ WrongLength
  pub values : (b : BlockId) (s : Spare)
      → (id_values (Named b s) ≡ record {
        number = 0;
        section = code_of b.section;
        channel = b.channel;
        dseq = b.dseq;
        dbn = b.dbn.0;
        arbitrary = s.arbitrary;
        reserved = s.reserved;
      })
      × (id_values Reserved ≡ record { number = 11; section = 0; channel = 0; dseq = 0; dbn = 0; arbitrary = 0; reserved = 0 })
      × (id_values WrongLength ≡ record { number = 4; section = 0; channel = 0; dseq = 0; dbn = 0; arbitrary = 0; reserved = 0 })

-- Places and blocks
pub record BlocksInNumbers : Type 0 where
  -- "Places 0 to 5 are H0, SC0, SC1, VA0, VA1, VA2. Then for a = 0 to 8: place 6+16a is A(a), the next 15 are V(15a) to V(15a+14).": figure 3
  pub places : tab (λ (p : ℕ). (code_of (entry_at (place p)).section, (entry_at (place p)).number.0)) 150 ≡ figure3
  pub places_in : (k : ℕ) → (place_in Header k ≡ k) × (place_in Subcode k ≡ 1 + k) × (place_in Vaux k ≡ 3 + k) × (place_in Audio k ≡ 6 + 16 * k)
      × (place_in Video k ≡ Paper.slot_place k)
  -- and back, over all entries: a place for what stands there, and none for what stands nowhere
  pub places_back : (p : ℕ) → p < 150
      → (place_of (entry_at (place p)) ≡ Some (place p)) × (place_for (entry_at (place p)).section (entry_at (place p)).number ≡ place p)
  pub places_only : (e : Entry) (p : Place) → place_of e ≡ Some p → (p.0 < 150) × (entry_at p ≡ e)
  pub no_place : (s : Section) (k : BlockNumber) → (place_for s k).0 < 150 → entry_at (place_for s k) ≡ record { section = s; number = k }
  -- "Block start: ((n·h + q)·150 + place)·80."; a sequence, and a block as a part of it
  pub starts : (y : System) (h q p : ℕ) → start_of y h q p ≡ Paper.start (sequences_of y) h q p
  pub blocks : (y : System) (f : List ℕ) (h q p : ℕ) → block_at y f h q p ≡ bytes_at (sequences_of y) f h q p 0 80
  pub sequence_bytes : (y : System) (f : List ℕ) (h q : ℕ) → sequence_at y f h q ≡ take 12000 (drop ((sequences_of y * h + q) * 12000) f)
  pub block_bytes : (f : List ℕ) (p : ℕ) → block_in f p ≡ take 80 (drop (p * 80) f)
  pub blocks_in_lem : (y : System) (f : List ℕ) (h q p : ℕ) → p < 150 → block_in (sequence_at y f h q) p ≡ bytes_at (sequences_of y) f h q p 0 80
  pub blocks_count : (y : System) → blocks_in y ≡ 600 * sequences_of y
  -- "Blocks do not overlap, lie in the frame and cover it": byte k of a frame is byte i of one block
  pub holds_says : (y : System) (k h q p i : ℕ) → Holds y k h q p i
      → (h < 4) × (q < sequences_of y) × (p < 150) × (i < 80) × (k ≡ Paper.start (sequences_of y) h q p + i)
  pub holds_cover : (y : System) (k : ℕ) → k < 48000 * sequences_of y
      → Holds y k (k / 80 / 150 / sequences_of y) (k / 80 / 150 % sequences_of y) (k / 80 % 150) (k % 80)
  pub holds_one : (y : System) (k h q p i h' q' p' i' : ℕ) → Holds y k h q p i → Holds y k h' q' p' i' → (h ≡ h') × (q ≡ q') × (p ≡ p') × (i ≡ i')
  pub holds_within : (y : System) (k h q p i : ℕ) → Holds y k h q p i → k < 48000 * sequences_of y
  -- a part of a frame as an answer: "A refusal answers its number, otherwise zeros and an empty part"
  pub parts : (start size : ℕ) → part_at 0 start size ≡ record { number = 0; start = start; length = size }
  pub no_part : (number start size : ℕ) → number ≢ 0 → part_at number start size ≡ record { number = number; start = 0; length = 0 }
  pub part_bytes : (f : List ℕ) (r : Part) → Blocks.bytes_of f r ≡ take r.length (drop r.start f)
  -- "A block names its place when section, channel, Dseq and DBN all do.": block j of the stream; and any block by its three bytes
  pub names : (y : System) (g : List ℕ) (j : ℕ) → named y g j ≡ true
      → NamesPlace (take 80 (drop (j * 80) g)) (j / 150 / sequences_of y) (j / 150 % sequences_of y) (j % 150)
  pub names_not : (y : System) (g : List ℕ) (j : ℕ) → named y g j ≡ false
      → NamesPlace (take 80 (drop (j * 80) g)) (j / 150 / sequences_of y) (j / 150 % sequences_of y) (j % 150) → ⊥
  pub names_in : (block : List ℕ) (h q p : ℕ) → 3 ≤ length block
      → Faults.names block h q p ≡ eqb (fault (get_or block 0 0) (get_or block 1 0) (get_or block 2 0) h q p) 0
  -- 11 to 15, of a block by its three bytes
  pub faults : (block : List ℕ) (h q p : ℕ) → 3 ≤ length block → fault_at block h q p ≡ fault (get_or block 0 0) (get_or block 1 0) (get_or block 2 0) h q p
  -- "Other bits are .. ignored on reading": two blocks that differ in the spare bits of their IDs have the same fault, in every place
  pub spare : (a b : List ℕ) (h q p : ℕ) → 3 ≤ length a → 3 ≤ length b → get_or a 0 0 / 32 ≡ get_or b 0 0 / 32 → get_or a 1 0 / 4 ≡ get_or b 1 0 / 4
      → get_or a 2 0 ≡ get_or b 2 0 → fault_at a h q p ≡ fault_at b h q p

-- Samples, and where they stand
pub record SoundInNumbers : Type 0 where
  -- the block and the byte of a sample, and the parts of the rule
  pub sound : (y : System) (g : List ℕ) (c t : ℕ) → (sound_named y g c t ≡ named y g (Paper.sound_index (sequences_of y) c t))
      × (sound_block y g c t ≡ take 80 (drop (Paper.sound_index (sequences_of y) c t * 80) g)) × (byte_of (half_of y) t ≡ 8 + 2 * (t / (9 * (sequences_of y / 2))))
  pub sound_parts : (s c t : ℕ) → (dif_of c ≡ (c - 1) / 2) × (half_at c ≡ (c + 1) % 2) × (rank_of s t ≡ (t / 3 + 2 * (t % 3)) % s)
      × (audio_of s t ≡ 3 * (t % 3) + t % (9 * s) / (3 * s)) × (word_number s t ≡ t / (9 * s))
  -- back: the sample at word w of audio block a of rank r, the audio channel of a sequence and its rank there
  pub sound_first : (s r a w : ℕ) → sample_at s r a w ≡ 9 * s * w + first_at s r a
  pub sound_back : (s : ℕ) → (s ≡ 5) ⊎ (s ≡ 6) → (t : ℕ)
      → sample_at s ((t / 3 + 2 * (t % 3)) % s) (3 * (t % 3) + t % (9 * s) / (3 * s)) (t / (9 * s)) ≡ t
  pub audio_back : (s : ℕ) → (s ≡ 5) ⊎ (s ≡ 6) → (c r : ℕ) → 0 < c → r < s
      → (audio_at s ((c - 1) / 2) (s * ((c + 1) % 2) + r) ≡ c) × (rank_at s (s * ((c + 1) % 2) + r) ≡ r)
  -- "a sample outside -32,768 to 32,768"
  pub range : (n : ℕ) → (in_range (pos n) ≡ leb n 32768) × (in_range (negsuc n) ≡ leb n 32767)
  pub all_in_range_lem : (xs : List ℤ) → all_in_range xs ≡ true → (i : ℕ) → i < length xs → in_range (get_or xs i (pos 0)) ≡ true
  pub all_passes : (xs : List ℤ) → ((i : ℕ) → i < length xs → in_range (get_or xs i (pos 0)) ≡ true) → all_in_range xs ≡ true
  -- "a sample is a level or it is lost", 32,768 in a slice and 8000h in a block; outside the range there is none
  pub lost : (sample_in (pos 32768) ≡ Some Lost) × (sample_of 0x8000 ≡ Lost)
  pub sample_numbers : (z : ℤ) → (number_of (Level z) ≡ z) × (number_of Lost ≡ pos 32768)
  pub levels : (z : ℤ) → in_range z ≡ true → z ≢ pos 32768 → sample_in z ≡ Some (Level z)
  pub no_sample : (z : ℤ) → in_range z ≡ false → sample_in z ≡ None
  -- "Word 8000h is lost; a level of -32,768 is written 8001h", and comes back as -32,767; "high byte first"
  pub hears : (w : ℕ) → number_of (sample_of w) ≡ sample_by w
  pub words : (z : ℤ) → in_range z ≡ true → (word_for z ≡ Paper.word_by z) × (back_of z ≡ Paper.back z)
  pub bytes : (w : ℕ) → bytes_of w ≡ w / 256 ∷ w % 256 ∷ []
  -- what a frame says of a position; and as it is salvaged, lost where its block does not name its place
  pub heard : (y : System) (g : List ℕ) (c t : ℕ) → t < positions_of y → number_of (read_sample y g c t) ≡ sample_by (Paper.sound_word (sequences_of y) g c t)
  pub salvaged : (y : System) (g : List ℕ) (c t : ℕ) → sound_named y g c t ≡ true → salvaged_sample y g c t ≡ read_sample y g c t
  pub salvaged_lost : (y : System) (g : List ℕ) (c t : ℕ) → sound_named y g c t ≡ false → salvaged_sample y g c t ≡ Lost

pub record InNumbers : Type 0 where
  pub of_systems : SystemsInNumbers
  pub of_ids : IdsInNumbers
  pub of_blocks : BlocksInNumbers
  pub of_sound : SoundInNumbers
