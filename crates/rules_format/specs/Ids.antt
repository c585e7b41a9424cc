-- Block IDs, read and written (document 01, "Block ID").
use Rattle.std.specs.Prelude.{List, [], ◌∷◌, ℕ, ◌+◌, ◌*◌, ◌-◌, ◌/◌, ◌%◌, ltb, eqb, length, get_or, take}
use Rattle.base.specs.Pick.{pick}
use Rattle.paper.specs.declared.Section.{Section}
use Rattle.paper.specs.declared.Place.{Place}
use Rattle.paper.specs.declared.BlockId.{BlockId}
use Rattle.paper.specs.declared.Spare.{Spare}
use Rattle.paper.specs.declared.IdAnswer.{IdAnswer}
use Rattle.paper.specs.declared.IdAnswer.TheVariants.{Named, Reserved, WrongLength}
use Rattle.paper.specs.declared.IdValues.{IdValues}
use Rattle.rules_format.specs.Places.{code_of, section_of, entry_at}

-- ---- the three bytes

-- "Byte 0: section in bits 7-5"
abbrev pub section_bits : List ℕ → ℕ
section_bits id = get_or id 0 0 / 32

-- "Byte 1: Dseq in bits 7-4, FSC bit 3, FSP bit 2"
abbrev pub dseq_bits : List ℕ → ℕ
dseq_bits id = get_or id 1 0 / 16

abbrev pub fsc_bit : List ℕ → ℕ
fsc_bit id = get_or id 1 0 / 8 % 2

abbrev pub fsp_bit : List ℕ → ℕ
fsp_bit id = get_or id 1 0 / 4 % 2

-- "Byte 2: DBN"
abbrev pub dbn_byte : List ℕ → ℕ
dbn_byte id = get_or id 2 0

-- "the four arbitrary bits", 3-0 of byte 0
abbrev pub arbitrary_bits : List ℕ → ℕ
arbitrary_bits id = get_or id 0 0 % 16

-- "and three reserved bits": bit 4 of byte 0, with weight 4, and bits 1-0 of byte 1
abbrev pub reserved_bits : List ℕ → ℕ
reserved_bits id = get_or id 0 0 / 16 % 2 * 4 + get_or id 1 0 % 4

-- "(FSC, FSP) = (0,1), (1,1), (0,0), (1,0) is channel 0, 1, 2, 3"
unfoldable pub channel_of : ℕ → ℕ → ℕ
channel_of fsc fsp = pick (eqb fsp 1) (pick (eqb fsc 0) 0 1) (pick (eqb fsc 0) 2 3)

-- ---- reading: "The answer to an ID is a named block with its section, or fault 11."

-- the block that three bytes name
unfoldable pub named_by : List ℕ → BlockId
named_by id = record {
  section = section_of (section_bits id);
  channel = channel_of (fsc_bit id) (fsp_bit id);
  dseq = dseq_bits id;
  dbn = record { 0 = dbn_byte id };
}

-- the spare bits "as found, beside what it names"
unfoldable pub spare_in : List ℕ → Spare
spare_in id = record { arbitrary = arbitrary_bits id; reserved = reserved_bits id }

unfoldable pub id_answer : List ℕ → IdAnswer
id_answer id = pick (eqb (length id) 3) (pick (ltb (section_bits id) 5) (Named (named_by id) (spare_in id)) Reserved) WrongLength

-- the answer to the ID of a block, its first three bytes
abbrev pub block_answer : List ℕ → IdAnswer
block_answer block = id_answer (take 3 block)

-- the paper's number and values for each answer
abbrev pub id_refusal : ℕ → IdValues
id_refusal k = record { number = k; section = 0; channel = 0; dseq = 0; dbn = 0; arbitrary = 0; reserved = 0 }

abbrev pub id_values : IdAnswer → IdValues
id_values (Named b s) = record {
  number = 0;
  section = code_of b.section;
  channel = b.channel;
  dseq = b.dseq;
  dbn = b.dbn.0;
  arbitrary = s.arbitrary;
  reserved = s.reserved;
}
id_values Reserved = id_refusal 11
id_values WrongLength = id_refusal 4

-- ---- writing: "Other bits are written 1"

abbrev pub fsc_of : ℕ → ℕ
fsc_of h = h % 2

abbrev pub fsp_of : ℕ → ℕ
fsp_of h = 1 - h / 2 % 2

abbrev pub byte0_of : BlockId → ℕ
byte0_of b = code_of b.section * 32 + 31

-- a Dseq has four bits, a DBN eight
abbrev pub byte1_of : BlockId → ℕ
byte1_of b = b.dseq % 16 * 16 + fsc_of b.channel * 8 + fsp_of b.channel * 4 + 3

abbrev pub byte2_of : BlockId → ℕ
byte2_of b = b.dbn.0 % 256

unfoldable pub id_bytes : BlockId → List ℕ
id_bytes b = byte0_of b ∷ byte1_of b ∷ byte2_of b ∷ []

-- the ID of block k of a section, in sequence q of DIF channel h
abbrev pub id_of : ℕ → ℕ → Section → ℕ → BlockId
id_of h q section k = record { section = section; channel = h; dseq = q; dbn = record { 0 = k } }

-- the ID of the block at place p of sequence q of DIF channel h
unfoldable pub id_at : ℕ → ℕ → Place → BlockId
id_at h q p = id_of h q (entry_at p).section (entry_at p).number.0
