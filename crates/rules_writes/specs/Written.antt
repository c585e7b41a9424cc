-- What a written frame holds, block by block in stream order. Each payload is told what it says, and no more.
use Rattle.std.specs.Prelude.{List, ◌++◌, ℕ, ◌+◌, ◌-◌, ◌*◌, ltb, ℤ, pos, length, take, drop, get_or, replicate, Option, Some, None}
use Rattle.base.specs.Pick.{pick}
use Rattle.base.specs.Run.{run, tab}
use Rattle.paper.specs.declared.System.{System}
use Rattle.paper.specs.declared.Section.{Section}
use Rattle.paper.specs.declared.Section.TheVariants.{Header, Subcode, Vaux, Audio, Video}
use Rattle.paper.specs.declared.Entry.{Entry}
use Rattle.paper.specs.declared.Pack.{Pack}
use Rattle.paper.specs.declared.Repeated.{Repeated}
use Rattle.rules_format.specs.Systems.{sequences_of, half_of}
use Rattle.rules_format.specs.Places.{place, entry_at}
use Rattle.rules_format.specs.Ids.{id_bytes, id_of}
use Rattle.rules_packs.specs.Packs.{pack_bytes}
use Rattle.rules_packs.specs.Header.{header_bytes}
use Rattle.rules_packs.specs.Subcode.{is_first, subcode_bytes}
use Rattle.rules_packs.specs.Vaux.{vaux_bytes}
use Rattle.rules_packs.specs.Aaux.{as_pack, aaux_pack}
use Rattle.rules_format.specs.Samples.{word_for, bytes_of}
use Rattle.rules_format.specs.Sound.{audio_at, rank_at, sample_at}
use Rattle.rules_picture.specs.Picture.{slot, carried_in}

-- ---- sound: "Positions from the count on are written 0"

-- the samples of audio channel c; sound is lent channel after channel
unfoldable pub samples_of : ℕ → List ℤ → ℕ → List ℤ
samples_of count sound c = take count (drop ((c - 1) * count) sound)

-- the word of position t of an audio channel
unfoldable pub sample_word : List ℤ → ℕ → ℕ
sample_word samples t = pick (ltb t (length samples)) (word_for (get_or samples t (pos 0))) 0

-- the two bytes of word w of A(a) in sequence q
unfoldable pub word_bytes : System → List ℤ → ℕ → ℕ → ℕ → List ℕ
word_bytes y samples q a w = bytes_of (sample_word samples (sample_at (half_of y) (rank_at (half_of y) q) a w))

-- bytes 3 to 79 of A(a) in sequence q: its pack, where `source` is the AS of its audio channel, and 36 words
unfoldable pub audio_bytes : System → Pack → Pack → List ℤ → ℕ → ℕ → List ℕ
audio_bytes y source asc samples q a = pack_bytes (aaux_pack source asc q a) ++ run (word_bytes y samples q a) 36

-- ---- picture: 77 bytes a macroblock in number order; a slot that carries none has "payload FFh"

unfoldable pub carried_bytes : List ℕ → Option ℕ → List ℕ
carried_bytes macroblocks (Some b) = tab (λ (i : ℕ). get_or macroblocks (77 * b + i) 0) 77
carried_bytes macroblocks None = replicate 77 0xFF

-- bytes 3 to 79 of V(v) in sequence q of DIF channel h
unfoldable pub video_bytes : System → List ℕ → ℕ → ℕ → ℕ → List ℕ
video_bytes y macroblocks h q v = carried_bytes macroblocks (carried_in y (slot h q v))

-- ---- what a frame is made of: what its sequences repeat, and the sound and picture that is shared out to them

pub record Material : Type 0 where
  pub repeated : Repeated
  pub count : ℕ
  pub sound : List ℤ
  pub macroblocks : List ℕ

abbrev pub material_of : Repeated → ℕ → List ℤ → List ℕ → Material
material_of repeated count sound macroblocks = record { repeated = repeated; count = count; sound = sound; macroblocks = macroblocks }

-- ---- a DIF channel: a run of sequences, each of 150 blocks, each an ID and 77 bytes

-- bytes 3 to 79 of block k of a section
unfoldable pub payload : System → Material → ℕ → ℕ → Section → ℕ → List ℕ
payload y m h q Header k = header_bytes y
payload y m h q Subcode k = subcode_bytes (is_first y q) m.repeated.subcode k
payload y m h q Vaux k = vaux_bytes m.repeated.vs m.repeated.vsc q k
payload y m h q Audio a = audio_bytes y (as_pack y m.count c) m.repeated.asc (samples_of m.count m.sound c) q a
  where
    c : ℕ
    c = audio_at (half_of y) h q
payload y m h q Video v = video_bytes y m.macroblocks h q v

-- the block of entry e
unfoldable pub entry_block : System → Material → ℕ → ℕ → Entry → List ℕ
entry_block y m h q e = id_bytes (id_of h q e.section e.number.0) ++ payload y m h q e.section e.number.0

unfoldable pub written_block : System → Material → ℕ → ℕ → ℕ → List ℕ
written_block y m h q p = entry_block y m h q (entry_at (place p))

unfoldable pub written_sequence : System → Material → ℕ → ℕ → List ℕ
written_sequence y m h q = run (written_block y m h q) 150

unfoldable pub written_channel : System → Material → ℕ → List ℕ
written_channel y m h = run (written_sequence y m h) (sequences_of y)
