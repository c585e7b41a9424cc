-- The blocks of a sequence in stream order: six, then nine banks.
use Rattle.std.specs.Prelude.{List, ◌++◌, ℕ, ◌+◌, ◌*◌, ℤ}
use Rattle.base.specs.Run.{run}
use Rattle.paper.specs.declared.System.{System}
use Rattle.paper.specs.declared.Section.{Section}
use Rattle.paper.specs.declared.Section.TheVariants.{Header, Subcode, Vaux, Audio, Video}
use Rattle.paper.specs.declared.Pack.{Pack}
use Rattle.paper.specs.declared.Repeated.{Repeated}
use Rattle.rules_format.specs.Ids.{id_bytes, id_of}
use Rattle.rules_packs.specs.Header.{header_bytes}
use Rattle.rules_packs.specs.Subcode.{is_first, subcode_bytes}
use Rattle.rules_packs.specs.Vaux.{vaux_bytes}
use Rattle.rules_writes.specs.Written.{audio_bytes, video_bytes}

-- block k of a section, by the section's payload
abbrev pub section_block : ℕ → ℕ → Section → (ℕ → List ℕ) → ℕ → List ℕ
section_block h q s payload k = id_bytes (id_of h q s k) ++ payload k

-- the first n of a section
unfoldable pub first_blocks : ℕ → ℕ → Section → (ℕ → List ℕ) → ℕ → List ℕ
first_blocks h q s payload n = run (section_block h q s payload) n

-- H0, SC0, SC1, VA0, VA1, VA2
unfoldable pub head_blocks : System → Repeated → ℕ → ℕ → List ℕ
head_blocks y r h q =
    section_block h q Header (λ (k : ℕ). header_bytes y) 0
    ++ (first_blocks h q Subcode (subcode_bytes (is_first y q) r.subcode) 2 ++ first_blocks h q Vaux (vaux_bytes r.vs r.vsc q) 3)

-- fifteen video blocks, from V(v) on
unfoldable pub video_blocks : System → List ℕ → ℕ → ℕ → ℕ → List ℕ
video_blocks y macroblocks h q v = run (λ (j : ℕ). section_block h q Video (video_bytes y macroblocks h q) (v + j)) 15

-- A(a) and the video blocks behind it
unfoldable pub bank_blocks : System → Pack → Pack → List ℤ → List ℕ → ℕ → ℕ → ℕ → List ℕ
bank_blocks y source asc samples macroblocks h q a = section_block h q Audio (audio_bytes y source asc samples q) a ++ video_blocks y macroblocks h q (15 * a)
