-- The blocks of a frame that do not name their place, in stream order, each with its fault (document 01, "Refusal numbers and their order").
use Rattle.std.specs.Prelude.{List, [], ◌∷◌, Bool, ℕ, zero, suc, ◌+◌, Option}
use Rattle.base.specs.Pick.{pick}
use Rattle.base.specs.Run.{run}
use Rattle.paper.specs.declared.System.{System}
use Rattle.paper.specs.declared.Fault.{Fault}
use Rattle.rules_format.specs.Systems.{sequences_of, in_system}
use Rattle.rules_format.specs.Places.{place}
use Rattle.rules_format.specs.Blocks.{sequence_at, block_in}
use Rattle.rules_format.specs.Faults.{fault_at, names}
use Rattle.rules_format.specs.Stream.{channel_at, named, dseq_at, place_at, nth_block}

-- ---- in stream order: places, then sequences, then DIF channels

-- one record where the block does not name its place, and none where it does
unfoldable pub block_faults : List ℕ → ℕ → ℕ → ℕ → List Fault
block_faults block h q p = pick (names block h q p) [] (record { channel = h; sequence = q; place = place p; fault = fault_at block h q p } ∷ [])

abbrev pub place_faults : List ℕ → ℕ → ℕ → ℕ → List Fault
place_faults sequence h q p = block_faults (block_in sequence p) h q p

unfoldable pub sequence_faults : List ℕ → ℕ → ℕ → List Fault
sequence_faults sequence h q = run (place_faults sequence h q) 150

abbrev pub part_faults : System → List ℕ → ℕ → ℕ → List Fault
part_faults y frame h q = sequence_faults (sequence_at y frame h q) h q

unfoldable pub channel_faults : System → List ℕ → ℕ → List Fault
channel_faults y frame h = run (part_faults y frame h) (sequences_of y)

unfoldable pub frame_faults : System → List ℕ → List Fault
frame_faults y frame = run (channel_faults y frame) 4

abbrev pub faults_in : Option System → List ℕ → List Fault
faults_in s frame = in_system [] (λ (y : System). frame_faults y frame) s

-- ---- the same by the number of a block in the stream

-- its record
abbrev pub record_of : System → List ℕ → ℕ → Fault
record_of y frame j = record {
  channel = channel_at y j;
  sequence = dseq_at y j;
  place = place (place_at j);
  fault = fault_at (nth_block frame j) (channel_at y j) (dseq_at y j) (place_at j);
}

-- the records of the first m blocks that do not name their place
unfoldable pub unnamed : System → List ℕ → ℕ → List Fault
unnamed y frame m = run (λ (j : ℕ). pick (named y frame j) [] (record_of y frame j ∷ [])) m

-- how many of the numbers below m fail a test
unfoldable pub failing : (ℕ → Bool) → ℕ → ℕ
failing f zero = 0
failing f (suc m) = pick (f m) 0 1 + failing f m
