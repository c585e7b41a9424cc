-- The blocks of a frame counted in stream order: where each stands, and whether it names its place.
use Rattle.std.specs.Prelude.{Bool, List, ℕ, ◌*◌, ◌/◌, ◌%◌, take, drop}
use Rattle.paper.specs.declared.System.{System}
use Rattle.rules_format.specs.Systems.{sequences_of}
use Rattle.rules_format.specs.Faults.{names}

-- the blocks of a frame
abbrev pub blocks_in : System → ℕ
blocks_in y = 150 * (sequences_of y * 4)

-- block j of the stream, and where it stands
abbrev pub nth_block : List ℕ → ℕ → List ℕ
nth_block frame j = take 80 (drop (j * 80) frame)

abbrev pub channel_at : System → ℕ → ℕ
channel_at y j = j / 150 / sequences_of y

abbrev pub dseq_at : System → ℕ → ℕ
dseq_at y j = j / 150 % sequences_of y

abbrev pub place_at : ℕ → ℕ
place_at j = j % 150

-- it names its place
abbrev pub named : System → List ℕ → ℕ → Bool
named y frame j = names (nth_block frame j) (channel_at y j) (dseq_at y j) (place_at j)
