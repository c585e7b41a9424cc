-- The place of a sample (document 01, "Sound"). s is n/2; audio channels are 1 to 8; DIF channels are 0 to 3.
use Rattle.std.specs.Prelude.{ℕ, ◌+◌, ◌-◌, ◌*◌, ◌/◌, ◌%◌}
use Rattle.paper.specs.declared.Section.TheVariants.{Audio}
use Rattle.rules_format.specs.Places.{place_in}

-- "channel c lies in DIF channel (c-1) div 2"
abbrev pub dif_of : ℕ → ℕ
dif_of c = (c - 1) / 2

-- "odd c in the first n/2 sequences, even c in the rest"
abbrev pub half_at : ℕ → ℕ
half_at c = (c + 1) % 2

-- "sample t is in sequence (t div 3 + 2(t mod 3)) mod s", which is its rank in the channel's half, "plus s for even c"
abbrev pub rank_of : ℕ → ℕ → ℕ
rank_of s t = (t / 3 + 2 * (t % 3)) % s

abbrev pub sequence_of : ℕ → ℕ → ℕ → ℕ
sequence_of s c t = s * half_at c + rank_of s t

-- "audio block 3(t mod 3) + (t mod 9s) div 3s"
abbrev pub audio_of : ℕ → ℕ → ℕ
audio_of s t = 3 * (t % 3) + t % (9 * s) / (3 * s)

abbrev pub sound_place : ℕ → ℕ → ℕ
sound_place s t = place_in Audio (audio_of s t)

-- "byte 8 + 2(t div 9s)", of the block's 36 words
abbrev pub word_number : ℕ → ℕ → ℕ
word_number s t = t / (9 * s)

abbrev pub byte_of : ℕ → ℕ → ℕ
byte_of s t = 8 + 2 * word_number s t

-- ---- back: the audio channel of sequence q of DIF channel h, its rank there, and the sample at word w of audio block a of rank r

abbrev pub audio_at : ℕ → ℕ → ℕ → ℕ
audio_at s h q = 2 * h + q / s + 1

abbrev pub rank_at : ℕ → ℕ → ℕ
rank_at s q = q % s

abbrev pub first_at : ℕ → ℕ → ℕ → ℕ
first_at s r a = 3 * s * (a % 3) + 3 * ((r + 2 * s - 2 * (a / 3)) % s) + a / 3

abbrev pub sample_at : ℕ → ℕ → ℕ → ℕ → ℕ
sample_at s r a w = 9 * s * w + first_at s r a
