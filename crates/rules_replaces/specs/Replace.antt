-- The call `replace_audio`: "a call that replaces one channel's samples in an accepted frame".
use Rattle.std.specs.Prelude.{◌≡◌, true, false, not, List, [], ◌∷◌, ◌++◌, ℕ, ◌+◌, ◌*◌, eqb, ℤ, pos, length, get_or}
use Rattle.base.specs.Calls.{Refusal, first_of, ◌when◌}
use Rattle.base.specs.Pick.{pick}
use Rattle.base.specs.Put.{put_at, turns}
use Rattle.paper.specs.declared.System.{System}
use Rattle.rules_format.specs.Systems.{sequences_of, half_of, in_system, system_of, is_no_system, rows_in, frame_bytes}
use Rattle.rules_format.specs.Blocks.{start_of}
use Rattle.rules_format.specs.Samples.{all_in_range, word_for, bytes_of}
use Rattle.rules_format.specs.Sound.{dif_of, sequence_of, sound_place, byte_of}
use Rattle.rules_reads.specs.Check.{check_rows}
use Rattle.rules_reads.specs.Audio.{count_for, is_marked, is_audio, audio_rows}

-- ---- the frame: "Only the bytes of that channel's samples below the count may change"

-- where the word of sample t of audio channel c starts
abbrev pub word_start : System → ℕ → ℕ → ℕ
word_start y c t = start_of y (dif_of c) (sequence_of (half_of y) c t) (sound_place (half_of y) t) + byte_of (half_of y) t

-- "they hold the new samples as the writer codes them": sample t put there
unfoldable pub put_sample : System → ℕ → List ℤ → ℕ → List ℕ → List ℕ
put_sample y c samples t frame = put_at (word_start y c t) (bytes_of (word_for (get_or samples t (pos 0)))) frame

-- sample after sample
unfoldable pub replaced : System → List ℕ → ℕ → List ℤ → List ℕ
replaced y frame c samples = turns (put_sample y c samples) (length samples) frame

-- ---- the refusals in their order: "those of the audio read, but no 4 for the sample list"

-- "then new 29, a sample list whose length is not the stored count; then 31; then new 33, a channel marked 1111"
unfoldable pub replace_rows : System → List ℕ → ℕ → List ℤ → List Refusal
replace_rows y frame c samples =
    29 when not (eqb (length samples) (count_for y frame c))
    ∷ 31 when not (all_in_range samples)
    ∷ 33 when is_marked y frame c
    ∷ []

unfoldable pub replace_number : ℕ → List ℕ → ℕ → List ℤ → ℕ
replace_number k frame c samples = first_of (
    1 when is_no_system (system_of k)
    ∷ 2 when not (eqb (length frame) (frame_bytes (system_of k)))
    ∷ 3 when not (is_audio c)
    ∷ rows_in (system_of k) (λ (y : System). check_rows y frame ++ (audio_rows y frame c ++ replace_rows y frame c samples)))

-- ---- the frame after: "A refusal .. writes nothing."

unfoldable pub replace_left : ℕ → List ℕ → ℕ → List ℤ → List ℕ
replace_left k frame c samples = pick (eqb (replace_number k frame c samples) 0) (in_system frame (λ (y : System). replaced y frame c samples) (system_of k)) frame

-- system k, the frame before, audio channel c, its new samples, the answer r, the frame after
pub record Replaced (k : ℕ) (frame : List ℕ) (c : ℕ) (samples : List ℤ) (r : ℕ) (frame' : List ℕ) : Type 0 where
  pub answer : r ≡ replace_number k frame c samples
  pub left : frame' ≡ replace_left k frame c samples

-- what the call takes
pub record Takes (y : System) (frame : List ℕ) (c : ℕ) (samples : List ℤ) : Type 0 where
  pub whole : length frame ≡ 48000 * sequences_of y
  pub channel : is_audio c ≡ true
  pub checks : first_of (check_rows y frame) ≡ 0
  pub hears : first_of (audio_rows y frame c) ≡ 0
  pub counts : length samples ≡ count_for y frame c
  pub levels : all_in_range samples ≡ true
  pub recorded : is_marked y frame c ≡ false
