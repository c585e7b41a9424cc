-- The call `read_audio`.
use Rattle.std.specs.Prelude.{◌≡◌, Bool, not, ◌&&◌, List, [], ◌∷◌, ◌++◌, ℕ, ◌*◌, eqb, ltb, ℤ, length, drop}
use Rattle.base.specs.Calls.{Refusal, first_of, ◌when◌}
use Rattle.base.specs.Pick.{pick}
use Rattle.base.specs.Run.{tab}
use Rattle.paper.specs.declared.System.{System}
use Rattle.paper.specs.declared.Section.TheVariants.{Audio}
use Rattle.paper.specs.declared.Pack.{Pack}
use Rattle.paper.specs.declared.Sample.{Sample}
use Rattle.paper.specs.declared.Sample.TheVariants.{Lost}
use Rattle.paper.specs.declared.AudioAnswer.{AudioAnswer}
use Rattle.rules_format.specs.Systems.{half_of, in_system, system_of, is_no_system, positions_in, rows_in, frame_bytes}
use Rattle.rules_format.specs.Places.{place_in}
use Rattle.rules_format.specs.Blocks.{sequence_at, block_in}
use Rattle.rules_packs.specs.Aaux.{as_at, count_in, mode_in, is_mark, as_ok, aaux_in}
use Rattle.rules_format.specs.Samples.{number_of}
use Rattle.rules_format.specs.Sound.{dif_of, half_at}
use Rattle.rules_reads.specs.Check.{every_from, every_sequence, unflagged, check_rows}
use Rattle.rules_format.specs.Reading.{read_sample}

-- ---- the AS packs of an audio channel

-- its first sequence
abbrev pub first_of_half : System → ℕ → ℕ
first_of_half y c = half_of y * half_at c

-- every sequence of its half passes
abbrev pub every_in_half : System → List ℕ → ℕ → (ℕ → List ℕ → Bool) → Bool
every_in_half y frame c test = every_from y frame (dif_of c) (first_of_half y c) (half_of y) test

-- the AS of sequence q
abbrev pub as_in : ℕ → List ℕ → Pack
as_in q part = aaux_in (block_in part (place_in Audio (as_at q)))

-- not 24: "an AS of the channel breaks the rules above"
abbrev pub as_keeps : System → ℕ → ℕ → List ℕ → Bool
as_keeps y c q part = as_ok y c (as_in q part)

-- its first AS
unfoldable pub first_as : System → List ℕ → ℕ → Pack
first_as y frame c = as_in (first_of_half y c) (sequence_at y frame (dif_of c) (first_of_half y c))

-- the count and the mode that it says
abbrev pub count_for : System → List ℕ → ℕ → ℕ
count_for y frame c = count_in (first_as y frame c)

abbrev pub mode_for : System → List ℕ → ℕ → ℕ
mode_for y frame c = mode_in (first_as y frame c)

-- marked "with audio mode 1111", by its first AS: where the channel is read, the others say the same
abbrev pub is_marked : System → List ℕ → ℕ → Bool
is_marked y frame c = is_mark (mode_for y frame c)

-- an AS says this count, this mode
abbrev pub count_is : ℕ → ℕ → List ℕ → Bool
count_is count q part = eqb (count_in (as_in q part)) count

abbrev pub mode_is : ℕ → ℕ → List ℕ → Bool
mode_is mode q part = eqb (mode_in (as_in q part)) mode

-- not 25: "the channel's AS packs differ in count"; "25 also covers AS packs that differ in mode"
unfoldable pub as_agree : System → List ℕ → ℕ → Bool
as_agree y frame c = every_in_half y frame c (count_is (count_for y frame c)) && every_in_half y frame c (mode_is (mode_for y frame c))

-- ---- the refusals in their order

-- an audio channel is 1 to 8
abbrev pub is_audio : ℕ → Bool
is_audio c = ltb 0 c && ltb c 9

-- "audio read adds 23-25"
unfoldable pub audio_rows : System → List ℕ → ℕ → List Refusal
audio_rows y frame c =
    23 when not (every_sequence y frame (unflagged 1))
    ∷ 24 when not (every_in_half y frame c (as_keeps y c))
    ∷ 25 when not (as_agree y frame c)
    ∷ []

-- system k, the frame, audio channel c, a list of so many entries
unfoldable pub audio_number : ℕ → List ℕ → ℕ → ℕ → ℕ
audio_number k frame c size = first_of (
    1 when is_no_system (system_of k)
    ∷ 2 when not (eqb (length frame) (frame_bytes (system_of k)))
    ∷ 3 when not (is_audio c)
    ∷ 4 when not (eqb size (positions_in (system_of k)))
    ∷ rows_in (system_of k) (λ (y : System). check_rows y frame ++ audio_rows y frame c))

-- ---- the answer and the list: "the count answered and entries from the count on untouched"

unfoldable pub audio_answer : ℕ → List ℕ → ℕ → ℕ → AudioAnswer
audio_answer k frame c size =
    pick (eqb (audio_number k frame c size) 0)
    (record { number = 0; count = in_system 0 (λ (y : System). count_for y frame c) (system_of k) })
    (record { number = audio_number k frame c size; count = 0 })

-- "hands out every sample up to it as lost"
unfoldable pub heard_sample : System → List ℕ → ℕ → ℕ → Sample
heard_sample y frame c t = pick (is_marked y frame c) Lost (read_sample y frame c t)

unfoldable pub heard : System → List ℕ → ℕ → List ℤ → List ℤ
heard y frame c list = tab (λ (t : ℕ). number_of (heard_sample y frame c t)) (count_for y frame c) ++ drop (count_for y frame c) list

unfoldable pub audio_left : ℕ → List ℕ → ℕ → List ℤ → List ℤ
audio_left k frame c list = pick (eqb (audio_number k frame c (length list)) 0) (in_system list (λ (y : System). heard y frame c list) (system_of k)) list

-- system k, the frame, audio channel c, the list before, the answer r, the list after
pub record AudioRead (k : ℕ) (frame : List ℕ) (c : ℕ) (list : List ℤ) (r : AudioAnswer) (list' : List ℤ) : Type 0 where
  pub answer : r ≡ audio_answer k frame c (length list)
  pub left : list' ≡ audio_left k frame c list
