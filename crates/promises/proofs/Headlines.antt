-- What an edit of a promise is refused by: each statement leaves one answer, so that a clause that is weakened is noticed. Assumes nothing.
use mathlib.Core.Path.{◌≡◌}
use mathlib.Core.List.{List, [], ◌∷◌}
use mathlib.Core.Bool.{Bool, true}
use Prim.Native.Nat.{ℕ, ◌+◌, ◌-◌, ◌*◌, ◌/◌, ◌%◌, ◌≤◌, ◌<◌}
use lib.Dec.{ltb}
use lib.IntN.{pos, ℤ}
use lib.ListN.{length, get_or, take, drop, set}
use Rattle.base.specs.Pick.{pick}
use Rattle.base.specs.Calls.{ExactlyOne}
use Rattle.paper.specs.Paper.{sequences, section_at, sound_channel, sound_first, sound_index, mode_said, back, macroblocks, stream_fault}
use Rattle.promises.specs.Contents.{Contents}
use Rattle.promises.specs.Demand2.{Strict, ReadsBack, IdOut, ViewOut, MacroblockOut, ReadOut, GoesThrough, AudioOut, LaidOut}
use Rattle.paper.specs.declared.Survey.{Survey}
use Rattle.paper.specs.declared.AudioAnswer.{AudioAnswer}
use Rattle.promises.specs.Demand3.{Listed, SalvageOut, Salvages, SampleSalvaged}
use Rattle.promises.specs.Unrecorded.{Marks, SameButAudio, SameButAaux}
use Rattle.promises.specs.Commentary.{Exchanged, SalvagedAgain, Changed}
use Rattle.promises.specs.SpareBits.{WithSection, Answerable, told, SameButSpare}
use Rattle.promises.proofs.SpareBits.{section_free, named_values, named_told, told_named, told_section, told_values, spare_free, spare_on}
use Rattle.promises.proofs.Apart.{audio_free, aaux_free}
use Rattle.promises.proofs.Commentary.{exchanged_one, salvaged_again_one}
use Rattle.promises.proofs.Holding.{changed_exactly}
use Rattle.promises.proofs.Unrecorded.{marks_one, marks_bits, already_marked}
use Rattle.rules_format.proofs.Paper.{known_system}
use Rattle.promises.proofs.One.{listed_one, ids_one, views_one, macroblocks_one, reads_one, reads_back_one, salvages_one, salvage_out_one}
use Rattle.promises.proofs.One.{audio_out_one, untouched_one, coasting}
use Rattle.paper.specs.declared.Place.{Place}
use Rattle.paper.specs.declared.IdAnswer.{IdAnswer}
use Rattle.paper.specs.declared.IdValues.{IdValues}
use Rattle.paper.specs.declared.Part.{Part}
use Rattle.promises.proofs.LaidOut.{laid_out_one}
use Rattle.promises.specs.Refusals.{id_table, survey_table, salvage_table, sequence_table, view_table, check_table, audio_table, macroblock_table, time_table}
use Rattle.promises.specs.Refusals.{replace_table, write_table, as_byte}
use Rattle.promises.proofs.OneNumber.{One, id_one, survey_one, salvage_one, sequence_one, view_one, check_one, audio_one, macroblock_one, time_one}
use Rattle.promises.proofs.OneNumber.{replace_one, write_one}

-- ---- 1: a refusal table gives one number at most

pub one_number : (k h q p c b size room : ℕ) (f id : List ℕ) (samples : List ℤ) (l : Contents)
    → One (id_table id) × One (survey_table k size) × One (sequence_table k h q size) × One (view_table k f h q p) × One (check_table k f)
    × One (audio_table k f c room) × One (macroblock_table k f b) × One (time_table k f) × One (salvage_table k size room)
    × One (replace_table k f c samples) × One (write_table k l size)
one_number k h q p c b size room f id samples l = (
  id_one id,
  survey_one k size,
  sequence_one k h q size,
  view_one k f h q p,
  check_one k f,
  audio_one k f c room,
  macroblock_one k f b,
  time_one k f,
  salvage_one k size room,
  replace_one k f c samples,
  write_one k l size,
)

-- ---- 2: what is read

pub one_id : {id : List ℕ} {o o' : IdAnswer} {v v' : IdValues} → IdOut id o v → IdOut id o' v' → (o ≡ o') × (v ≡ v')
one_id = ids_one

pub one_view : {k : ℕ} {f : List ℕ} {h q : ℕ} {p : Place} {part part' : List ℕ} {r r' : Part} → r.number ≡ 0 → r'.number ≡ 0
    → ViewOut k f h q p 0 part r → ViewOut k f h q p 0 part' r' → (part ≡ part') × (r ≡ r')
one_view = views_one

pub one_macroblock : {k : ℕ} {f : List ℕ} {b : ℕ} {r r' : Part} → b < macroblocks k → r.number ≡ 0 → r'.number ≡ 0 → MacroblockOut k f b r
    → MacroblockOut k f b r' → r ≡ r'
one_macroblock = macroblocks_one

-- what comes back lost, and what is heard again
pub one_audio : {count : ℕ} {said : ℕ → ℤ} {before after after' : List ℤ} {o o' : AudioAnswer} → AudioOut count said before o after
    → AudioOut count said before o' after' → (o ≡ o') × (after ≡ after')
one_audio = audio_out_one

pub one_read : {k : ℕ} {f : List ℕ} {c : ℕ} {samples : List ℤ} {b : ℕ} {o o' : Strict} → b < macroblocks k → GoesThrough o → GoesThrough o'
    → ReadOut k f c samples b o → ReadOut k f c samples b o' → o ≡ o'
one_read = reads_one

-- ---- 2: what is written, and reads back

pub one_frame : {k : ℕ} → k < 4 → {l : Contents} {f g : List ℕ} → LaidOut k l f → LaidOut k l g → f ≡ g
one_frame {k} below {l} {f} {g} a b = known_system k below (λ y known. laid_out_one k y known l f g a b)

pub one_back : {l : Contents} {c : ℕ} {samples : List ℤ} {b : ℕ} {o o' : Strict} → ReadsBack l c samples b o → ReadsBack l c samples b o' → o ≡ o'
one_back = reads_back_one

-- ---- unrecorded channels: the frame with an audio channel marked, in all its AS packs or in some; what comes back; what may differ where nothing else does

pub one_marked : (k : ℕ) (f : List ℕ) (c : ℕ) (which : ℕ → Bool) → length f ≡ 48000 * sequences k → 0 < c → c < 9 → ExactlyOne (List ℕ) (Marks k f c which)
one_marked = marks_one

-- a mark is bits 3-0 of these bytes and no other bit; a frame that has it stays as it is
pub marked_bits : {k : ℕ} {f : List ℕ} {c : ℕ} {which : ℕ → Bool} {g : List ℕ} → Marks k f c which g → (r : ℕ) → r < sequences k / 2 → which r ≡ true
    → (as_byte (sequences k) g (sound_channel c) (sound_first (sequences k) c + r) 2 % 16 ≡ 0xF)
    × (as_byte (sequences k) g (sound_channel c) (sound_first (sequences k) c + r) 2 / 16 ≡ as_byte (sequences k) f (sound_channel c) (sound_first (sequences k) c + r) 2 / 16)
marked_bits = marks_bits

pub marked_before : (k : ℕ) (f : List ℕ) (c : ℕ) (which : ℕ → Bool)
    → ((r : ℕ) → r < sequences k / 2 → which r ≡ true → mode_said (sequences k) f (sound_channel c) (sound_first (sequences k) c + r) ≡ 0xF) → Marks k f c which f
marked_before = already_marked

pub any_audio : (k : ℕ) (f : List ℕ) (j b v : ℕ) → section_at (j % 150) ≡ 3 → 3 ≤ b → b < 80 → SameButAudio k f (set f (j * 80 + b) v)
any_audio = audio_free

pub any_aaux : (k : ℕ) (f : List ℕ) (j b v : ℕ) → section_at (j % 150) ≡ 3 → 3 ≤ b → b < 8 → SameButAaux k f (set f (j * 80 + b) v)
any_aaux = aaux_free

-- ---- a new commentary channel: the frame after, what is salvaged of it, and the changed contents

pub one_exchange : {k : ℕ} {f : List ℕ} {c : ℕ} {samples : List ℤ} {g g' : List ℕ} → Exchanged k f c samples g → Exchanged k f c samples g' → g ≡ g'
one_exchange = exchanged_one

pub one_salvaged_again : {k c : ℕ} {samples before after after' : List ℤ} → SalvagedAgain k c samples before after
    → SalvagedAgain k c samples before after' → after ≡ after'
one_salvaged_again = salvaged_again_one

pub one_changed : (l : Contents) (c : ℕ) (samples : List ℤ) → 0 < c → c < 9 → length samples ≡ l.count → length l.sound ≡ 8 * l.count
    → ExactlyOne Contents (Changed l c samples)
one_changed = changed_exactly

-- ---- the spare bits: three bytes and the values of their answer are told from each other; what may differ where nothing else does

pub id_back : {id : List ℕ} {o : IdAnswer} {v : IdValues} → IdOut id o v → WithSection id → Answerable v × (told v ≡ id)
id_back out w = (named_values out w, named_told out w.size w.section)

pub id_back_only : {id : List ℕ} {o : IdAnswer} {v : IdValues} → IdOut id o v → told v ≡ id → (length id ≡ 3) × (get_or id 0 0 / 32 < 5)
id_back_only = told_named

pub values_back : {v : IdValues} → Answerable v → WithSection (told v) × ((o : IdAnswer) (v' : IdValues) → IdOut (told v) o v' → v' ≡ v)
values_back w = (told_section w, λ o v' out. told_values w out)

-- the bytes may be any with a section; and the spare bits of a block anything, of one block after the other
pub any_section : (a b c : ℕ) → a < 160 → b < 256 → c < 256 → WithSection (a ∷ b ∷ c ∷ [])
any_section = section_free

pub any_spare : (m : ℕ) (f : List ℕ) (j s r : ℕ) → s < 32 → r < 4 → j * 80 + 1 < length f
    → SameButSpare m f (set (set f (j * 80) (get_or f (j * 80) 0 / 32 * 32 + s)) (j * 80 + 1) (get_or f (j * 80 + 1) 0 / 4 * 4 + r))
any_spare = spare_free

pub any_spares : {m : ℕ} {f g x : List ℕ} → SameButSpare m f g → SameButSpare m g x → SameButSpare m f x
any_spares = spare_on

-- ---- 3: the fault list, and what is salvaged

pub one_list : {n first m : ℕ} {bytes list list₁ list₂ : List ℕ} {r r' : Survey} → Listed n bytes first m list r list₁ → Listed n bytes first m list r' list₂
    → r.number ≡ r'.number → (r ≡ r') × (list₁ ≡ list₂)
one_list = listed_one

pub one_salvage : {k : ℕ} {l : Contents} {f g list list₁ list₂ : List ℕ} {r r' : Survey} {samples samples' : List ℤ} → Salvages k l f g list r samples list₁
    → Salvages k l f g list r' samples' list₂ → (r ≡ r') × (samples ≡ samples') × (list₁ ≡ list₂)
one_salvage = salvages_one

-- a survey that counts none has seen every block name its place
pub not_coasting : {n first m : ℕ} {bytes list list' : List ℕ} {r : Survey} → Listed n bytes first m list r list' → r.total ≡ 0 → (j : ℕ) → j < m
    → stream_fault n bytes j (first + j) ≡ 0
not_coasting = coasting

pub one_salvage_out : {k : ℕ} {g : List ℕ} {samples samples' : List ℤ} → SalvageOut k g samples → SalvageOut k g samples' → samples ≡ samples'
one_salvage_out = salvage_out_one

-- an untouched block alone decides
pub one_untouched : {n : ℕ} {l : Contents} {f g : List ℕ} {c t : ℕ} {x : ℤ} → SampleSalvaged n l f g c t x
    → take 80 (drop (sound_index n c t * 80) g) ≡ take 80 (drop (sound_index n c t * 80) f)
    → x ≡ pick (ltb t l.count) (back (get_or l.sound ((c - 1) * l.count + t) (pos 0))) (pos 0)
one_untouched = untouched_one
