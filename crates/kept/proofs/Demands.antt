-- The promises are kept, of any answer that the contracts of the public calls allow. Each theorem cites its workshop; what it says is in crate `promises`
-- (`Demand1`, `Demand2`, `Demand3`, `Unrecorded`, `Commentary`, `SpareBits`; `Refusals`, `Form`), in the words of crate `paper`. Assumes nothing.
use Rattle.std.specs.Prelude.{Some}
use mathlib.Core.Path.{◌≡◌, refl, sym, ◌∙◌}
use mathlib.Core.Bool.{Bool, true, false}
use mathlib.Core.List.{List, [], ◌∷◌, ◌++◌}
use mathlib.Core.Logic.{◌≢◌}
use Prim.Native.Nat.{ℕ, ◌+◌, ◌*◌, ◌/◌, ◌<◌}
use lib.Dec.{T}
use lib.IntN.{ℤ, pos}
use lib.ListN.{length, get_or, set}
use Rattle.base.specs.Pick.{pick}
use Rattle.base.specs.Run.{run}
use Rattle.base.specs.Calls.{Refusal, first_of, ◌when◌, ExactlyOne}
use Rattle.base.proofs.Picks.{pick_true, pick_false, first_here, first_next}
use Rattle.base.proofs.Runs.{run_zero, run_more}
use Rattle.paper.specs.declared.Place.{Place}
use Rattle.paper.specs.declared.IdAnswer.{IdAnswer}
use Rattle.paper.specs.declared.IdValues.{IdValues}
use Rattle.paper.specs.declared.Part.{Part}
use Rattle.paper.specs.declared.Survey.{Survey}
use Rattle.paper.specs.declared.AudioAnswer.{AudioAnswer}
use Rattle.paper.specs.declared.TimeAnswer.{TimeAnswer}
use Rattle.rules_surveys.specs.ReadId.{IdRead, IdSaid}
use Rattle.rules_surveys.specs.Survey.{FrameSurveyed, SequenceSurveyed}
use Rattle.rules_surveys.specs.View.{ViewNumbered, Viewed, ViewLies}
use Rattle.rules_reads.specs.Check.{Checked}
use Rattle.rules_reads.specs.Audio.{AudioRead}
use Rattle.rules_reads.specs.Macroblock.{MacroblockNumbered, MacroblockRead, MacroblockLies}
use Rattle.rules_reads.specs.Time.{TimeRead}
use Rattle.rules_surveys.specs.Salvage.{Salvaged}
use Rattle.promises.specs.Contents.{Contents}
use Rattle.rules_replaces.specs.Replace.{Replaced}
use Rattle.rules_writes.specs.Write.{Wrote}
use Rattle.rules_picture.specs.Rows.{rows_agree, printed_rows}
use Rattle.rules_format.specs.Known.{all, table}
use Rattle.paper.specs.Paper.{sequences, positions, macroblocks, bytes_at, section_at, number_at, stream_fault, sound_channel, sound_first, sound_word, mode_said, back}
use Rattle.paper.specs.Bytes.{OwnCount}
use Rattle.rules_format.specs.InNumbers.{InNumbers}
use Rattle.kept.specs.EveryCall.{EveryCall}
use Rattle.promises.specs.Demand2.{IdOut, ViewOut, MacroblockOut, Strict, ReadOut, GoesThrough, LaidOut, ReadsBack, WritesBack, tone}
use Rattle.rules_reads.specs.Strict.{StrictlyRead}
use Rattle.promises.specs.Demand3.{SampleSalvaged, Listed, Salvages}
use Rattle.promises.specs.Unrecorded.{Marks, every, ComesBackLost, SameButAudio, SameButAaux}
use Rattle.promises.specs.Form.{HasForm}
use Rattle.promises.specs.Refusals.{SomeOutside, mode_stored, list_table}
use Rattle.promises.specs.Commentary.{Exchanged, HeardAgain, SalvagedAgain, SoundBytes, FrameHolds, Changed}
use Rattle.promises.specs.SpareBits.{WithSection, Answerable, told, SameButSpare}
use Rattle.promises.proofs.Unrecorded.{marks_aaux}
use Rattle.kept.proofs.Deciding.{ids_decided, views_decided, macroblocks_decided, reads_decided}
use Rattle.kept.proofs.WritingBack.{writes_back, strict_decided, frame_decided}
use Rattle.rules_surveys.proofs.Listing.{same_listed}
use Rattle.kept.proofs.Salvaging.{salvages, salvage_decided}
use Rattle.kept.proofs.Worthless.{tone_taken, one_for_two, frame_for_two, all_lost}
use Rattle.kept.proofs.Alike.{same_audio, same_salvage, same_check, same_survey, same_view, same_view_at, same_macroblock, same_macroblock_at, same_time}
use Rattle.kept.proofs.Unrecorded.{comes_back_lost, others_same, handed_out, some_marked}
use Rattle.kept.proofs.Held.{held_one}
use Rattle.promises.proofs.Apart.{apart_alike, aaux_words}
use Rattle.promises.proofs.SpareBits.{spare_alike, spare_as, spare_words}
use Rattle.kept.proofs.Commentary.{heard_again, alike_after, others_again, salvaged_again, made_again, form_made, form_ours}
use Rattle.kept.proofs.Commentary.{taken_when, refused_when, refused_then, ours_taken, ours_form, silenced, left_alone}
use Rattle.kept.proofs.SpareBits.{said_told, read_told, said_only, values_said, one_answer, known_answer, ones_written, same_viewed, same_sequence, same_replaced}
use Rattle.rules_format.specs.Ids.{id_values}
use Rattle.rules_format.proofs.Headlines as format
use Rattle.rules_picture.proofs.Headlines as picture
use Rattle.rules_packs.proofs.Headlines as packs
use Rattle.promises.proofs.Headlines as promised
use Rattle.rules_surveys.proofs.Headlines as surveys
use Rattle.rules_reads.proofs.Headlines as reads
use Rattle.rules_replaces.proofs.Headlines as replaces
use Rattle.rules_writes.proofs.Headlines as writes
use Rattle.rules_picture.specs.Slots.{SlotsInNumbers}
use Rattle.rules_packs.specs.InBytes.{InBytes}
use Rattle.rules_format.specs.Systems.{system_of}
use Rattle.paper.specs.declared.System.{System}

-- ---- the rules, each in its own crate: the known places of document 01, the printed rows of tables 22 to 24, and the definitions in document 01's numbers
-- and bytes

pub known_places : T (all table)
known_places = format.known_places

pub printed_rows_lem : T (rows_agree printed_rows)
printed_rows_lem = picture.printed_rows_lem

pub format_in_numbers : InNumbers
format_in_numbers = format.format_in_numbers

pub slots_in_numbers : SlotsInNumbers
slots_in_numbers = picture.slots_in_numbers

pub packs_in_bytes : (k : ℕ) (y : System) → system_of k ≡ Some y → InBytes k y
packs_in_bytes = packs.packs_in_bytes

-- the words of `base` in the statements: one of two by a test, the first row that holds, part after part, one outcome
pub picks : {A : Type 0} (a b : A) → (pick true a b ≡ a) × (pick false a b ≡ b)
picks a b = (pick_true a b refl, pick_false a b refl)

pub firsts : (k : ℕ) (rows : List Refusal) → (first_of [] ≡ 0) × (first_of (k when true ∷ rows) ≡ k) × (first_of (k when false ∷ rows) ≡ first_of rows)
unfolding first_of
firsts k rows = (refl, first_here true k rows refl, first_next false k rows refl)

pub runs : {A : Type 0} (f : ℕ → List A) (m : ℕ) → (run f 0 ≡ []) × (run f (m + 1) ≡ run f m ++ f m)
runs f m = (run_zero f, run_more f m)

pub exactly_one : {A : Type 0} {P : A → Type 0} (one : ExactlyOne A P) → P one.outcome × ((o o' : A) → P o → P o' → o ≡ o')
exactly_one one = (one.meets, λ o o' m m'. one.only o m ∙ sym (one.only o' m'))

-- ---- 1: every public call, on every input

pub demand_1 : EveryCall
demand_1 = record {
  read_id = surveys.read_id_answers;
  id_values = surveys.id_values_answers;
  survey = surveys.survey_answers;
  survey_sequence = surveys.sequence_answers;
  view = surveys.view_answers;
  view_at = surveys.view_at_answers;
  check_frame = reads.check_answers;
  read_audio = reads.audio_answers;
  macroblock = reads.macroblock_answers;
  macroblock_at = reads.macroblock_at_answers;
  read_time = reads.time_answers;
  salvage = surveys.salvage_answers;
  replace_audio = replaces.replace_answers;
  write_frame = writes.write_answers;
}

-- ---- 2: whatever is read; and whatever is read out so is what our reads answer

pub demand_2_ids : {id : List ℕ} {o : IdAnswer} {v : IdValues} → IdRead id o → IdSaid id v → IdOut id o v
demand_2_ids = surveys.ids_out

pub demand_2_ids_decide : {id : List ℕ} {o o' : IdAnswer} {v v' : IdValues} → IdRead id o → IdSaid id v → IdOut id o' v' → (o' ≡ o) × (v' ≡ v)
demand_2_ids_decide = ids_decided

pub demand_2_views : {k : ℕ} {f : List ℕ} {h q : ℕ} {p : Place} {number : ℕ} {part : List ℕ} {r : Part} → ViewNumbered k f h q p number
    → Viewed k f h q p part → ViewLies k f h q p r → ViewOut k f h q p number part r
demand_2_views = surveys.views_out

pub demand_2_views_decide : {k : ℕ} {f : List ℕ} {h q : ℕ} {p : Place} {part part' : List ℕ} {r r' : Part} → ViewNumbered k f h q p 0
    → Viewed k f h q p part → ViewLies k f h q p r → r'.number ≡ 0 → ViewOut k f h q p 0 part' r' → (part' ≡ part) × (r' ≡ r)
demand_2_views_decide = views_decided

pub demand_2_macroblocks : {k : ℕ} {f : List ℕ} {b : ℕ} {r : Part} → MacroblockLies k f b r → MacroblockOut k f b r
demand_2_macroblocks = reads.macroblocks_out

pub demand_2_macroblocks_decide : {k : ℕ} {f : List ℕ} {b : ℕ} {r r' : Part} → MacroblockLies k f b r → r.number ≡ 0 → r'.number ≡ 0
    → MacroblockOut k f b r' → r' ≡ r
demand_2_macroblocks_decide = macroblocks_decided

pub demand_2_reads : {k : ℕ} {f : List ℕ} {c : ℕ} {samples : List ℤ} {b : ℕ} {o : Strict} → StrictlyRead k f c samples b o → ReadOut k f c samples b o
demand_2_reads = reads.reads_out

pub demand_2_reads_decide : {k : ℕ} {f : List ℕ} {c : ℕ} {samples : List ℤ} {b : ℕ} {o o' : Strict} → StrictlyRead k f c samples b o → GoesThrough o
    → GoesThrough o' → ReadOut k f c samples b o' → o' ≡ o
demand_2_reads_decide = reads_decided

-- f is a frame that our writer made of l
module _ {k : ℕ} {l : Contents} {frame f : List ℕ} (wrote : Wrote k l frame 0 f) where
  pub demand_2 : WritesBack StrictlyRead k l f
  demand_2 = writes_back wrote

  -- whatever is laid out so is our frame, and whatever reads back is what our reads answer
  pub demand_2_frame : {g : List ℕ} → LaidOut k l g → g ≡ f
  demand_2_frame = frame_decided wrote

  pub demand_2_decides : {c : ℕ} {samples : List ℤ} {b : ℕ} {o o' : Strict} → 0 < c → c < 9 → length samples ≡ positions k → b < macroblocks k
      → StrictlyRead k f c samples b o → ReadsBack l c samples b o' → o' ≡ o
  demand_2_decides = strict_decided wrote

  -- ---- 3: g is any frame of its length, salvaged under the same system

  pub demand_3 : {g list list' : List ℕ} {samples samples' : List ℤ} {r : Survey} → length g ≡ length f → length samples ≡ 8 * positions k
      → Salvaged k g samples list r samples' list' → Salvages k l f g list r samples' list'
  demand_3 = salvages wrote

  -- whatever salvages so is what ours gives
  pub demand_3_decides : {g list list' list'' : List ℕ} {samples samples' samples'' : List ℤ} {r r'' : Survey} → length g ≡ length f
      → length samples ≡ 8 * positions k → Salvaged k g samples list r samples' list' → Salvages k l f g list r'' samples'' list''
      → (r'' ≡ r) × (samples'' ≡ samples') × (list'' ≡ list')
  demand_3_decides = salvage_decided wrote

-- the surveys of a frame and of one sequence keep the same list
pub demand_3_surveys : (k : ℕ) {frame list list' : List ℕ} {r : Survey} → FrameSurveyed k frame list r list' → r.number ≡ 0
    → Listed (sequences k) frame 0 (600 * sequences k) list r list'
demand_3_surveys = surveys.surveys_listed

pub demand_3_sequences : (k h q : ℕ) {sequence list list' : List ℕ} {r : Survey} → SequenceSurveyed k h q sequence list r list' → r.number ≡ 0
    → Listed (sequences k) sequence ((sequences k * h + q) * 150) 150 list r list'
demand_3_sequences = surveys.sequences_listed

-- "Salvage and survey give the same list, total and kept for the same frame."
pub demand_3_same : (k : ℕ) {frame : List ℕ} {samples samples' : List ℤ} {list list₁ list₂ : List ℕ} {r r' : Survey}
    → Salvaged k frame samples list r samples' list₁ → FrameSurveyed k frame list r' list₂ → r.number ≡ 0 → r'.number ≡ 0 → (r ≡ r') × (list₁ ≡ list₂)
demand_3_same = same_listed

-- a survey that counts none has seen every block name its place
pub not_coasting : {n first m : ℕ} {bytes list list' : List ℕ} {r : Survey} → Listed n bytes first m list r list' → r.total ≡ 0 → (j : ℕ) → j < m
    → stream_fault n bytes j (first + j) ≡ 0
not_coasting = promised.not_coasting

-- ---- unrecorded channels: g is f with AS packs of audio channel c marked

-- all of them: where the channel is read of f, it comes back of g with the same count and every sample lost
pub unrecorded : {k : ℕ} {f : List ℕ} {c : ℕ} {g : List ℕ} → Marks k f c every g → {samples heard heard' : List ℤ} {a o : AudioAnswer}
    → AudioRead k f c samples a heard → a.number ≡ 0 → AudioRead k g c samples o heard' → ComesBackLost a samples o heard'
unrecorded marks = comes_back_lost marks

module _ {k : ℕ} {f : List ℕ} {c : ℕ} {which : ℕ → Bool} {g : List ℕ} (marks : Marks k f c which g) where
  -- one of them and not another: 25
  pub unrecorded_some : (i j : ℕ) → i < sequences k / 2 → j < sequences k / 2 → which i ≡ true → which j ≡ false
      → mode_said (sequences k) f (sound_channel c) (sound_first (sequences k) c + j) ≢ 0xF → {samples heard heard' : List ℤ} {a o : AudioAnswer}
      → AudioRead k f c samples a heard → a.number ≡ 0 → AudioRead k g c samples o heard' → o.number ≡ 25
  unrecorded_some = some_marked marks

  -- every other channel reads as before
  pub unrecorded_others : (c' : ℕ) → 0 < c → 0 < c' → c' < 9 → c' ≢ c → {samples heard heard' : List ℤ} {o o' : AudioAnswer} → AudioRead k f c' samples o heard
      → AudioRead k g c' samples o' heard' → (o ≡ o') × (heard ≡ heard')
  unrecorded_others = others_same marks

  -- a mark is a matter of AAUX alone
  pub unrecorded_aaux : SameButAaux k f g
  unrecorded_aaux = marks_aaux marks

-- "salvage is unaffected", whatever stands in AAUX
pub unrecorded_salvage : {k : ℕ} {f g : List ℕ} → SameButAaux k f g → {samples samples₁ samples₂ : List ℤ} {list list₁ list₂ : List ℕ} {r r' : Survey}
    → Salvaged k f samples list r samples₁ list₁ → Salvaged k g samples list r' samples₂ list₂ → (r ≡ r') × (samples₁ ≡ samples₂) × (list₁ ≡ list₂)
unrecorded_salvage same = same_salvage (apart_alike same.blocks) (aaux_words same)

-- and frame check, survey, macroblock and time code reads, and the number and place of a block view, do not look behind the ID of an audio block
module _ {k : ℕ} {f g : List ℕ} (same : SameButAudio k f g) where
  pub audio_apart_check : {r r' : ℕ} → Checked k f r → Checked k g r' → r ≡ r'
  audio_apart_check = same_check (apart_alike same)

  pub audio_apart_survey : {list list₁ list₂ : List ℕ} {r r' : Survey} → FrameSurveyed k f list r list₁ → FrameSurveyed k g list r' list₂
      → (r ≡ r') × (list₁ ≡ list₂)
  audio_apart_survey = same_survey (apart_alike same)

  pub audio_apart_view : {h q : ℕ} {p : Place} {r r' : ℕ} → ViewNumbered k f h q p r → ViewNumbered k g h q p r' → r ≡ r'
  audio_apart_view = same_view (apart_alike same)

  pub audio_apart_view_at : {h q : ℕ} {p : Place} {r r' : Part} → ViewLies k f h q p r → ViewLies k g h q p r' → r ≡ r'
  audio_apart_view_at = same_view_at (apart_alike same)

  pub audio_apart_macroblock : {b number number' : ℕ} {part part' : List ℕ} → MacroblockNumbered k f b number → MacroblockRead k f b part
      → MacroblockNumbered k g b number' → MacroblockRead k g b part' → (number ≡ number') × (part ≡ part')
  audio_apart_macroblock = same_macroblock (apart_alike same)

  pub audio_apart_macroblock_at : {b : ℕ} {r r' : Part} → MacroblockLies k f b r → MacroblockLies k g b r' → r ≡ r'
  audio_apart_macroblock_at = same_macroblock_at (apart_alike same)

  pub audio_apart_time : {r r' : TimeAnswer} → TimeRead k f r → TimeRead k g r' → r ≡ r'
  audio_apart_time = same_time (apart_alike same)

-- ---- a new commentary channel: the call was handed the frame f, audio channel c and its new samples, answered 0 and left g

module _ {k : ℕ} {f : List ℕ} {c : ℕ} {samples : List ℤ} {g : List ℕ} (call : Replaced k f c samples 0 g) where
  -- every byte of it; and whatever has these bytes is our frame
  pub commentary : Exchanged k f c samples g
  commentary = replaces.exchanges call

  pub commentary_decides : {g' : List ℕ} → Exchanged k f c samples g' → g' ≡ g
  commentary_decides m = promised.one_exchange m (replaces.exchanges call)

  -- the channel reads back, everything else as before
  pub commentary_heard : {list heard : List ℤ} {o : AudioAnswer} → length list ≡ positions k → AudioRead k g c list o heard → HeardAgain samples list o heard
  commentary_heard = heard_again call

  pub commentary_others : (d : ℕ) → d ≢ c → {list heard heard' : List ℤ} {o o' : AudioAnswer} → AudioRead k f d list o heard → AudioRead k g d list o' heard'
      → (o ≡ o') × (heard ≡ heard')
  commentary_others = others_again call

  pub commentary_check : {r r' : ℕ} → Checked k f r → Checked k g r' → r ≡ r'
  commentary_check = same_check (alike_after call)

  pub commentary_view : {h q : ℕ} {p : Place} {r r' : ℕ} → ViewNumbered k f h q p r → ViewNumbered k g h q p r' → r ≡ r'
  commentary_view = same_view (alike_after call)

  pub commentary_view_at : {h q : ℕ} {p : Place} {r r' : Part} → ViewLies k f h q p r → ViewLies k g h q p r' → r ≡ r'
  commentary_view_at = same_view_at (alike_after call)

  pub commentary_macroblock : {b number number' : ℕ} {part part' : List ℕ} → MacroblockNumbered k f b number → MacroblockRead k f b part
      → MacroblockNumbered k g b number' → MacroblockRead k g b part' → (number ≡ number') × (part ≡ part')
  commentary_macroblock = same_macroblock (alike_after call)

  pub commentary_macroblock_at : {b : ℕ} {r r' : Part} → MacroblockLies k f b r → MacroblockLies k g b r' → r ≡ r'
  commentary_macroblock_at = same_macroblock_at (alike_after call)

  pub commentary_time : {r r' : TimeAnswer} → TimeRead k f r → TimeRead k g r' → r ≡ r'
  commentary_time = same_time (alike_after call)

  pub commentary_survey : {list list₁ list₂ : List ℕ} {r r' : Survey} → FrameSurveyed k f list r list₁ → FrameSurveyed k g list r' list₂
      → (r ≡ r') × (list₁ ≡ list₂)
  commentary_survey = same_survey (alike_after call)

  pub commentary_salvage : {buffer before after : List ℤ} {list list₁ list₂ : List ℕ} {r r' : Survey} → length buffer ≡ 8 * positions k
      → Salvaged k f buffer list r before list₁ → Salvaged k g buffer list r' after list₂ → (r ≡ r') × (list₁ ≡ list₂) × SalvagedAgain k c samples before after
  commentary_salvage = salvaged_again call

  -- "For a frame in our writer's form the result is what the writer would have made from the changed contents.": f holds l, and its time
  -- code is read
  pub commentary_form : HasForm k f → SoundBytes k f → {l l' : Contents} → FrameHolds k f l → Changed l c samples l'
      → {o : TimeAnswer} → TimeRead k f o → o.number ≡ 0 → {frame w : List ℕ} {r : ℕ} → length frame ≡ length f → Wrote k l' frame r w → (r ≡ 0) × (w ≡ g)
  commentary_form = form_made call

  -- and where it was made of l by our writer
  pub commentary_ours : {l l' : Contents} {frame₀ : List ℕ} → Wrote k l frame₀ 0 f → Changed l c samples l' → {frame w : List ℕ} {r : ℕ}
      → length frame ≡ length frame₀ → Wrote k l' frame r w → (r ≡ 0) × (w ≡ g)
  commentary_ours = made_again call

  -- lost as silence
  pub not_silenced : (t : ℕ) → t < length samples → get_or samples t (pos 0) ≡ pos 32768 → sound_word (sequences k) g c t ≡ 0 → ⊥
  not_silenced = silenced call

-- "Refusals: those of the audio read, but no 4 for the sample list"
pub commentary_refused : {k : ℕ} {f : List ℕ} {c : ℕ} {list heard : List ℤ} {o : AudioAnswer} → AudioRead k f c list o heard → o.number ≢ 0 → o.number ≢ 4
    → {samples : List ℤ} {r : ℕ} {g : List ℕ} → Replaced k f c samples r g → r ≡ o.number
commentary_refused = refused_when

-- "then new 29 ..; then 31; then new 33"
pub commentary_then : {k : ℕ} {f : List ℕ} {c : ℕ} {list heard : List ℤ} {o : AudioAnswer} → AudioRead k f c list o heard → o.number ≡ 0
    → {samples : List ℤ} {r : ℕ} {g : List ℕ} → Replaced k f c samples r g → list_table o.count samples (mode_stored k f c) r
commentary_then = refused_then

-- a frame of which the channel is read, and not marked, is taken, with as many samples as it has
pub commentary_taken : {k : ℕ} {f : List ℕ} {c : ℕ} {list heard : List ℤ} {o : AudioAnswer} → AudioRead k f c list o heard → o.number ≡ 0
    → mode_stored k f c ≢ 0xF → {samples : List ℤ} {r : ℕ} {g : List ℕ} → length samples ≡ o.count → (SomeOutside samples → ⊥)
    → Replaced k f c samples r g → r ≡ 0
commentary_taken = taken_when

-- and so is any that our writer made
pub commentary_ours_taken : {k : ℕ} {l : Contents} {frame f : List ℕ} → Wrote k l frame 0 f → {c : ℕ} → 0 < c → c < 9 → {samples : List ℤ} {r : ℕ} {g : List ℕ}
    → length samples ≡ l.count → (SomeOutside samples → ⊥) → Replaced k f c samples r g → r ≡ 0
commentary_ours_taken = ours_taken

-- which has the form, its samples in bytes, and a time code that is read
pub commentary_ours_form : {k : ℕ} {l : Contents} {frame f : List ℕ} → Wrote k l frame 0 f
    → HasForm k f × SoundBytes k f × ((o : TimeAnswer) → TimeRead k f o → o.number ≡ 0)
commentary_ours_form = ours_form

-- any frame in the form is what the writer makes of what it holds
pub form_written : {k : ℕ} {f : List ℕ} → HasForm k f → SoundBytes k f → {l : Contents} → FrameHolds k f l → {o : TimeAnswer} → TimeRead k f o → o.number ≡ 0
    → {frame w : List ℕ} {r : ℕ} → length frame ≡ length f → Wrote k l frame r w → (r ≡ 0) × (w ≡ f)
form_written = form_ours

-- a call that leaves the frame as it was
pub not_left_alone : {k : ℕ} {f : List ℕ} {c : ℕ} {samples samples' : List ℤ} → Replaced k f c samples 0 f → Replaced k f c samples' 0 f
    → (t : ℕ) → t < length samples → back (get_or samples t (pos 0)) ≡ back (get_or samples' t (pos 0))
not_left_alone = left_alone

-- a frame holds one contents, and with a channel exchanged there is one
pub one_contents : (k : ℕ) → k < 4 → (f : List ℕ) → length f ≡ 48000 * sequences k → ExactlyOne Contents (FrameHolds k f)
one_contents = held_one

pub one_changed : (l : Contents) (c : ℕ) (samples : List ℤ) → 0 < c → c < 9 → length samples ≡ l.count → length l.sound ≡ 8 * l.count
    → ExactlyOne Contents (Changed l c samples)
one_changed = promised.one_changed

-- ---- the spare bits

-- "The ID answer must carry the four arbitrary bits and three reserved bits as found, beside what it names.": three bytes with a section are told back, bit
-- for bit, by the values of their answer, and by the answer
pub spare_told : {id : List ℕ} {v : IdValues} → IdSaid id v → WithSection id → Answerable v × (told v ≡ id)
spare_told = said_told

pub spare_told_answer : {id : List ℕ} {o : IdAnswer} → IdRead id o → WithSection id → told (id_values o) ≡ id
spare_told_answer = read_told

-- no others are: what a refusal answers tells its number and nothing of the bytes (`demand_1`)
pub spare_told_only : {id : List ℕ} {v : IdValues} → IdSaid id v → told v ≡ id → (length id ≡ 3) × (get_or id 0 0 / 32 < 5)
spare_told_only = said_only

-- and all values that an answer can have are those of the three bytes that they tell
pub spare_values : {v : IdValues} → Answerable v → WithSection (told v) × ((v' : IdValues) → IdSaid (told v) v' → v' ≡ v)
spare_values = values_said

-- no bit is masked: two IDs with a section that have one answer are one
pub not_masked : {id id' : List ℕ} {v : IdValues} → WithSection id → WithSection id' → IdSaid id v → IdSaid id' v → id ≡ id'
not_masked = one_answer

-- which bit is which, in an ID whose spare bits differ
pub spare_known : {v : IdValues} → IdSaid (0x95 ∷ 0x1A ∷ 0x86 ∷ []) v
    → v ≡ record { number = 0; section = 4; channel = 3; dseq = 1; dbn = 134; arbitrary = 5; reserved = 6 }
spare_known = known_answer

-- what our writer made answers ones
pub spare_written : {k : ℕ} {l : Contents} {frame f : List ℕ} → Wrote k l frame 0 f → (h q p : ℕ) → h < 4 → q < sequences k → p < 150
    → {v : IdValues} → IdSaid (bytes_at (sequences k) f h q p 0 3) v
    → v ≡ record { number = 0; section = section_at p; channel = h; dseq = q; dbn = number_at p; arbitrary = 15; reserved = 7 }
spare_written = ones_written

-- "Frame check, block view, survey and salvage all stand on that answer and keep their own results.", and so do the other calls: f and g differ in spare
-- bits alone, in any block
module _ (k : ℕ) {f g : List ℕ} (same : SameButSpare (600 * sequences k) f g) where
  pub spare_check : {r r' : ℕ} → Checked k f r → Checked k g r' → r ≡ r'
  spare_check = same_check (spare_alike same)

  -- the part is the block, with its own spare bits
  pub spare_view : {h q : ℕ} {p : Place} {r r' : ℕ} {part part' : List ℕ} → ViewNumbered k f h q p r → Viewed k f h q p part → ViewNumbered k g h q p r'
      → Viewed k g h q p part' → (r ≡ r') × SameButSpare 1 part part'
  spare_view = same_viewed same

  pub spare_view_at : {h q : ℕ} {p : Place} {r r' : Part} → ViewLies k f h q p r → ViewLies k g h q p r' → r ≡ r'
  spare_view_at = same_view_at (spare_alike same)

  pub spare_survey : {list list₁ list₂ : List ℕ} {r r' : Survey} → FrameSurveyed k f list r list₁ → FrameSurveyed k g list r' list₂ → (r ≡ r') × (list₁ ≡ list₂)
  spare_survey = same_survey (spare_alike same)

  pub spare_salvage : {samples samples₁ samples₂ : List ℤ} {list list₁ list₂ : List ℕ} {r r' : Survey} → Salvaged k f samples list r samples₁ list₁
      → Salvaged k g samples list r' samples₂ list₂ → (r ≡ r') × (samples₁ ≡ samples₂) × (list₁ ≡ list₂)
  spare_salvage = same_salvage (spare_alike same) (spare_words same)

  pub spare_audio : {c : ℕ} {samples heard heard' : List ℤ} {o o' : AudioAnswer} → AudioRead k f c samples o heard → AudioRead k g c samples o' heard'
      → (o ≡ o') × (heard ≡ heard')
  spare_audio {c} = same_audio (spare_alike same) (spare_as same c) (spare_words same c)

  pub spare_macroblock : {b number number' : ℕ} {part part' : List ℕ} → MacroblockNumbered k f b number → MacroblockRead k f b part
      → MacroblockNumbered k g b number' → MacroblockRead k g b part' → (number ≡ number') × (part ≡ part')
  spare_macroblock = same_macroblock (spare_alike same)

  pub spare_macroblock_at : {b : ℕ} {r r' : Part} → MacroblockLies k f b r → MacroblockLies k g b r' → r ≡ r'
  spare_macroblock_at = same_macroblock_at (spare_alike same)

  pub spare_time : {r r' : TimeAnswer} → TimeRead k f r → TimeRead k g r' → r ≡ r'
  spare_time = same_time (spare_alike same)

  -- and so do the frames after
  pub spare_replace : {c : ℕ} {samples : List ℤ} {r r' : ℕ} {f' g' : List ℕ} → Replaced k f c samples r f' → Replaced k g c samples r' g'
      → (r ≡ r') × SameButSpare (600 * sequences k) f' g'
  spare_replace = same_replaced same

pub spare_sequence : (k h q : ℕ) {f g list list₁ list₂ : List ℕ} {r r' : Survey} → SameButSpare 150 f g → SequenceSurveyed k h q f list r list₁
    → SequenceSurveyed k h q g list r' list₂ → (r ≡ r') × (list₁ ≡ list₂)
spare_sequence = same_sequence

-- the three bytes may be any with a section; and the spare bits of a block anything, of one block after the other
pub any_section : (a b c : ℕ) → a < 160 → b < 256 → c < 256 → WithSection (a ∷ b ∷ c ∷ [])
any_section = promised.any_section

pub any_spare : (m : ℕ) (f : List ℕ) (j s r : ℕ) → s < 32 → r < 4 → j * 80 + 1 < length f
    → SameButSpare m f (set (set f (j * 80) (get_or f (j * 80) 0 / 32 * 32 + s)) (j * 80 + 1) (get_or f (j * 80 + 1) 0 / 4 * 4 + r))
any_spare = promised.any_spare

pub any_spares : {m : ℕ} {f g x : List ℕ} → SameButSpare m f g → SameButSpare m g x → SameButSpare m f x
any_spares = promised.any_spares

-- ---- the premises can be met, for each system and count; and what the demands refute

module _ (k : ℕ) (below : k < 4) (count : ℕ) (own : OwnCount k count) where
  pub not_all_refused : {frame f : List ℕ} {r : ℕ} → length frame ≡ 48000 * sequences k → Wrote k (tone k count 5) frame r f → r ≡ 0
  not_all_refused = tone_taken k below count own

  pub not_one_answer : (c : ℕ) {samples : List ℤ} {b : ℕ} {o : Strict} → 0 < c → c < 9 → ReadsBack (tone k count 5) c samples b o
      → ReadsBack (tone k count 6) c samples b o → ⊥
  not_one_answer = one_for_two k below count own

  pub not_one_frame : {frame frame' f : List ℕ} → Wrote k (tone k count 5) frame 0 f → Wrote k (tone k count 6) frame' 0 f → ⊥
  not_one_frame = frame_for_two k below count own

  pub not_empty_writer : {frame : List ℕ} → Wrote k (tone k count 5) frame 0 frame → Wrote k (tone k count 6) frame 0 frame → ⊥
  not_empty_writer = frame_for_two k below count own

  -- a marked channel whose words are handed out, or silence: below the count no entry is a level
  pub not_handed_out : (c t level : ℕ) → 0 < c → c < 9 → t < count → level < 32768 → {frame f g : List ℕ} {samples heard : List ℤ} {o : AudioAnswer}
      → Wrote k (tone k count 5) frame 0 f → Marks k f c every g → length samples ≡ positions k → AudioRead k g c samples o heard
      → get_or heard t (pos 0) ≡ pos level → ⊥
  not_handed_out = handed_out k below count own

  pub not_all_lost : (c t : ℕ) → 0 < c → c < 9 → t < count → {f : List ℕ} → SampleSalvaged (sequences k) (tone k count 5) f f c t (pos 32768) → ⊥
  not_all_lost c t c1 c8 ht = all_lost k count c t c1 c8 ht
