-- The workshop of "A new commentary channel in a finished frame": what is read and written around a frame whose channel was replaced. Assumes nothing.
use Rattle.std.specs.Prelude.{Some}
use mathlib.Core.Path.{◌≡◌, refl, sym, ap, ◌∙◌, subst}
use mathlib.Core.List.{List}
use mathlib.Core.Bool.{true}
use mathlib.Core.Logic.{inl, ⊎_elim, ◌≢◌}
use Prim.Native.Nat.{ℕ, ◌+◌, ◌*◌, ◌≤◌, ◌<◌}
use native.Mathlib.Omega.{arith}
use lib.IntN.{ℤ, pos}
use lib.ListN.{length, get_or, replicate, length-replicate}
use borrow.Author.Tests.{eq-eqb, ne_eqb, eqb-false}
use Rattle.base.proofs.Cases.{by_bool, by_eq}
use Rattle.paper.specs.declared.System.{System}
use Rattle.paper.specs.declared.AudioAnswer.{AudioAnswer}
use Rattle.paper.specs.declared.TimeAnswer.{TimeAnswer}
use Rattle.paper.specs.declared.Survey.{Survey}
use Rattle.paper.specs.Paper.{sequences, positions, macroblocks, sound_index, sound_word, sound_first, sample_by, word_by, back}
use Rattle.promises.specs.Contents.{Contents}
use Rattle.promises.specs.Form.{HasForm}
use Rattle.promises.specs.Demand2.{LaidOut}
use Rattle.promises.specs.Demand3.{fault_for}
use Rattle.promises.specs.Refusals.{FirstFault, SomeOutside, count_stored, mode_stored, salvage_table, time_table, write_table, audio_table, list_table, replace_table}
use Rattle.promises.specs.Unrecorded.{SameButAudio}
use Rattle.promises.specs.Commentary.{HeardAgain, SalvagedAgain, SoundBytes, FrameHolds, Changed}
use Rattle.promises.proofs.Tables.{row_past, row_on, none_outside, some_outside}
use Rattle.promises.proofs.Apart.{Alike, apart_alike, refused_gives, then_gives, SameAs, SameWords, audio_gives, count_same, mode_same, some_sequence, fault_same, listed_same, all_named}
use Rattle.promises.proofs.One.{listed_one}
use Rattle.promises.proofs.Commentary.{exchanged_apart, exchanged_as, word_new, word_else}
use Rattle.promises.proofs.LaidAgain.{form_mode, form_count, laid_again}
use Rattle.promises.proofs.Holding.{laid_bytes, taken_inside, held_laid, held_taken, changed_taken}
use Rattle.rules_format.specs.Systems.{system_of}
use Rattle.rules_format.specs.Samples.{in_range, all_in_range}
use Rattle.rules_format.proofs.Paper.{columns, known_below, known_system, by_system}
use Rattle.rules_format.proofs.Systems.{macroblocks_some}
use Rattle.rules_format.proofs.Samples.{word_is, heard_is, back_is, number_again, all_in}
use Rattle.rules_format.proofs.Numbers.{sound_within}
use Rattle.rules_surveys.specs.Salvage.{Salvaged}
use Rattle.rules_surveys.proofs.Headlines as surveys
use Rattle.rules_reads.specs.Audio.{audio_number, AudioRead}
use Rattle.rules_reads.specs.Time.{TimeRead}
use Rattle.rules_reads.proofs.Headlines as reads
use Rattle.rules_reads.proofs.Audio.{audio_1, audio_zero, audio_rows_lem, audio_taken, read_audio_one}
use Rattle.rules_reads.proofs.Macroblock.{macroblock_number_one, macroblock_one}
use Rattle.rules_reads.proofs.Answering.{audio_number_lem}
use Rattle.rules_reads.proofs.GroundsAudio.{mode_first}
use Rattle.rules_replaces.specs.Replace.{Replaced, Takes}
use Rattle.rules_replaces.proofs.Replace.{takes_taken, takes_above, takes_below, takes_few}
use Rattle.rules_replaces.proofs.Replacing.{by_replaced, stored_count, replaces}
use Rattle.rules_replaces.proofs.Headlines as replacing
use Rattle.rules_writes.specs.Write.{Wrote}
use Rattle.rules_writes.proofs.Headlines as writes
use Rattle.kept.proofs.Together.{read_together, audio_beside, audio_out}
use Rattle.kept.proofs.WritingBack.{writes_back, frame_decided}
use Rattle.kept.proofs.Alike.{first_rows, given, same_audio}

-- ---- a sample in range, written and read

sample_again : (z : ℤ) → in_range z ≡ true → sample_by (word_by z) ≡ back z
sample_again z e = ap sample_by (sym (word_is z e)) ∙ sym (heard_is _) ∙ number_again z e ∙ back_is z e

-- ---- the call answered 0 and left g

module _ {k : ℕ} {f : List ℕ} {c : ℕ} {samples : List ℤ} {g : List ℕ} (call : Replaced k f c samples 0 g) (y : System) (known : system_of k ≡ Some y) (t : Takes y f c samples) where
  few : count_stored k f c ≤ positions k
  few = omega (arith, takes_few t, stored_count k y known f c samples t, (columns k y known).positions_is)

  apart : SameButAudio k f g
  apart = exchanged_apart (replaces call) y known (takes_above t) (takes_below t) few

  like : Alike k f g
  like = apart_alike apart

  as_same : (d : ℕ) → SameAs k f g d
  as_same = exchanged_as (replaces call) y known (takes_above t) (takes_below t) few

  some : 0 < sequences k
  some = (some_sequence k (known_below k y known)).0

  new_sample : (u : ℕ) → u < length samples → sample_by (word_by (get_or samples u (pos 0))) ≡ back (get_or samples u (pos 0))
  new_sample u h = sample_again _ (all_in samples u t.levels h)

  -- ---- read_audio of the channel

  zero_first : sound_first (sequences k) c + 0 ≡ sound_first (sequences k) c
  zero_first = omega arith

  count_after : count_stored k g c ≡ count_stored k f c
  count_after = rw zero_first at (count_same (as_same c) 0 (some_sequence k (known_below k y known)).1)

  mode_before : mode_stored k f c ≢ 0xF
  mode_before m = eqb-false _ _ t.recorded (mode_first k y known f c ∙ m)

  mode_after : mode_stored k g c ≢ 0xF
  mode_after m = mode_before (sym (rw zero_first at (mode_same (as_same c) 0 (some_sequence k (known_below k y known)).1)) ∙ m)

  heard_new : {list heard : List ℤ} {o : AudioAnswer} → length list ≡ positions k → AudioRead k g c list o heard → HeardAgain samples list o heard
  heard_new {list} {heard} {o} room read =
      let many = stored_count k y known f c samples t in
      let fits = room ∙ (columns k y known).positions_is in
      let before = read_audio_one k f c list in
      let z₀ : before.outcome.0.number ≡ 0 =
      audio_number_lem k f c list before.meets
      ∙ sym (audio_rows_lem k f c (length list) y known (eq-eqb _ _ t.whole) t.channel (eq-eqb _ _ fits) t.checks) ∙ t.hears in
      let z : o.number ≡ 0 =
      sym ((reads.audio_answers k g c list).no_other (o, heard) read 0 ((audio_gives like (λ above below. as_same c)).too (given before.meets z₀))) in
      let out = audio_out read in
      let count : o.count ≡ length samples = out.count z ∙ count_after ∙ sym many in
      record {
        answer = λ i. record { number = z i; count = count i };
        sample = λ u h.
            out.sample z mode_after u (omega (arith, h, count))
            ∙ ap sample_by (word_new (replaces call) y known (takes_above t) (takes_below t) few u (omega (arith, h, many))) ∙ new_sample u h;
        rest = rw count at (out.rest z);
        size = out.size;
      }

  -- ---- read_audio of the others

  words_same : (d : ℕ) → d ≢ c → 0 < d → d < 9 → SameWords k f g d
  words_same d ne d1 d8 = record { word = λ u hu. word_else (replaces call) y known (takes_above t) (takes_below t) few d u d1 d8 hu (λ e. absurd (ne e)) }

  -- ---- salvage

  -- every block of a frame that is taken names its place
  fault_none : (d u : ℕ) → 0 < d → d < 9 → fault_for (sequences k) g d u ≡ 0
  fault_none d u d1 d8 =
      let n : ℕ = sequences k in
      let j : ℕ = sound_index n d u in
      let within : j < 600 * n = let e = (columns k y known).sequences_is in rw e (omega (arith, sound_within y f d u d1 d8)) in
      let rows : replace_table k f c samples 0 = (replacing.replace_answers k f c samples).numbered (0, g) call in
      let three = row_past (λ e. omega (arith, e)) (row_past (λ e. omega (arith, e)) (row_past (λ e. omega (arith, e)) rows).1).1 in
      let clean : (r : ℕ) → FirstFault (sequences k) f r → ⊥ = ⊎_elim (λ a. absurd (a.some refl)) (λ p. p.0) three.1 in
      fault_same like j j within ∙ all_named (sequences k) f clean (600 * sequences k) (omega arith) j within

  salvaged_new : {buffer before after : List ℤ} {list list₁ list₂ : List ℕ} {r r' : Survey} → length buffer ≡ 8 * positions k
      → Salvaged k f buffer list r before list₁ → Salvaged k g buffer list r' after list₂ → (r ≡ r') × (list₁ ≡ list₂) × SalvagedAgain k c samples before after
  salvaged_new {buffer} {before} {after} {list} {list₁} {list₂} {r} {r'} room a a' =
      let x = replaces call in
      let c1 = takes_above t in
      let c8 = takes_below t in
      let many = stored_count k y known f c samples t in
      let whole : length f ≡ 48000 * sequences k = t.whole ∙ ap (λ (n : ℕ). 48000 * n) (sym (columns k y known).sequences_is) in
      let zero : (size : ℕ) → size ≡ 48000 * sequences k → salvage_table k size (length buffer) 0 =
      λ size e. row_on (λ above. omega (arith, above, known_below k y known)) (row_on (λ d. d e) (row_on (λ d. d room) refl)) in
      let z : r.number ≡ 0 = sym ((surveys.salvage_answers k f buffer list).no_other (r, before, list₁) a 0 (zero (length f) whole)) in
      let z' : r'.number ≡ 0 = sym ((surveys.salvage_answers k g buffer list).no_other (r', after, list₂) a' 0 (zero (length g) (x.size ∙ whole))) in
      let one = listed_one (listed_same like.faults (surveys.salvages_listed k a z)) (surveys.salvages_listed k a' z') (z ∙ sym z') in
      let out = surveys.salvages_out k a z in
      let out' = surveys.salvages_out k a' z' in
      let stored : (d u : ℕ) → 0 < d → d < 9 → fault_for (sequences k) f d u ≡ 0 = λ d u d1 d8. sym (same_fault d u d1 d8) ∙ fault_none d u d1 d8 in (
        one.0,
        one.1,
        record {
          sample = λ u h.
              (out'.position c u c1 c8 (omega (arith, h, many, few))).renamed (fault_none c u c1 c8)
              ∙ ap sample_by (word_new x y known c1 c8 few u (omega (arith, h, many))) ∙ new_sample u h;
          others = λ d u d1 d8 hu other.
              (out'.position d u d1 d8 hu).renamed (fault_none d u d1 d8)
              ∙ ap sample_by (word_else x y known c1 c8 few d u d1 d8 hu (λ e. omega (arith, other e, many)))
              ∙ sym ((out.position d u d1 d8 hu).renamed (stored d u d1 d8));
          size = out'.size;
        },
      )
    where
      same_fault : (d u : ℕ) → 0 < d → d < 9 → fault_for (sequences k) g d u ≡ fault_for (sequences k) f d u
      same_fault d u d1 d8 =
          let e = (columns k y known).sequences_is in
          fault_same like (sound_index (sequences k) d u) (sound_index (sequences k) d u) (rw e (omega (arith, sound_within y f d u d1 d8)))

  -- ---- the writer

  -- whatever contents f is laid out of, g is laid out of the changed ones
  laid_new : {l l' : Contents} → LaidOut k l f → Changed l c samples l' → LaidOut k l' g
  laid_new = laid_again (replaces call) y known (takes_above t) (takes_below t) few

  many_held : {l : Contents} → LaidOut k l f → length samples ≡ l.count
  many_held laid = stored_count k y known f c samples t ∙ form_count laid.form (known_below k y known) c (takes_below t) ∙ laid.count

  -- and where the writer takes those, it makes g of these
  made_new : {l l' : Contents} → LaidOut k l f → length l.sound ≡ 8 * l.count → Changed l c samples l' → {frame w : List ℕ} {r : ℕ} → write_table k l (length frame) 0
      → Wrote k l' frame r w → (r ≡ 0) × (w ≡ g)
  made_new {l} {l'} laid sounds changed {frame} {w} {r} taken wrote =
      let table = changed_taken l c samples (takes_above t) (takes_below t) (many_held laid) sounds k l' (length frame) changed (none_outside samples t.levels) taken in
      let z : r ≡ 0 = sym ((writes.write_answers k l' frame).no_other (r, w) wrote 0 table) in
      let wrote₀ : Wrote k l' frame 0 w = subst (λ (m : ℕ). Wrote k l' frame m w) z wrote in
      (z, sym (frame_decided wrote₀ (laid_new laid changed)))

module _ {k : ℕ} {f : List ℕ} {c : ℕ} {samples : List ℤ} {g : List ℕ} (call : Replaced k f c samples 0 g) where
  pub heard_again : {list heard : List ℤ} {o : AudioAnswer} → length list ≡ positions k → AudioRead k g c list o heard → HeardAgain samples list o heard
  heard_again room read = by_replaced call (λ y known t. heard_new call y known t room read)

  -- the stored count is one of the positions
  pub few_stored : count_stored k f c ≤ positions k
  few_stored = by_replaced call (few call)

  -- it differs from the frame before behind the IDs of audio blocks alone
  pub audio_alone : SameButAudio k f g
  audio_alone = by_replaced call (apart call)

  pub alike_after : Alike k f g
  alike_after = apart_alike audio_alone

  pub others_again : (d : ℕ) → d ≢ c → {list heard heard' : List ℤ} {o o' : AudioAnswer} → AudioRead k f d list o heard → AudioRead k g d list o' heard'
      → (o ≡ o') × (heard ≡ heard')
  others_again d ne read read' =
      by_replaced call (λ y known t. same_audio (like call y known t) (λ above below. as_same call y known t d) (words_same call y known t d ne) read read')

  pub salvaged_again : {buffer before after : List ℤ} {list list₁ list₂ : List ℕ} {r r' : Survey} → length buffer ≡ 8 * positions k
      → Salvaged k f buffer list r before list₁ → Salvaged k g buffer list r' after list₂ → (r ≡ r') × (list₁ ≡ list₂) × SalvagedAgain k c samples before after
  salvaged_again room a a' = by_replaced call (λ y known t. salvaged_new call y known t room a a')

  -- of a frame that the writer made of l
  pub made_again : {l l' : Contents} {frame₀ : List ℕ} → Wrote k l frame₀ 0 f → Changed l c samples l' → {frame w : List ℕ} {r : ℕ} → length frame ≡ length frame₀
      → Wrote k l' frame r w → (r ≡ 0) × (w ≡ g)
  made_again {l} {l'} {frame₀} wrote changed {frame} same wrote' =
      let taken : write_table k l (length frame₀) 0 = (writes.write_answers k l frame₀).numbered (0, f) wrote in
      let four = row_past (λ e. omega (arith, e)) (row_past (λ e. omega (arith, e)) (row_past (λ e. omega (arith, e)) (row_past (λ e. omega (arith, e)) taken).1).1).1 in
      let sounds : length l.sound ≡ 8 * l.count = by_eq (length l.sound) (8 * l.count) (λ e. e) (λ d. absurd (four.0 (inl d))) in
      by_replaced call (λ y known t. made_new call y known t (writes_back wrote).laid_out sounds changed (subst (λ (size : ℕ). write_table k l size 0) (sym same) taken) wrote')

  -- of a frame in the writer's form, that holds l
  pub form_made : HasForm k f → SoundBytes k f → {l l' : Contents} → FrameHolds k f l → Changed l c samples l' → {o : TimeAnswer} → TimeRead k f o
      → o.number ≡ 0 → {frame w : List ℕ} {r : ℕ} → length frame ≡ length f → Wrote k l' frame r w → (r ≡ 0) × (w ≡ g)
  form_made form bytes {l} {l'} holds changed {o} read z {frame} same wrote =
      let timed : time_table k f 0 = subst (time_table k f) z ((reads.time_answers k f).numbered o read) in
      by_replaced call (λ y known t.
      made_new call y known t (held_laid form bytes holds) holds.sounds changed
      (held_taken (known_below k y known) form bytes holds timed (length frame) (same ∙ form.size)) wrote)

-- a frame in the form is what the writer makes of what it holds
pub form_ours : {k : ℕ} {f : List ℕ} → HasForm k f → SoundBytes k f → {l : Contents} → FrameHolds k f l → {o : TimeAnswer} → TimeRead k f o → o.number ≡ 0
    → {frame w : List ℕ} {r : ℕ} → length frame ≡ length f → Wrote k l frame r w → (r ≡ 0) × (w ≡ f)
form_ours {k} {f} form bytes {l} holds {o} read z {frame} {w} {r} same wrote =
    let timed : time_table k f 0 = subst (time_table k f) z ((reads.time_answers k f).numbered o read) in
    let table = held_taken (first_rows timed).0 form bytes holds timed (length frame) (same ∙ form.size) in
    let zero : r ≡ 0 = sym ((writes.write_answers k l frame).no_other (r, w) wrote 0 table) in
    (zero, sym (frame_decided (subst (λ (m : ℕ). Wrote k l frame m w) zero wrote) (held_laid form bytes holds)))

-- ---- what is taken: any frame of which the channel is read, not marked, and as many samples as it has

pub taken_when : {k : ℕ} {f : List ℕ} {c : ℕ} {list heard : List ℤ} {o : AudioAnswer} → AudioRead k f c list o heard → o.number ≡ 0 → mode_stored k f c ≢ 0xF
    → {samples : List ℤ} {r : ℕ} {g : List ℕ} → length samples ≡ o.count → (SomeOutside samples → ⊥) → Replaced k f c samples r g → r ≡ 0
taken_when {k} {f} {c} {list} read z unmarked {samples} many inside call =
    let zero : audio_number k f c (length list) ≡ 0 = sym (audio_number_lem k f c list read) ∙ z in
    by_system k (λ none. absurd (omega (arith, zero, audio_1 k f c (length list) none)))
    (λ y known.
    let rows = audio_zero k f c (length list) y known zero in
    let count = ap (λ (a : AudioAnswer). a.count) (audio_taken k f c list y known zero read).0 in
    call.answer
    ∙ takes_taken k f c samples y known (record {
      whole = rows.0;
      channel = rows.1;
      checks = rows.3;
      hears = rows.4;
      counts = many ∙ count;
      levels = by_bool (all_in_range samples) (λ e. e) (λ e. absurd (inside (some_outside samples e)));
      recorded = ne_eqb _ _ (λ m. unmarked (sym (mode_first k y known f c) ∙ m));
    }))

-- and what an audio read refuses, but for the length of its list, is refused so
pub refused_when : {k : ℕ} {f : List ℕ} {c : ℕ} {list heard : List ℤ} {o : AudioAnswer} → AudioRead k f c list o heard → o.number ≢ 0 → o.number ≢ 4
    → {samples : List ℤ} {r : ℕ} {g : List ℕ} → Replaced k f c samples r g → r ≡ o.number
refused_when {k} {f} {c} {list} {heard} {o} read some four {samples} {r} {g} call =
    sym ((replacing.replace_answers k f c samples).no_other (r, g) call o.number
    ((refused_gives k f c (length list) samples o.number some four).too ((reads.audio_answers k f c list).numbered (o, heard) read)))

-- and where it is read, what the list and the mark are refused for
pub refused_then : {k : ℕ} {f : List ℕ} {c : ℕ} {list heard : List ℤ} {o : AudioAnswer} → AudioRead k f c list o heard → o.number ≡ 0
    → {samples : List ℤ} {r : ℕ} {g : List ℕ} → Replaced k f c samples r g → list_table o.count samples (mode_stored k f c) r
refused_then {k} {f} {c} {list} {heard} {o} read z {samples} {r} {g} call =
    subst (λ (count : ℕ). list_table count samples (mode_stored k f c) r) (sym ((audio_out read).count z))
    (then_gives k f c (length list) samples r (subst (audio_table k f c (length list)) z ((reads.audio_answers k f c list).numbered (o, heard) read))
    ((replacing.replace_answers k f c samples).numbered (r, g) call))

-- a frame that our writer made, with as many samples as it was given
pub ours_taken : {k : ℕ} {l : Contents} {frame f : List ℕ} → Wrote k l frame 0 f → {c : ℕ} → 0 < c → c < 9 → {samples : List ℤ} {r : ℕ} {g : List ℕ}
    → length samples ≡ l.count → (SomeOutside samples → ⊥) → Replaced k f c samples r g → r ≡ 0
ours_taken {k} {l} {frame} {f} wrote {c} c1 c8 many inside call =
    let below : k < 4 = (first_rows ((writes.write_answers k l frame).numbered (0, f) wrote)).0 in
    known_system k below (λ y known.
    let list : List ℤ = replicate (positions k) (pos 0) in
    let room : length list ≡ positions k = length-replicate (positions k) (pos 0) in
    let first : 0 < macroblocks k = omega (arith, macroblocks_some y, (columns k y known).macroblocks_is) in
    let one = read_audio_one k f c list in
    let back = (writes_back wrote).reads_back c list 0 _ c1 c8 room first (audio_beside one.meets) in
    taken_when one.meets (ap (λ (a : AudioAnswer). a.number) back.audio) (form_mode (writes_back wrote).laid_out.form below c c8)
    (many ∙ sym (ap (λ (a : AudioAnswer). a.count) back.audio)) inside call)

-- such a frame has the form, its samples are bytes, and its time code is read
pub ours_form : {k : ℕ} {l : Contents} {frame f : List ℕ} → Wrote k l frame 0 f → HasForm k f × SoundBytes k f × ((o : TimeAnswer) → TimeRead k f o → o.number ≡ 0)
ours_form {k} {l} {frame} {f} wrote =
    let taken : write_table k l (length frame) 0 = (writes.write_answers k l frame).numbered (0, f) wrote in
    let below : k < 4 = (first_rows taken).0 in
    let laid = (writes_back wrote).laid_out in (
      laid.form,
      laid_bytes laid (taken_inside l taken),
      λ o read.
          known_system k below (λ y known.
          let list : List ℤ = replicate (positions k) (pos 0) in
          let room : length list ≡ positions k = length-replicate (positions k) (pos 0) in
          let first : 0 < macroblocks k = omega (arith, macroblocks_some y, (columns k y known).macroblocks_is) in
          let all = read_together (read_audio_one k f 1 list).meets (macroblock_number_one k f 0).meets (macroblock_one k f 0).meets read in
          ap (λ (a : TimeAnswer). a.number) ((writes_back wrote).reads_back 1 list 0 _ (omega arith) (omega arith) room first all).time),
    )

-- ---- what is refuted

-- lost is not silence
pub silenced : {k : ℕ} {f : List ℕ} {c : ℕ} {samples : List ℤ} {g : List ℕ} → Replaced k f c samples 0 g → (t : ℕ) → t < length samples
    → get_or samples t (pos 0) ≡ pos 32768 → sound_word (sequences k) g c t ≡ 0 → ⊥
unfolding word_by
silenced {k} {f} {c} {samples} call t h e silent =
    by_replaced call (λ y known takes.
    let word = word_new (replaces call) y known (takes_above takes) (takes_below takes) (few call y known takes) t (omega (arith, h, stored_count k y known f c samples takes)) in
    omega (arith, silent, word ∙ ap word_by e))

-- a frame that is left as it was holds no other samples
pub left_alone : {k : ℕ} {f : List ℕ} {c : ℕ} {samples samples' : List ℤ} → Replaced k f c samples 0 f → Replaced k f c samples' 0 f → (t : ℕ) → t < length samples
    → back (get_or samples t (pos 0)) ≡ back (get_or samples' t (pos 0))
left_alone {k} {f} {c} {samples} {samples'} call call' t h =
    by_replaced call (λ y known takes.
    by_replaced call' (λ y' known' takes'.
    let list : List ℤ = replicate (positions k) (pos 0) in
    let room : length list ≡ positions k = length-replicate (positions k) (pos 0) in
    let one = read_audio_one k f c list in
    let h' : t < length samples' = omega (arith, h, stored_count k y known f c samples takes, stored_count k y' known' f c samples' takes') in
    sym ((heard_again call room one.meets).sample t h) ∙ (heard_again call' room one.meets).sample t h'))
