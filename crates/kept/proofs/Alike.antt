-- What the calls answer of two frames that are alike but for the sound, by what the promises say of each. Assumes nothing.
use Rattle.std.specs.Prelude.{Some}
use mathlib.Core.Path.{◌≡◌, sym, ap, ◌∙◌, subst}
use mathlib.Core.List.{List}
use mathlib.Core.Logic.{inl, inr, ◌≢◌}
use Prim.Native.Nat.{ℕ, ◌+◌, ◌*◌, ◌≤◌, ◌<◌}
use native.Mathlib.Omega.{arith}
use lib.IntN.{ℤ}
use lib.ListN.{length}
use Rattle.base.proofs.Cases.{by_lt, by_eq}
use Rattle.paper.specs.declared.System.{System}
use Rattle.paper.specs.declared.Survey.{Survey}
use Rattle.paper.specs.declared.Place.{Place}
use Rattle.paper.specs.declared.Part.{Part}
use Rattle.paper.specs.declared.AudioAnswer.{AudioAnswer}
use Rattle.paper.specs.declared.TimeAnswer.{TimeAnswer}
use Rattle.paper.specs.Paper.{sequences, positions, sound_channel, sound_first, sample_by, mode_said, slot_place, bytes_at}
use Rattle.promises.specs.Refusals.{Table, ◌if◌, ◌else◌, audio_table, macroblock_table, time_table}
use Rattle.promises.specs.Demand1.{Answers}
use Rattle.promises.proofs.Apart.{Gives, Alike, SameAs, SameWords, survey_gives, salvage_gives, check_gives, view_gives, macroblock_gives, time_gives, audio_gives, count_same, mode_same}
use Rattle.promises.proofs.Apart.{some_sequence, low_section, low_same, bytes_same, slot_section, listed_same, salvage_out_same}
use Rattle.promises.proofs.Tables.{row_past}
use Rattle.promises.proofs.One.{lists_one, listed_one, salvage_out_one}
use Rattle.rules_format.specs.Systems.{system_of}
use Rattle.rules_format.proofs.Paper.{columns, known_system}
use Rattle.rules_surveys.specs.Survey.{FrameSurveyed}
use Rattle.rules_surveys.specs.View.{ViewNumbered, ViewLies}
use Rattle.rules_surveys.specs.Salvage.{Salvaged}
use Rattle.rules_surveys.proofs.Calls.{view_number_one, view_one}
use Rattle.rules_surveys.proofs.Headlines as surveys
use Rattle.rules_reads.specs.Check.{Checked}
use Rattle.rules_reads.specs.Audio.{audio_number, AudioRead}
use Rattle.rules_reads.specs.Macroblock.{MacroblockNumbered, MacroblockRead, MacroblockLies}
use Rattle.rules_reads.specs.Time.{TimeRead}
use Rattle.rules_picture.proofs.Slots.{slot_of}
use Rattle.kept.proofs.Deciding.{read_below}
use Rattle.kept.proofs.Together.{audio_out, picture_out, time_out}
use Rattle.rules_reads.proofs.Headlines as reads
use Rattle.rules_reads.proofs.Audio.{audio_count, audio_zero, audio_taken}
use Rattle.rules_reads.proofs.Answering.{audio_number_lem}
use Rattle.rules_reads.proofs.Macroblock.{macroblock_lies_number}

-- ---- one call on two inputs: where the table of the one gives what that of the other gives, a refusal is the same

pub same_outcome : {Outcome : Type 0} {Meets Meets' : Outcome → Type 0} {answered : Outcome → ℕ} {table table' : Table} {Quiet : Outcome → Type 0} {o o' : Outcome}
    → Answers Outcome Meets answered table Quiet → Answers Outcome Meets' answered table' Quiet → Gives (answered o) table table' → Meets o → Meets' o'
    → (answered o ≡ 0 → answered o' ≡ 0 → o ≡ o') → o ≡ o'
same_outcome {answered = answered} {o = o} {o' = o'} a a' gives m m' zero =
    let same : answered o ≡ answered o' = a'.no_other o' m' (answered o) (gives.too (a.numbered o m)) in
    by_eq (answered o) 0 (λ z. zero z (sym same ∙ z)) (λ d. a.told o o' d same (a.refused o m d) (a'.refused o' m' (λ z. d (same ∙ z))))

-- where a table gives 0, the system is known, and the frame has its length
pub first_rows : {k size : ℕ} {Rest : Type 0} → (1 if (3 < k) else 2 if (size ≢ 48000 * sequences k) else (λ (r : ℕ). Rest)) 0
    → (k < 4) × (size ≡ 48000 * sequences k)
first_rows {k} {size} t =
    let one = row_past (λ e. omega (arith, e)) t in
    let two = row_past (λ e. omega (arith, e)) one.1 in
    (by_lt k 4 (λ l. l) (λ above. absurd (one.0 above)), by_eq size (48000 * sequences k) (λ e. e) (λ d. absurd (two.0 d)))

-- two outcomes that are the same are so in each part
pub two_parts : {A B : Type 0} {a a' : A} {b b' : B} → ◌≡◌ {A = A × B} (a, b) (a', b') → (a ≡ a') × (b ≡ b')
two_parts {A} {B} e = (ap (λ (o : A × B). o.0) e, ap (λ (o : A × B). o.1) e)

-- ---- read_audio

-- where it answers 0
module _ {k : ℕ} {f : List ℕ} {c : ℕ} {samples heard : List ℤ} {r : AudioAnswer} (read : AudioRead k f c samples r heard) (z : r.number ≡ 0) where
  pub given : audio_table k f c (length samples) 0
  given = subst (audio_table k f c (length samples)) z ((reads.audio_answers k f c samples).numbered (r, heard) read)

  -- the system is known
  pub read_system : k < 4
  read_system = (first_rows given).0

  -- the channel is one
  read_channel : (0 < c) × (c < 9)
  read_channel =
      let two = row_past (λ e. omega (arith, e)) (row_past (λ e. omega (arith, e)) given).1 in
      let three = row_past (λ e. omega (arith, e)) two.1 in
      (by_lt 0 c (λ l. l) (λ zero. absurd (three.0 (inl (omega arith)))), by_lt c 9 (λ l. l) (λ above. absurd (three.0 (inr above))))

  -- its samples are among the positions
  pub count_within : (y : System) → system_of k ≡ Some y → r.count < positions k
  count_within y known =
      let zero : audio_number k f c (length samples) ≡ 0 = sym (audio_number_lem k f c samples read) ∙ z in
      omega (
        arith,
        ap (λ (a : AudioAnswer). a.count) (audio_taken k f c samples y known zero read).0,
        audio_count k f c samples y known zero,
        (audio_zero k f c (length samples) y known zero).2,
        (columns k y known).positions_is,
      )

-- one whose AS packs and words are the same in both frames
pub same_audio : {k : ℕ} {f g : List ℕ} {c : ℕ} {samples heard heard' : List ℤ} {r r' : AudioAnswer} → Alike k f g → (0 < c → c < 9 → SameAs k f g c)
    → (0 < c → c < 9 → SameWords k f g c) → AudioRead k f c samples r heard → AudioRead k g c samples r' heard' → (r ≡ r') × (heard ≡ heard')
same_audio {k} {f} {g} {c} {samples} {heard} {heard'} {r} {r'} s a w read read' =
    let e : ◌≡◌ {A = AudioAnswer × List ℤ} (r, heard) (r', heard') =
    same_outcome (reads.audio_answers k f c samples) (reads.audio_answers k g c samples) (audio_gives s a) read read' (λ z z'.
    let out = audio_out read in
    let out' = audio_out read' in
    let below = read_system read z in
    let some = (some_sequence k below).1 in
    let channel = read_channel read z in
    let packs = a channel.0 channel.1 in
    let zero : sound_first (sequences k) c + 0 ≡ sound_first (sequences k) c = omega arith in
    let count : r.count ≡ r'.count = out.count z ∙ sym (rw zero at (count_same packs 0 some)) ∙ sym (out'.count z') in
    let mode = rw zero at (mode_same packs 0 some) in
    let samples_same : heard ≡ heard' =
    lists_one r'.count (out.size ∙ sym out'.size)
    (λ t h.
    let h' : t < r.count = omega (arith, h, count) in
    by_eq (mode_said (sequences k) f (sound_channel c) (sound_first (sequences k) c)) 0xF
    (λ mark. out.unrecorded z mark t h' ∙ sym (out'.unrecorded z' (mode ∙ mark) t h))
    (λ d.
    known_system k below (λ y known.
    out.sample z d t h'
    ∙ ap sample_by (sym ((w channel.0 channel.1).word t (omega (arith, h', count_within read z y known))))
    ∙ sym (out'.sample z' (λ x. d (sym mode ∙ x)) t h))))
    (rw count at (out.rest z) ∙ sym (out'.rest z')) in
    λ i. (record { number = (z ∙ sym z') i; count = count i }, samples_same i)) in
    two_parts e

-- ---- the calls that do not look behind the ID of an audio block, and salvage

pub same_check : {k : ℕ} {f g : List ℕ} {r r' : ℕ} → Alike k f g → Checked k f r → Checked k g r' → r ≡ r'
same_check {k} {f} {g} s a a' = same_outcome (reads.check_answers k f) (reads.check_answers k g) (check_gives s) a a' (λ z z'. z ∙ sym z')

pub same_survey : {k : ℕ} {f g list list₁ list₂ : List ℕ} {r r' : Survey} → Alike k f g → FrameSurveyed k f list r list₁ → FrameSurveyed k g list r' list₂
    → (r ≡ r') × (list₁ ≡ list₂)
same_survey {k} {f} {g} {list} {list₁} {list₂} {r} {r'} s a a' =
    let e : ◌≡◌ {A = Survey × List ℕ} (r, list₁) (r', list₂) =
    same_outcome (surveys.survey_answers k f list) (surveys.survey_answers k g list) (survey_gives s) a a' (λ z z'.
    let one = listed_one (listed_same s.faults (surveys.surveys_listed k a z)) (surveys.surveys_listed k a' z') (z ∙ sym z') in
    λ i. (one.0 i, one.1 i)) in
    two_parts e

pub same_salvage : {k : ℕ} {f g : List ℕ} {samples samples₁ samples₂ : List ℤ} {list list₁ list₂ : List ℕ} {r r' : Survey} → Alike k f g
    → ((c : ℕ) → 0 < c → c < 9 → SameWords k f g c) → Salvaged k f samples list r samples₁ list₁ → Salvaged k g samples list r' samples₂ list₂ → (r ≡ r') × (samples₁ ≡ samples₂) × (list₁ ≡ list₂)
same_salvage {k} {f} {g} {samples} {samples₁} {samples₂} {list} {list₁} {list₂} {r} {r'} s words a a' =
    let e : ◌≡◌ {A = Survey × List ℤ × List ℕ} (r, samples₁, list₁) (r', samples₂, list₂) =
    same_outcome (surveys.salvage_answers k f samples list) (surveys.salvage_answers k g samples list) (salvage_gives s) a a' (λ z z'.
    let one = listed_one (listed_same s.faults (surveys.salvages_listed k a z)) (surveys.salvages_listed k a' z') (z ∙ sym z') in
    let heard = salvage_out_one (salvage_out_same s words (surveys.salvages_out k a z)) (surveys.salvages_out k a' z') in
    λ i. (one.0 i, heard i, one.1 i)) in
    (ap (λ (o : Survey × List ℤ × List ℕ). o.0) e, ap (λ (o : Survey × List ℤ × List ℕ). o.1) e, ap (λ (o : Survey × List ℤ × List ℕ). o.2) e)

-- a view of any block: its number, and where its part lies
pub same_view : {k : ℕ} {f g : List ℕ} {h q : ℕ} {p : Place} {r r' : ℕ} → Alike k f g → ViewNumbered k f h q p r → ViewNumbered k g h q p r' → r ≡ r'
same_view {k} {f} {g} {h} {q} {p} {r} {r'} s a a' =
    let part = view_one k f h q p in
    let part' = view_one k g h q p in
    (surveys.view_answers k g h q p).no_other (r', part'.outcome) (a', part'.meets) r
    ((view_gives h q p.0 s).too ((surveys.view_answers k f h q p).numbered (r, part.outcome) (a, part.meets)))

pub same_view_at : {k : ℕ} {f g : List ℕ} {h q : ℕ} {p : Place} {r r' : Part} → Alike k f g → ViewLies k f h q p r → ViewLies k g h q p r' → r ≡ r'
same_view_at {k} {f} {g} {h} {q} {p} s a a' =
    same_outcome (surveys.view_at_answers k f h q p) (surveys.view_at_answers k g h q p) (view_gives h q p.0 s) a a' (λ z z'.
    (surveys.views_out (view_number_one k f h q p).meets (view_one k f h q p).meets a).lies z
    ∙ sym ((surveys.views_out (view_number_one k g h q p).meets (view_one k g h q p).meets a').lies z'))

pub same_macroblock : {k : ℕ} {f g : List ℕ} {b number number' : ℕ} {part part' : List ℕ} → Alike k f g → MacroblockNumbered k f b number → MacroblockRead k f b part
    → MacroblockNumbered k g b number' → MacroblockRead k g b part' → (number ≡ number') × (part ≡ part')
same_macroblock {k} {f} {g} {b} {number} {number'} {part} {part'} s n a n' a' =
    let e : ◌≡◌ {A = ℕ × List ℕ} (number, part) (number', part') =
    same_outcome (reads.macroblock_answers k f b) (reads.macroblock_answers k g b) (macroblock_gives s) (n, a) (n', a') (λ z z'.
    let slot = slot_of k b (read_below k f b (sym n.answer ∙ z)) in
    let v = 5 * slot.g + slot.m in
    let lies : v < 135 = omega (arith, slot.group, slot.unit) in
    let whole = (first_rows (subst (macroblock_table k f b) z ((reads.macroblock_answers k f b).numbered (number, part) (n, a)))).1 in
    let same = bytes_same s whole slot.h slot.q (slot_place v) 3 77 slot.channel slot.sequence (omega (arith, lies)) (omega arith) (omega arith) (slot_section v lies) in
    let out = (picture_out n a).macroblock z slot.h slot.q slot.g slot.m slot.channel slot.sequence slot.group slot.unit slot.carries in
    let out' = (picture_out n' a').macroblock z' slot.h slot.q slot.g slot.m slot.channel slot.sequence slot.group slot.unit slot.carries in
    λ i. ((z ∙ sym z') i, (out ∙ sym same ∙ sym out') i)) in
    two_parts e

pub same_macroblock_at : {k : ℕ} {f g : List ℕ} {b : ℕ} {r r' : Part} → Alike k f g → MacroblockLies k f b r → MacroblockLies k g b r' → r ≡ r'
same_macroblock_at {k} {f} {g} {b} s a a' =
    same_outcome (reads.macroblock_at_answers k f b) (reads.macroblock_at_answers k g b) (macroblock_gives s) a a' (λ z z'.
    let out = reads.macroblocks_out a in
    let out' = reads.macroblocks_out a' in
    let slot = slot_of k b (read_below k f b (sym (macroblock_lies_number k f b a) ∙ z)) in
    out.lies z slot.h slot.q slot.g slot.m slot.channel slot.sequence slot.group slot.unit slot.carries
    ∙ sym (out'.lies z' slot.h slot.q slot.g slot.m slot.channel slot.sequence slot.group slot.unit slot.carries))

pub same_time : {k : ℕ} {f g : List ℕ} {r r' : TimeAnswer} → Alike k f g → TimeRead k f r → TimeRead k g r' → r ≡ r'
same_time {k} {f} {g} {r} {r'} s a a' =
    same_outcome (reads.time_answers k f) (reads.time_answers k g) (time_gives s) a a' (λ z z'.
    let rows = first_rows (subst (time_table k f) z ((reads.time_answers k f).numbered r a)) in
    let some = (some_sequence k rows.0).0 in
    let out = time_out a in
    let out' = time_out a' in
    let first = low_same s 0 0 1 31 (omega arith) some (omega arith) (omega arith) (omega arith) in
    let bytes : (i m : ℕ) → 3 ≤ i → i + m ≤ 80 → bytes_at (sequences k) g 0 0 1 i m ≡ bytes_at (sequences k) f 0 0 1 i m =
    λ i m low h. bytes_same s rows.1 0 0 1 i m (omega arith) some (omega arith) low h (low_section 1 (omega arith)) in
    let time : r.time ≡ r'.time = out.time z ∙ rw (first, bytes 32 3 (omega arith) (omega arith)) at (sym (out'.time z')) in
    let group : r.group ≡ r'.group = out.group z ∙ rw (bytes 39 4 (omega arith) (omega arith)) at (sym (out'.group z')) in
    λ i. record { number = (z ∙ sym z') i; time = time i; group = group i })
