-- What two frames that are alike but for the sound have in common, in the refusal tables and in what is read. No contract is asked. Assumes nothing.
use Rattle.std.specs.Prelude.{Some}
use mathlib.Core.Path.{◌≡◌, refl, sym, ap, ◌∙◌}
use mathlib.Core.Bool.{not}
use mathlib.Core.List.{List, [], ◌∷◌}
use mathlib.Core.Logic.{◌⊎◌, inl, inr, ⊎_elim, ◌≢◌}
use Prim.Native.Nat.{ℕ, zero, suc, ◌+◌, ◌*◌, ◌/◌, ◌%◌, ◌≤◌, ◌<◌}
use native.Mathlib.Nat.{not-suc-le-zero, mul-le-mul_left}
use native.Mathlib.Omega.{arith}
use lib.Dec.{eqb}
use lib.IntN.{ℤ}
use lib.ListN.{length, get_or, set, length-set, get_or-eq_default}
use lib.Seq.{get_or-set_other}
use borrow.Author.Tests.{eqb-false, not-true}
use Rattle.base.specs.Below.{below}
use Rattle.base.proofs.Below.{below_means}
use Rattle.base.proofs.Cases.{by_lt, by_eq}
use Rattle.base.proofs.Picks.{pick_either}
use Rattle.base.proofs.Runs.{run_same, tab_part, tab_same}
use Rattle.paper.specs.declared.System.{System}
use Rattle.paper.specs.declared.Survey.{Survey}
use Rattle.paper.specs.Paper.{sequences, positions, start, byte_at, bytes_at, section_at, figure3, fault, stream_fault, records, sound_channel, sound_first, sound_index}
use Rattle.paper.specs.Paper.{sound_word, sample_by, count_by, count_said, mode_said, vs_pack, vaux_place, vaux_byte, ssyb_place, ssyb_byte}
use Rattle.paper.specs.Paper.{slot_place}
use Rattle.paper.specs.Bytes.{compared}
use Rattle.promises.specs.Refusals.{Table, ◌if◌, ◌else◌, none, FirstFault, SomeInFrame, WrongDsf, VsDisagrees, Flagged, vs_byte, SomeInHalf, as_byte, AsBreaks}
use Rattle.promises.specs.Refusals.{ssyb_at, WrongFirst, Differs, DifferInHalf, AsDiffer, checked, sounded, audio_table}
use Rattle.promises.specs.Refusals.{OwnFault, survey_table, salvage_table, view_table, check_table, macroblock_table, time_table, list_table, replace_table, count_stored, mode_stored}
use Rattle.promises.specs.Refusals.WrongFirst.{wrong_time_header, wrong_digit, wrong_group_header}
use Rattle.promises.specs.Refusals.Differs.{other_time, other_group}
use Rattle.promises.specs.Demand3.{fault_for, SalvageOut, Listed}
use Rattle.promises.specs.Unrecorded.{SameButAudio, SameButAaux}
use Rattle.promises.proofs.Tables.{row_past, row_skip}
use Rattle.rules_format.specs.Systems.{system_of}
use Rattle.rules_format.proofs.Blocks.{before_channel}
use Rattle.rules_format.proofs.Systems.{sequences_cases}
use Rattle.rules_format.proofs.Paper.{columns, known_system, time_below, group_below}
use Rattle.rules_format.proofs.Numbers.{sound_within, word_within}

-- ---- tables: what one gives, the other gives

-- two rows give the same
pub record Same (row row' : Table) : Type 0 where
  pub to : (r : ℕ) → row r → row' r
  pub from : (r : ℕ) → row' r → row r

-- where one table gives r, so does the other
pub record Gives (r : ℕ) (table table' : Table) : Type 0 where
  pub too : table r → table' r

pub same_if : {Holds Holds' : Type 0} (number : ℕ) → (Holds → Holds') → (Holds' → Holds) → Same (number if Holds) (number if Holds')
same_if number to from = record { to = λ r h. (h.0, to h.1); from = λ r h. (h.0, from h.1) }

pub else_gives : {row row' rows rows' : Table} {r : ℕ} → Same row row' → Gives r rows rows' → Gives r (row else rows) (row' else rows')
else_gives {r = r} here rest = record {
  too = ⊎_elim (λ h. inl (here.to r h)) (λ past. inr ((λ s h. past.0 s (here.from s h)), rest.too past.1));
}

pub none_gives : {r : ℕ} → Gives r none none
none_gives = record { too = λ e. e }

-- where the one gives 0, no row before its last holds, and the other gives r
pub record Leads (r : ℕ) (table table' : Table) : Type 0 where
  pub to : table 0 → table' r

zero_leads : {row row' rows rows' : Table} {r : ℕ} → (row 0 → ⊥) → ((s : ℕ) → row' s → row s) → Leads r rows rows' → Leads r (row else rows) (row' else rows')
zero_leads none from rest = record { to = ⊎_elim (λ h. absurd (none h)) (λ past. inr ((λ s h. past.0 s (from s h)), rest.to past.1)) }

pub if_leads : {Holds Holds' : Type 0} {rows rows' : Table} {r : ℕ} (number : ℕ) → number ≢ 0 → (Holds' → Holds) → Leads r rows rows'
    → Leads r (number if Holds else rows) (number if Holds' else rows')
if_leads number some from = zero_leads (λ h. some (sym h.0)) (λ s h. (h.0, from h.1))

-- ---- the bytes of a block that are the same

pub bytes_alike : {n : ℕ} (f g : List ℕ) → length g ≡ length f → length f ≡ 48000 * n → (h q p i m : ℕ) → h < 4 → q < n → p < 150 → i + m ≤ 80
    → ((b : ℕ) → b < m → byte_at n g h q p (i + b) ≡ byte_at n f h q p (i + b)) → bytes_at n g h q p i m ≡ bytes_at n f h q p i m
bytes_alike {n} f g size whole h q p i m hh hq hp hi same =
    let a = start n h q p + i in
    let fits : a + m ≤ length f = omega (arith, whole, hi, hp, hq, before_channel n h hh) in
    sym (tab_part 0 g a m (omega (arith, fits, size)))
    ∙ tab_same _ _ m (λ b l. let e : start n h q p + (i + b) ≡ a + b = omega arith in rw e at (same b l))
    ∙ tab_part 0 f a m fits

-- ---- Alike: what every call goes by but for the sound

-- the fault that block j of the bytes would have at place p of sequence q of DIF channel h
abbrev pub fault_there : List ℕ → ℕ → ℕ → ℕ → ℕ → ℕ
fault_there f j h q p = fault (get_or f (j * 80) 0) (get_or f (j * 80 + 1) 0) (get_or f (j * 80 + 2) 0) h q p

-- the fault of each block in every place, and what is behind the IDs of every section but audio
pub record Alike (k : ℕ) (f g : List ℕ) : Type 0 where
  pub size : length g ≡ length f
  pub faults : (j h q p : ℕ) → j < 600 * sequences k → fault_there g j h q p ≡ fault_there f j h q p
  pub behind : (j b : ℕ) → j < 600 * sequences k → 3 ≤ b → b < 80 → section_at (j % 150) ≢ 3 → get_or g (j * 80 + b) 0 ≡ get_or f (j * 80 + b) 0

pub alike_sym : {k : ℕ} {f g : List ℕ} → Alike k f g → Alike k g f
alike_sym s = record {
  size = sym s.size;
  faults = λ j h q p hj. sym (s.faults j h q p hj);
  behind = λ j b hj low hb d. sym (s.behind j b hj low hb d);
}

-- so are two frames that differ behind the IDs of audio blocks alone
pub apart_alike : {k : ℕ} {f g : List ℕ} → SameButAudio k f g → Alike k f g
apart_alike {k} {f} {g} s = record {
  size = s.size;
  faults = λ j h q p hj.
      let zero : j * 80 + 0 ≡ j * 80 = omega arith in
      let b0 : get_or g (j * 80) 0 ≡ get_or f (j * 80) 0 = rw zero at (s.ids j 0 hj (omega arith)) in
      rw (b0, s.ids j 1 hj (omega arith), s.ids j 2 hj (omega arith)) refl;
  behind = λ j b hj low hb d. s.others j b hj hb d;
}

-- places 0 to 5 are of other sections
pub low_section : (p : ℕ) → p < 6 → section_at p ≢ 3
unfolding figure3
low_section p h = eqb-false _ _ (not-true _ (below_means (λ (i : ℕ). not (eqb (section_at i) 3)) 6 refl p h))

module _ {k : ℕ} {f g : List ℕ} (s : Alike k f g) where
  abbrev n : ℕ
  n = sequences k

  -- a byte behind the ID of a block of another section
  pub byte_same : (h q p b : ℕ) → h < 4 → q < n → p < 150 → 3 ≤ b → b < 80 → section_at p ≢ 3 → byte_at n g h q p b ≡ byte_at n f h q p b
  byte_same h q p b hh hq hp low hb d =
      let j : ((n * h + q) * 150 + p) % 150 ≡ p = omega arith in
      s.behind ((n * h + q) * 150 + p) b (omega (arith, before_channel n h hh)) low hb (rw j d)

  pub low_same : (h q p b : ℕ) → h < 4 → q < n → p < 6 → 3 ≤ b → b < 80 → byte_at n g h q p b ≡ byte_at n f h q p b
  low_same h q p b hh hq hp low hb = byte_same h q p b hh hq (omega arith) low hb (low_section p hp)

  -- a run of them
  pub bytes_same : length f ≡ 48000 * n → (h q p i m : ℕ) → h < 4 → q < n → p < 150 → 3 ≤ i → i + m ≤ 80 → section_at p ≢ 3
      → bytes_at n g h q p i m ≡ bytes_at n f h q p i m
  bytes_same whole h q p i m hh hq hp low hi d =
      bytes_alike f g s.size whole h q p i m hh hq hp hi (λ b l. byte_same h q p (i + b) hh hq hp (omega arith) (omega (arith, l, hi)) d)

  -- the fault of a block of the stream
  pub fault_same : (j i : ℕ) → j < 600 * n → stream_fault n g j i ≡ stream_fault n f j i
  fault_same j i hj = s.faults j (i / 150 / n) (i / 150 % n) (i % 150) hj

-- ---- FirstFault: where none is given, every block names its place

pub all_named : (n : ℕ) (f : List ℕ) → ((r : ℕ) → FirstFault n f r → ⊥) → (m : ℕ) → m ≤ 600 * n → (j : ℕ) → j < m → stream_fault n f j j ≡ 0
all_named n f none zero h j l = absurd (not-suc-le-zero l)
all_named n f none (suc m) h j l =
    let before = all_named n f none m (omega arith) in
    by_eq j m
    (λ last. rw last (by_eq (stream_fault n f m m) 0 (λ z. z) (λ d. absurd (none (stream_fault n f m m) (record { j = m; within = h; before = λ i l. before i (omega arith); is = refl; some = d })))))
    (λ d. before j (omega (arith, d)))

-- ---- checked: the rows of the frame check

vs_place : (q : ℕ) → vaux_place (vs_pack q) < 6
unfolding vs_pack
vs_place q = pick_either (λ (j : ℕ). vaux_place j < 6) _ (omega arith) (omega arith)

vs_byte_lem : (q i : ℕ) → i < 5 → vaux_byte (vs_pack q) + i < 80
vs_byte_lem q i h = omega arith

pub some_to : {n : ℕ} {Is Is' : ℕ → ℕ → Type 0} → ((h q : ℕ) → h < 4 → q < n → Is h q → Is' h q) → SomeInFrame n Is → SomeInFrame n Is'
some_to to s = record { h = s.h; q = s.q; channel = s.channel; sequence = s.sequence; is = to s.h s.q s.channel s.sequence s.is }

module _ {k : ℕ} {f g : List ℕ} (s : Alike k f g) where
  first_to : (r : ℕ) → FirstFault (sequences k) f r → FirstFault (sequences k) g r
  first_to r a = record {
    j = a.j;
    within = a.within;
    before = λ i l. fault_same s i i (omega (arith, l, a.within)) ∙ a.before i l;
    is = a.is ∙ sym (fault_same s a.j a.j a.within);
    some = a.some;
  }

  dsf_to : SomeInFrame (sequences k) (WrongDsf k f) → SomeInFrame (sequences k) (WrongDsf k g)
  dsf_to = some_to (λ h q hh hq d z. d (rw (low_same s h q 0 3 hh hq (omega arith) (omega arith) (omega arith)) at z))

  vs_to : SomeInFrame (sequences k) (VsDisagrees k f) → SomeInFrame (sequences k) (VsDisagrees k g)
  vs_to =
      some_to (λ h q hh hq v.
      let byte : (i : ℕ) → i < 5 → vs_byte (sequences k) g h q i ≡ vs_byte (sequences k) f h q i =
      λ i hi. low_same s h q (vaux_place (vs_pack q)) (vaux_byte (vs_pack q) + i) hh hq (vs_place q) (omega arith) (vs_byte_lem q i hi) in
      record {
        valid = λ z. v.valid (rw (low_same s h q 0 6 hh hq (omega arith) (omega arith) (omega arith)) at z);
        wrong = rw (byte 0 (omega arith), byte 3 (omega arith)) v.wrong;
      })

  -- 23, by byte 5, 6 or 7 of a header
  pub flag_to : (i : ℕ) → 3 ≤ i → i < 80 → SomeInFrame (sequences k) (Flagged i (sequences k) f) → SomeInFrame (sequences k) (Flagged i (sequences k) g)
  flag_to i low hi = some_to (λ h q hh hq e. ap (λ (x : ℕ). x / 128) (low_same s h q 0 i hh hq (omega arith) low hi) ∙ e)

pub checked_gives : {k : ℕ} {f g : List ℕ} {rows rows' : Table} {r : ℕ} → Alike k f g → Gives r rows rows' → Gives r (checked k f rows) (checked k g rows')
checked_gives s rest =
    let back = alike_sym s in
    else_gives (record { to = first_to s; from = first_to back })
    (else_gives (same_if 21 (dsf_to s) (dsf_to back)) (else_gives (same_if 22 (vs_to s) (vs_to back)) rest))

-- ---- Listed: the fault list, of a frame and of a sequence

pub listed_same : {n first m : ℕ} {f g list list' : List ℕ} {r : Survey} → ((j h q p : ℕ) → j < m → fault_there g j h q p ≡ fault_there f j h q p)
    → Listed n f first m list r list' → Listed n g first m list r list'
unfolding records
listed_same {n} {first} {m} {f} {g} faults a =
    let there : ℕ → ℕ = λ j. first + j in
    let e : records n g first m ≡ records n f first m =
    run_same _ _ m (λ j l. rw (faults j (there j / 150 / n) (there j / 150 % n) (there j % 150) l) refl) in
    record { listed = rw e a.listed; kept = a.kept; total = rw e a.total }

-- ---- SalvageOut: the samples, where the words are the same too

-- the words of audio channel c are the same in both
pub record SameWords (k : ℕ) (f g : List ℕ) (c : ℕ) : Type 0 where
  pub word : (t : ℕ) → t < positions k → sound_word (sequences k) g c t ≡ sound_word (sequences k) f c t

-- a position says a known system
by_position : {P : Type 0} (k : ℕ) {t : ℕ} → t < positions k → ((y : System) → system_of k ≡ Some y → P) → P
by_position k ht found =
    by_lt k 4 (λ below. known_system k below found)
    (λ above. let none : positions k ≡ 0 = get_or-eq_default {A = ℕ} (1620 ∷ 1944 ∷ 1620 ∷ 1944 ∷ []) 0 above in absurd (omega (arith, ht, none)))

-- the block of a position lies in the frame, and its word in the block
module _ (k : ℕ) (f : List ℕ) (c t : ℕ) where
  index_below : 0 < c → c < 9 → t < positions k → sound_index (sequences k) c t < 600 * sequences k
  index_below c1 c8 ht = by_position k ht (λ y known. let e = (columns k y known).sequences_is in rw e (omega (arith, sound_within y f c t c1 c8)))

  pub offset_below : t < positions k → 8 + 2 * (t / (9 * (sequences k / 2))) + 1 < 80
  offset_below ht =
      by_position k ht (λ y known. let col = columns k y known in rw col.sequences_is (word_within y f c t (omega (arith, ht, col.positions_is))))

-- "byte 8 + 2(t div 9s)": no word stands before byte 8
pub words_same : {k : ℕ} {f g : List ℕ}
    → ((j b : ℕ) → j < 600 * sequences k → 8 ≤ b → b < 80 → get_or g (j * 80 + b) 0 ≡ get_or f (j * 80 + b) 0) → (c : ℕ) → 0 < c → c < 9 → SameWords k f g c
words_same {k} {f} {g} bytes c c1 c8 = record {
  word = λ t ht.
      let j = sound_index (sequences k) c t in
      let w = 8 + 2 * (t / (9 * (sequences k / 2))) in
      let within = offset_below k f c t ht in
      let below = index_below k f c t c1 c8 ht in
      let high = bytes j w below (omega arith) (omega (arith, within)) in
      let next : j * 80 + (w + 1) ≡ j * 80 + w + 1 = omega arith in
      let low : get_or g (j * 80 + w + 1) 0 ≡ get_or f (j * 80 + w + 1) 0 = rw next at (bytes j (w + 1) below (omega arith) within) in
      rw (high, low) refl;
}

-- nor in AAUX
pub aaux_words : {k : ℕ} {f g : List ℕ} → SameButAaux k f g → (c : ℕ) → 0 < c → c < 9 → SameWords k f g c
aaux_words s = words_same (λ j b hj low hb. s.words j b hj (omega arith) hb)

pub salvage_out_same : {k : ℕ} {f g : List ℕ} {samples : List ℤ} → Alike k f g → ((c : ℕ) → 0 < c → c < 9 → SameWords k f g c) → SalvageOut k f samples
    → SalvageOut k g samples
salvage_out_same {k} {f} {g} s words a = record {
  size = a.size;
  position = λ c t c1 c8 ht.
      let j = sound_index (sequences k) c t in
      let within : t < positions k = omega (arith, ht) in
      let e : fault_for (sequences k) g c t ≡ fault_for (sequences k) f c t = fault_same s j j (index_below k f c t c1 c8 within) in
      let x = a.position c t c1 c8 ht in
      record { unnamed = λ d. x.unnamed (λ z. d (e ∙ z)); renamed = λ z. x.renamed (sym e ∙ z) ∙ ap sample_by (sym ((words c c1 c8).word t within)) };
}

-- ---- survey_table, salvage_table, check_table: the length of the frame is the same

-- a row that asks nothing of the frame
row_gives : {row rows rows' : Table} {r : ℕ} → Gives r rows rows' → Gives r (row else rows) (row else rows')
row_gives rest = else_gives (record { to = λ r h. h; from = λ r h. h }) rest

-- 1 and 2, of every call that is lent a frame
frame_gives : {k : ℕ} {f g : List ℕ} {rows rows' : Table} {r : ℕ} → Alike k f g → Gives r rows rows'
    → Gives r (1 if (3 < k) else 2 if (length f ≢ 48000 * sequences k) else rows) (1 if (3 < k) else 2 if (length g ≢ 48000 * sequences k) else rows')
frame_gives s rest = row_gives (else_gives (same_if 2 (λ d z. d (sym s.size ∙ z)) (λ d z. d (s.size ∙ z))) rest)

pub survey_gives : {k : ℕ} {f g : List ℕ} {r : ℕ} → Alike k f g → Gives r (survey_table k (length f)) (survey_table k (length g))
survey_gives s = record { too = λ e. rw s.size e }

pub salvage_gives : {k room : ℕ} {f g : List ℕ} {r : ℕ} → Alike k f g → Gives r (salvage_table k (length f) room) (salvage_table k (length g) room)
salvage_gives s = record { too = λ e. rw s.size e }

pub check_gives : {k : ℕ} {f g : List ℕ} {r : ℕ} → Alike k f g → Gives r (check_table k f) (check_table k g)
check_gives s = frame_gives s (checked_gives s none_gives)

-- ---- view_table: the block's own fault, by the bytes of its ID

own_to : {k : ℕ} {f g : List ℕ} {h q p : ℕ} → Alike k f g → h < 4 → q < sequences k → p < 150 → (r : ℕ) → OwnFault (sequences k) f h q p r
    → OwnFault (sequences k) g h q p r
own_to {k} {f} {g} {h} {q} {p} s hh hq hp r o =
    let j = (sequences k * h + q) * 150 + p in
    let zero : j * 80 + 0 ≡ j * 80 = omega arith in
    let same = s.faults j h q p (omega (arith, hp, hq, before_channel (sequences k) h hh)) in
    record { is = o.is ∙ rw zero (sym same); some = o.some }

pub view_gives : {k : ℕ} {f g : List ℕ} (h q p : ℕ) {r : ℕ} → Alike k f g → Gives r (view_table k f h q p) (view_table k g h q p)
view_gives {k} {f} {g} h q p {r} s =
    frame_gives s (record {
      too = ⊎_elim (λ out. inl out) (λ past.
          let hh : h < 4 = by_lt h 4 (λ l. l) (λ out. absurd (past.0 3 (refl, inl (inl out)))) in
          let hq : q < sequences k = by_lt q (sequences k) (λ l. l) (λ out. absurd (past.0 3 (refl, inl (inr out)))) in
          let hp : p < 150 = by_lt p 150 (λ l. l) (λ out. absurd (past.0 3 (refl, inr out))) in
          let own : Gives r (OwnFault (sequences k) f h q p else none) (OwnFault (sequences k) g h q p else none) =
          else_gives (record { to = own_to s hh hq hp; from = own_to (alike_sym s) hh hq hp }) none_gives in
          inr (past.0, own.too past.1));
    })

-- ---- macroblock_table, time_table

-- video blocks are of another section
pub slot_section : (v : ℕ) → v < 135 → section_at (slot_place v) ≢ 3
unfolding figure3
slot_section v h = eqb-false _ _ (not-true _ (below_means (λ (i : ℕ). not (eqb (section_at (slot_place i)) 3)) 135 refl v h))

pub macroblock_gives : {k : ℕ} {f g : List ℕ} {b r : ℕ} → Alike k f g → Gives r (macroblock_table k f b) (macroblock_table k g b)
macroblock_gives s = frame_gives s (row_gives (checked_gives s (else_gives (same_if 23 (flag_to s 6 (omega arith) (omega arith)) (flag_to (alike_sym s) 6 (omega arith) (omega arith))) none_gives)))

pub sequences_two : (k : ℕ) → k < 4 → (sequences k ≡ 10) ⊎ (sequences k ≡ 12)
sequences_two k below =
    known_system k below (λ y known.
    let is = (columns k y known).sequences_is in ⊎_elim (λ ten. inl (is ∙ ten)) (λ twelve. inr (is ∙ twelve)) (sequences_cases y))

-- a system has a sequence, and one of rank 0 in each half
pub some_sequence : (k : ℕ) → k < 4 → (0 < sequences k) × (0 < sequences k / 2)
some_sequence k below =
    ⊎_elim (λ (ten : sequences k ≡ 10). (omega (arith, ten), omega (arith, ten))) (λ (twelve : sequences k ≡ 12). (omega (arith, twelve), omega (arith, twelve)))
    (sequences_two k below)

-- a sequence of a half, by its rank
pub rank_below : (n c r : ℕ) → r < n / 2 → sound_first n c + r < n
rank_below n c r h =
    let bit : (c + 1) % 2 ≤ 1 = omega arith in
    omega (arith, h, mul-le-mul_left (n / 2) bit)

-- a byte of the pack of an SSYB
module _ {k : ℕ} {f g : List ℕ} (s : Alike k f g) where
  ssyb_same : (h q j i : ℕ) → h < 4 → q < sequences k → j < 12 → i < 5 → ssyb_at (sequences k) g h q j i ≡ ssyb_at (sequences k) f h q j i
  ssyb_same h q j i hh hq hj hi = low_same s h q (ssyb_place j) (ssyb_byte j + i) hh hq (omega arith) (omega arith) (omega arith)

  module _ (some : 0 < sequences k) where
    first_same : (j i : ℕ) → j < 12 → i < 5 → ssyb_at (sequences k) g 0 0 j i ≡ ssyb_at (sequences k) f 0 0 j i
    first_same j i hj hi = ssyb_same 0 0 j i (omega arith) some hj hi

    wrong_first_to : WrongFirst k f → WrongFirst k g
    wrong_first_to (wrong_time_header d) = wrong_time_header (λ z. d (sym (first_same 3 0 (omega arith) (omega arith)) ∙ z))
    wrong_first_to (wrong_digit w) =
        wrong_digit
        (rw (
          first_same 3 1 (omega arith) (omega arith),
          first_same 3 2 (omega arith) (omega arith),
          first_same 3 3 (omega arith) (omega arith),
          first_same 3 4 (omega arith) (omega arith),
        ) w)
    wrong_first_to (wrong_group_header d) = wrong_group_header (λ z. d (sym (first_same 4 0 (omega arith) (omega arith)) ∙ z))

    differs_to : (h q : ℕ) → h < 4 → q < sequences k → Differs k f h q → Differs k g h q
    differs_to h q hh hq (other_time j i held hi d) =
        other_time j i held hi (λ z.
        d (ap (compared k i) (sym (ssyb_same h q j i hh hq (time_below _ q j held) hi)) ∙ z ∙ ap (compared k i) (first_same 3 i (omega arith) hi)))
    differs_to h q hh hq (other_group j i held hi d) =
        other_group j i held hi (λ z. d (sym (ssyb_same h q j i hh hq (group_below _ q j held) hi) ∙ z ∙ first_same 4 i (omega arith) hi))

pub time_gives : {k : ℕ} {f g : List ℕ} {r : ℕ} → Alike k f g → Gives r (time_table k f) (time_table k g)
time_gives {k} {f} {g} {r} s = record {
  too = λ e.
      by_lt k 4
      (λ below. (rows (some_sequence k below).0).too e)
      (λ above. ⊎_elim (λ h. inl h) (λ past. absurd (past.0 1 (refl, above))) e);
}
  where
    rows : 0 < sequences k → Gives r (time_table k f) (time_table k g)
    rows some =
        let back = alike_sym s in
        frame_gives s
        (checked_gives s
        (else_gives (same_if 23 (flag_to s 7 (omega arith) (omega arith)) (flag_to back 7 (omega arith) (omega arith)))
        (else_gives (same_if 26 (wrong_first_to s some) (wrong_first_to back some))
        (else_gives (same_if 27 (some_to (differs_to s some)) (some_to (differs_to back some))) none_gives))))

-- ---- audio_table, replace_table

-- the rows of an audio read before 24
abbrev pub before_as : ℕ → List ℕ → ℕ → ℕ → Table → Table
before_as k f c room rows =
    1 if (3 < k)
    else 2 if (length f ≢ 48000 * sequences k)
    else 3 if ((c ≡ 0) ⊎ (8 < c))
    else 4 if (room ≢ positions k)
    else checked k f (23 if SomeInFrame (sequences k) (Flagged 5 (sequences k) f) else rows)

pub audio_leads : {k : ℕ} {f g : List ℕ} {c room r : ℕ} {rows rows' : Table} → Alike k f g → Leads r rows rows'
    → Leads r (before_as k f c room rows) (before_as k g c room rows')
audio_leads s rest =
    let back = alike_sym s in
    if_leads 1 (λ z. omega (arith, z)) (λ h. h)
    (if_leads 2 (λ z. omega (arith, z)) (λ d z. d (s.size ∙ z))
    (if_leads 3 (λ z. omega (arith, z)) (λ h. h)
    (if_leads 4 (λ z. omega (arith, z)) (λ h. h)
    (zero_leads (λ a. a.some refl) (first_to back)
    (if_leads 21 (λ z. omega (arith, z)) (dsf_to back)
    (if_leads 22 (λ z. omega (arith, z)) (vs_to back) (if_leads 23 (λ z. omega (arith, z)) (flag_to back 5 (omega arith) (omega arith)) rest)))))))

-- the AS packs of audio channel c are the same in both
pub record SameAs (k : ℕ) (f g : List ℕ) (c : ℕ) : Type 0 where
  pub byte : (r i : ℕ) → r < sequences k / 2 → i < 5
      → as_byte (sequences k) g (sound_channel c) (sound_first (sequences k) c + r) i ≡ as_byte (sequences k) f (sound_channel c) (sound_first (sequences k) c + r) i

same_as_sym : {k : ℕ} {f g : List ℕ} {c : ℕ} → SameAs k f g c → SameAs k g f c
same_as_sym s = record { byte = λ r i hr hi. sym (s.byte r i hr hi) }

module _ {k : ℕ} {f g : List ℕ} {c : ℕ} (s : SameAs k f g c) where
  breaks_to : SomeInHalf (sequences k) c (AsBreaks k f c) → SomeInHalf (sequences k) c (AsBreaks k g c)
  breaks_to b = record {
    r = b.r;
    rank = b.rank;
    is = rw (
      s.byte b.r 0 b.rank (omega arith),
      s.byte b.r 1 b.rank (omega arith),
      s.byte b.r 2 b.rank (omega arith),
      s.byte b.r 3 b.rank (omega arith),
      s.byte b.r 4 b.rank (omega arith),
    )
        b.is;
  }

pub differ_to : {n c : ℕ} {said said' : ℕ → ℕ → ℕ} → ((r : ℕ) → r < n / 2 → said' (sound_channel c) (sound_first n c + r) ≡ said (sound_channel c) (sound_first n c + r))
    → DifferInHalf n c said → DifferInHalf n c said'
differ_to same d = record {
  r = d.r;
  r' = d.r';
  rank = d.rank;
  rank' = d.rank';
  differ = λ z. d.differ (sym (same d.r d.rank) ∙ z ∙ same d.r' d.rank');
}

module _ {k : ℕ} {f g : List ℕ} {c : ℕ} (s : SameAs k f g c) where
  -- what they say
  pub count_same : (r : ℕ) → r < sequences k / 2 → count_said (sequences k) g (sound_channel c) (sound_first (sequences k) c + r)
      ≡ count_said (sequences k) f (sound_channel c) (sound_first (sequences k) c + r)
  count_same r hr = ap (λ (x : ℕ). count_by (x % 64)) (s.byte r 1 hr (omega arith))

  pub mode_same : (r : ℕ) → r < sequences k / 2 → mode_said (sequences k) g (sound_channel c) (sound_first (sequences k) c + r)
      ≡ mode_said (sequences k) f (sound_channel c) (sound_first (sequences k) c + r)
  mode_same r hr = ap (λ (x : ℕ). x % 16) (s.byte r 2 hr (omega arith))

  as_differ_to : AsDiffer (sequences k) f c → AsDiffer (sequences k) g c
  as_differ_to = ⊎_elim (λ d. inl (differ_to count_same d)) (λ d. inr (differ_to mode_same d))

-- an audio channel whose AS packs are the same
sound_gives : {k : ℕ} {f g : List ℕ} {c r : ℕ} {rows rows' : Table} → Alike k f g → SameAs k f g c → Gives r rows rows'
    → Gives r (sounded k f c rows) (sounded k g c rows')
sound_gives s a rest =
    let back = same_as_sym a in
    else_gives (same_if 23 (flag_to s 5 (omega arith) (omega arith)) (flag_to (alike_sym s) 5 (omega arith) (omega arith)))
    (else_gives (same_if 24 (breaks_to a) (breaks_to back)) (else_gives (same_if 25 (as_differ_to a) (as_differ_to back)) rest))

-- behind row 3 the channel is one
channel_gives : {c r : ℕ} {rows rows' : Table} → (0 < c → c < 9 → Gives r rows rows')
    → Gives r (3 if ((c ≡ 0) ⊎ (8 < c)) else rows) (3 if ((c ≡ 0) ⊎ (8 < c)) else rows')
channel_gives {c} rest = record {
  too = ⊎_elim (λ out. inl out) (λ past.
      let c1 : 0 < c = by_lt 0 c (λ l. l) (λ none. absurd (past.0 3 (refl, inl (omega arith)))) in
      let c8 : c < 9 = by_lt c 9 (λ l. l) (λ above. absurd (past.0 3 (refl, inr above))) in
      inr (past.0, (rest c1 c8).too past.1));
}

pub audio_gives : {k : ℕ} {f g : List ℕ} {c room r : ℕ} → Alike k f g → (0 < c → c < 9 → SameAs k f g c)
    → Gives r (audio_table k f c room) (audio_table k g c room)
audio_gives s a = frame_gives s (channel_gives (λ c1 c8. row_gives (checked_gives s (sound_gives s (a c1 c8) none_gives))))

-- the list is asked for the same count and mode
pub replace_gives : {k : ℕ} {f g : List ℕ} {c : ℕ} {samples : List ℤ} {r : ℕ} → Alike k f g → (0 < c → c < 9 → SameAs k f g c)
    → Gives r (replace_table k f c samples) (replace_table k g c samples)
replace_gives {k} {f} {g} {c} {samples} {r} s a = record {
  too = λ e.
      by_lt k 4
      (λ below. (rows (some_sequence k below).1).too e)
      (λ above. ⊎_elim (λ h. inl h) (λ past. absurd (past.0 1 (refl, above))) e);
}
  where
    rows : 0 < sequences k / 2 → Gives r (replace_table k f c samples) (replace_table k g c samples)
    rows some =
        frame_gives s (channel_gives (λ c1 c8.
        let zero : sound_first (sequences k) c + 0 ≡ sound_first (sequences k) c = omega arith in
        let count : count_stored k g c ≡ count_stored k f c = rw zero at (count_same (a c1 c8) 0 some) in
        let mode : mode_stored k g c ≡ mode_stored k f c = rw zero at (mode_same (a c1 c8) 0 some) in
        checked_gives s (sound_gives s (a c1 c8) (record { too = λ e. rw (count, mode) e }))))

-- ---- what may differ: any byte behind the ID of an audio block, and any of AAUX

module _ (k : ℕ) (f : List ℕ) (j b v : ℕ) (audio : section_at (j % 150) ≡ 3) (low : 3 ≤ b) where
  -- a byte of another place
  elsewhere : b < 80 → (j' b' : ℕ) → b' < 80 → (j' ≡ j → b' ≢ b) → get_or (set f (j * 80 + b) v) (j' * 80 + b') 0 ≡ get_or f (j' * 80 + b') 0
  elsewhere hb j' b' hb' d = get_or-set_other f (j * 80 + b) (j' * 80 + b') v 0 (λ e. d (omega (arith, e, hb, hb')) (omega (arith, e, hb, hb')))

  pub audio_free : b < 80 → SameButAudio k f (set f (j * 80 + b) v)
  audio_free hb = record {
    size = length-set f (j * 80 + b) v;
    ids = λ j' b' hj hb'. elsewhere hb j' b' (omega arith) (λ same z. omega (arith, z, low, hb'));
    others = λ j' b' hj hb' d. elsewhere hb j' b' hb' (λ same. absurd (d (rw same audio)));
  }

  pub aaux_free : b < 8 → SameButAaux k f (set f (j * 80 + b) v)
  aaux_free hb = record {
    blocks = audio_free (omega arith);
    words = λ j' b' hj eight hb'. elsewhere (omega arith) j' b' hb' (λ same z. omega (arith, z, eight, hb));
  }

-- ---- replace_table beside audio_table: "those of the audio read, but no 4 for the sample list"

pub refused_gives : (k : ℕ) (f : List ℕ) (c room : ℕ) (samples : List ℤ) (r : ℕ) → r ≢ 0 → r ≢ 4 → Gives r (audio_table k f c room) (replace_table k f c samples)
refused_gives k f c room samples r some four =
    let rest : Gives r (checked k f (sounded k f c none)) (checked k f (sounded k f c (list_table (count_stored k f c) samples (mode_stored k f c)))) =
    row_gives (row_gives (row_gives (row_gives (row_gives (row_gives (record { too = λ z. absurd (some z) })))))) in
    row_gives (row_gives (row_gives (record { too = ⊎_elim (λ h. absurd (four h.0)) (λ p. rest.too p.1) })))

-- where the one gives 0, the rows of the list are left of the other
pub then_gives : (k : ℕ) (f : List ℕ) (c room : ℕ) (samples : List ℤ) (r : ℕ) → audio_table k f c room 0 → replace_table k f c samples r
    → list_table (count_stored k f c) samples (mode_stored k f c) r
then_gives k f c room samples r read given =
    let one = row_past (λ e. omega (arith, e)) read in
    let two = row_past (λ e. omega (arith, e)) one.1 in
    let three = row_past (λ e. omega (arith, e)) two.1 in
    let four = row_past (λ e. omega (arith, e)) three.1 in
    let clean = ⊎_elim (λ a. absurd (a.some refl)) (λ p. p) four.1 in
    let dsf = row_past (λ e. omega (arith, e)) clean.1 in
    let vs = row_past (λ e. omega (arith, e)) dsf.1 in
    let flag = row_past (λ e. omega (arith, e)) vs.1 in
    let source = row_past (λ e. omega (arith, e)) flag.1 in
    let agree = row_past (λ e. omega (arith, e)) source.1 in
    let checks = row_skip three.0 (row_skip two.0 (row_skip one.0 given)) in
    let sounds = row_skip vs.0 (row_skip dsf.0 (⊎_elim (λ a. absurd (clean.0 r a)) (λ p. p.1) checks)) in
    row_skip agree.0 (row_skip source.0 (row_skip flag.0 sounds))
