-- What a mark changes in the tables and in what is read. No contract is asked. Assumes nothing.
use mathlib.Core.Path.{◌≡◌, refl, sym, ap, ◌∙◌}
use mathlib.Core.Bool.{Bool, true, false, not, ◌&&◌}
use mathlib.Core.List.{List, [], ◌∷◌}
use mathlib.Core.Logic.{◌⊎◌, inl, inr, ⊎_elim, ◌≢◌}
use Prim.Native.Nat.{ℕ, ◌+◌, ◌*◌, ◌/◌, ◌%◌, ◌<◌}
use native.Mathlib.Omega.{arith}
use lib.Dec.{eqb}
use lib.ListN.{length, get_or, get_or-eq_default}
use lib.Seq.{ext_get_or}
use borrow.Author.Tests.{eq-eqb, ne_eqb, eqb-true, not-true, not-false}
use Rattle.base.specs.Below.{below}
use Rattle.base.specs.Calls.{ExactlyOne}
use Rattle.base.specs.Pick.{pick}
use Rattle.base.specs.Run.{tab}
use Rattle.base.proofs.Below.{below_means, below_when, below_fails, below_some}
use Rattle.base.proofs.Cases.{by_lt, by_bool, clash}
use Rattle.base.proofs.Picks.{pick_true, pick_false, pick_either, both_held, both_hold}
use Rattle.base.proofs.Runs.{length_tab, tab_at}
use Rattle.paper.specs.Paper.{sequences, start, section_at, figure3, sound_channel, sound_first, as_pack, as_place, count_by, count_said, mode_said}
use Rattle.paper.specs.Bytes.{WrongAs}
use Rattle.paper.specs.Bytes.WrongAs.{wrong_header, wrong_lf, wrong_size, wrong_chn, wrong_mode, wrong_rate, wrong_stype, wrong_smp_qu}
use Rattle.promises.specs.Refusals.{SomeInHalf, as_byte, AsBreaks, AsDiffer, audio_table}
use Rattle.promises.specs.Unrecorded.{mode_byte, Marks, every, SameButAaux}
use Rattle.promises.proofs.Apart.{apart_alike, Leads, if_leads, audio_leads, SameAs, differ_to, sequences_two}

-- ---- Marks

-- AS stands in an audio block
pub as_place_lem : (q : ℕ) → (section_at (as_place q) ≡ 3) × (as_place q < 150)
unfolding figure3 as_pack
as_place_lem q = (pick_either (λ (a : ℕ). section_at (6 + 16 * a) ≡ 3) _ refl refl, pick_either (λ (a : ℕ). 6 + 16 * a < 150) _ (omega arith) (omega arith))

-- the byte of a mode is byte 5 of its block
mode_index : (n c r j b : ℕ) → b < 80 → j * 80 + b ≡ mode_byte n c r → (b ≡ 5) × (section_at (j % 150) ≡ 3)
mode_index n c r j b hb e =
    let q = sound_first n c + r in
    let here = as_place_lem q in
    let is : j ≡ (n * sound_channel c + q) * 150 + as_place q = omega (arith, e, hb) in
    let place : j % 150 ≡ as_place q = omega (arith, is, here.1) in
    (omega (arith, e, hb), rw place here.0)

module _ {k : ℕ} {f : List ℕ} {c : ℕ} {which : ℕ → Bool} {g : List ℕ} (m : Marks k f c which g) where
  pub marks_aaux : SameButAaux k f g
  marks_aaux = record {
    blocks = record {
      size = m.size;
      ids = λ j b hj hb. kept j b (omega arith) (λ five audio. omega (arith, five, hb));
      others = λ j b hj hb d. kept j b hb (λ five audio. d audio);
    };
    words = λ j b hj eight hb. kept j b hb (λ five audio. omega (arith, five, eight));
  }
    where
      kept : (j b : ℕ) → b < 80 → (b ≡ 5 → section_at (j % 150) ≡ 3 → ⊥) → get_or g (j * 80 + b) 0 ≡ get_or f (j * 80 + b) 0
      kept j b hb not-it = m.other (j * 80 + b) (λ r hr w e. let is = mode_index (sequences k) c r j b hb e in not-it is.0 is.1)

-- no AS is of two audio channels
one_channel : (n : ℕ) → (n ≡ 10) ⊎ (n ≡ 12) → (c c' r r' : ℕ) → 0 < c → 0 < c' → r < n / 2 → r' < n / 2
    → n * sound_channel c + (sound_first n c + r) ≡ n * sound_channel c' + (sound_first n c' + r') → c ≡ c'
one_channel n half c c' r r' c1 c1' hr hr' e =
    ⊎_elim
    (λ ten. let e' = rw ten at e in omega (arith, e', rw ten at hr, rw ten at hr'))
    (λ twelve. let e' = rw twelve at e in omega (arith, e', rw twelve at hr, rw twelve at hr')) half

-- a sequence of a half is one of a system's
rank_system : (k r : ℕ) → r < sequences k / 2 → k < 4
rank_system k r h =
    by_lt k 4 (λ l. l)
    (λ above. let none : sequences k ≡ 0 = get_or-eq_default {A = ℕ} (10 ∷ 12 ∷ 10 ∷ 12 ∷ []) 0 above in absurd (omega (arith, h, none)))

module _ {k : ℕ} {f : List ℕ} {c : ℕ} {which : ℕ → Bool} {g : List ℕ} (m : Marks k f c which g) where
  abbrev h : ℕ
  h = sound_channel c

  abbrev q : ℕ → ℕ
  q r = sound_first (sequences k) c + r

  -- the channel's AS packs, but for the mode of those that are marked
  own_byte : (r i : ℕ) → r < sequences k / 2 → i < 5 → (i ≡ 2 → which r ≡ false) → as_byte (sequences k) g h (q r) i ≡ as_byte (sequences k) f h (q r) i
  own_byte r i hr hi d =
      m.other (start (sequences k) h (q r) (as_place (q r)) + (3 + i)) (λ r' hr' w e.
      let place = (as_place_lem (q r)).1 in
      let place' = (as_place_lem (q r')).1 in
      let same : r' ≡ r = omega (arith, e, hi, place, place') in
      clash (rw same at w) (d (omega (arith, e, hi))))

  -- their counts
  own_count : (r : ℕ) → r < sequences k / 2 → count_said (sequences k) g h (q r) ≡ count_said (sequences k) f h (q r)
  own_count r hr = ap (λ (x : ℕ). count_by (x % 64)) (own_byte r 1 hr (omega arith) (λ z. absurd (omega (arith, z))))

  -- and their modes
  own_marked : (r : ℕ) → r < sequences k / 2 → which r ≡ true → mode_said (sequences k) g h (q r) ≡ 0xF
  own_marked r hr w = ap (λ (x : ℕ). x % 16) (m.mark r hr w) ∙ omega arith

  own_unmarked : (r : ℕ) → r < sequences k / 2 → which r ≡ false → mode_said (sequences k) g h (q r) ≡ mode_said (sequences k) f h (q r)
  own_unmarked r hr w = ap (λ (x : ℕ). x % 16) (own_byte r 2 hr (omega arith) (λ z. w))

  -- no bit above the mode differs
  pub marks_bits : (r : ℕ) → r < sequences k / 2 → which r ≡ true
      → (as_byte (sequences k) g h (q r) 2 % 16 ≡ 0xF) × (as_byte (sequences k) g h (q r) 2 / 16 ≡ as_byte (sequences k) f h (q r) 2 / 16)
  marks_bits r hr w = (own_marked r hr w, omega (arith, m.mark r hr w))

  -- another channel's AS packs
  pub marks_as : (c' : ℕ) → 0 < c → 0 < c' → c' ≢ c → SameAs k f g c'
  marks_as c' c1 c1' d = record {
    byte = λ r i hr hi.
        let n = sequences k in
        let q' = sound_first n c' + r in
        m.other (start n (sound_channel c') q' (as_place q') + (3 + i)) (λ r' hr' w e.
        let place = (as_place_lem q').1 in
        let place' = (as_place_lem (q r')).1 in
        d (one_channel n (sequences_two k (rank_system k r hr)) c' c r r' c1' c1 hr hr' (omega (arith, e, hi, place, place'))));
  }

-- a channel that is marked already
pub already_marked : (k : ℕ) (f : List ℕ) (c : ℕ) (which : ℕ → Bool)
    → ((r : ℕ) → r < sequences k / 2 → which r ≡ true → mode_said (sequences k) f (sound_channel c) (sound_first (sequences k) c + r) ≡ 0xF) → Marks k f c which f
already_marked k f c which e = record { size = refl; mark = λ r hr w. omega (arith, e r hr w); other = λ i d. refl }

-- ---- audio_table

-- what breaks the rules when it is marked broke them before
unmark : (k c pc0 pc1 pc2 pc3 pc4 : ℕ) → WrongAs k c pc0 pc1 (pc2 / 16 * 16 + 0xF) pc3 pc4 → WrongAs k c pc0 pc1 pc2 pc3 pc4
unmark k c pc0 pc1 pc2 pc3 pc4 (wrong_header d) = wrong_header d
unmark k c pc0 pc1 pc2 pc3 pc4 (wrong_lf l) = wrong_lf l
unmark k c pc0 pc1 pc2 pc3 pc4 (wrong_size d) = wrong_size d
unmark k c pc0 pc1 pc2 pc3 pc4 (wrong_chn l) = wrong_chn (omega (arith, l))
unmark k c pc0 pc1 pc2 pc3 pc4 (wrong_mode d e) = absurd (e (omega arith))
unmark k c pc0 pc1 pc2 pc3 pc4 (wrong_rate d) = wrong_rate d
unmark k c pc0 pc1 pc2 pc3 pc4 (wrong_stype d) = wrong_stype d
unmark k c pc0 pc1 pc2 pc3 pc4 (wrong_smp_qu d) = wrong_smp_qu d

module _ {k : ℕ} {f : List ℕ} {c : ℕ} {which : ℕ → Bool} {g : List ℕ} (m : Marks k f c which g) where
  unmarked_breaks : SomeInHalf (sequences k) c (AsBreaks k g c) → SomeInHalf (sequences k) c (AsBreaks k f c)
  unmarked_breaks b =
      let r = b.r in
      let hr = b.rank in
      let wrong = rw (
        own_byte m r 0 hr (omega arith) (λ z. absurd (omega (arith, z))),
        own_byte m r 1 hr (omega arith) (λ z. absurd (omega (arith, z))),
        own_byte m r 3 hr (omega arith) (λ z. absurd (omega (arith, z))),
        own_byte m r 4 hr (omega arith) (λ z. absurd (omega (arith, z))),
      ) at b.is in
      record {
        r = r;
        rank = hr;
        is = by_bool (which r) (λ w. unmark k c _ _ _ _ _ (rw (m.mark r hr w) at wrong)) (λ w. rw (own_byte m r 2 hr (omega arith) (λ z. w)) at wrong);
      }

  -- of a channel that is read one AS is marked and another is not: 25
  pub some_leads : {room : ℕ} (i j : ℕ) → i < sequences k / 2 → j < sequences k / 2 → which i ≡ true → which j ≡ false
      → mode_said (sequences k) f (sound_channel c) (sound_first (sequences k) c + j) ≢ 0xF → Leads 25 (audio_table k f c room) (audio_table k g c room)
  some_leads i j hi hj wi wj d =
      audio_leads (apart_alike (marks_aaux m).blocks)
      (if_leads 24 (λ z. omega (arith, z)) unmarked_breaks
      (record {
        to = λ e. inl (refl, inr (record { r = i; r' = j; rank = hi; rank' = hj; differ = λ z. d (sym (own_unmarked m j hj wj) ∙ sym z ∙ own_marked m i hi wi) }));
      }))

module _ {k : ℕ} {f : List ℕ} {c : ℕ} {g : List ℕ} (m : Marks k f c every g) where
  unmarked_differ : AsDiffer (sequences k) g c → AsDiffer (sequences k) f c
  unmarked_differ =
      ⊎_elim
      (λ d. inl (differ_to (λ r hr. sym (own_count m r hr)) d))
      (λ d. absurd (d.differ (own_marked m d.r d.rank refl ∙ sym (own_marked m d.r' d.rank' refl))))

  -- a channel that is read is read when all of it is marked
  pub every_leads : {room : ℕ} → Leads 0 (audio_table k f c room) (audio_table k g c room)
  every_leads =
      audio_leads (apart_alike (marks_aaux m).blocks)
      (if_leads 24 (λ z. omega (arith, z)) (unmarked_breaks m) (if_leads 25 (λ z. omega (arith, z)) unmarked_differ (record { to = λ e. e })))

  -- its count stays, and its mode is 1111
  module _ (some : 0 < sequences k / 2) where
    first : sound_first (sequences k) c + 0 ≡ sound_first (sequences k) c
    first = omega arith

    pub marked_count : count_said (sequences k) g (sound_channel c) (sound_first (sequences k) c) ≡ count_said (sequences k) f (sound_channel c) (sound_first (sequences k) c)
    marked_count = rw first at (own_count m 0 some)

    pub marked_mode : mode_said (sequences k) g (sound_channel c) (sound_first (sequences k) c) ≡ 0xF
    marked_mode = rw first at (own_marked m 0 some refl)

-- ---- a frame with AS packs of an audio channel marked: there is one, and no other

module _ (k : ℕ) (f : List ℕ) (c : ℕ) (which : ℕ → Bool) (whole : length f ≡ 48000 * sequences k) (c1 : 0 < c) (c8 : c < 9) where
  -- byte i is no mode's that is marked
  keeps : ℕ → ℕ → Bool
  keeps i r = not (which r && eqb i (mode_byte (sequences k) c r))

  marked_byte : ℕ → ℕ
  marked_byte i = pick (below (keeps i) (sequences k / 2)) (get_or f i 0) (get_or f i 0 / 16 * 16 + 0xF)

  mode_within : (r : ℕ) → r < sequences k / 2 → mode_byte (sequences k) c r < length f
  mode_within r hr =
      let place = (as_place_lem (sound_first (sequences k) c + r)).1 in
      ⊎_elim
      (λ (ten : sequences k ≡ 10). rw ten (omega (arith, whole, ten, rw ten at place, rw ten at hr)))
      (λ (twelve : sequences k ≡ 12). rw twelve (omega (arith, whole, twelve, rw twelve at place, rw twelve at hr))) (sequences_two k (rank_system k r hr))

  mode_marked : (r : ℕ) → r < sequences k / 2 → which r ≡ true
      → marked_byte (mode_byte (sequences k) c r) ≡ get_or f (mode_byte (sequences k) c r) 0 / 16 * 16 + 0xF
  unfolding marked_byte keeps
  mode_marked r hr w =
      let i = mode_byte (sequences k) c r in
      pick_false _ _ (below_fails (keeps i) (sequences k / 2) r hr (rw (w, eq-eqb i i refl) refl))

  other_kept : (i : ℕ) → ((r : ℕ) → r < sequences k / 2 → which r ≡ true → i ≢ mode_byte (sequences k) c r) → marked_byte i ≡ get_or f i 0
  unfolding marked_byte keeps
  other_kept i d =
      pick_true _ _ (below_when (keeps i) (sequences k / 2) (λ r hr. by_bool (which r) (λ w. rw (w, ne_eqb i _ (d r hr w)) refl) (λ w. rw w refl)))

  -- by the byte: that of a mode that is marked, or none
  by_byte : {P : Type 0} (i : ℕ) → (((r : ℕ) → r < sequences k / 2 → which r ≡ true → i ≢ mode_byte (sequences k) c r) → P)
      → ((r : ℕ) → r < sequences k / 2 → which r ≡ true → i ≡ mode_byte (sequences k) c r → P) → P
  unfolding keeps
  by_byte i none one =
      by_bool (below (keeps i) (sequences k / 2))
      (λ e. none (λ r hr w z. clash (both_hold w (eq-eqb i _ z)) (not-true _ (below_means (keeps i) (sequences k / 2) e r hr))))
      (λ e. below_some (keeps i) (sequences k / 2) e (λ r hr n. let two = both_held (which r) (eqb i (mode_byte (sequences k) c r)) (not-false _ n) in one r hr two.0 (eqb-true _ _ two.1)))

  pub marks_one : ExactlyOne (List ℕ) (Marks k f c which)
  marks_one = record {
    outcome = tab marked_byte (length f);
    meets = record {
      size = length_tab marked_byte (length f);
      mark = λ r hr w. tab_at 0 marked_byte (mode_byte (sequences k) c r) (length f) (mode_within r hr) ∙ mode_marked r hr w;
      other = λ i d.
          by_lt i (length f)
          (λ l. tab_at 0 marked_byte i (length f) l ∙ other_kept i d)
          (λ past. get_or-eq_default (tab marked_byte (length f)) 0 (omega (arith, past, length_tab marked_byte (length f))) ∙ sym (get_or-eq_default f 0 past));
    };
    only = λ g m.
        ext_get_or 0 g (tab marked_byte (length f)) (m.size ∙ sym (length_tab marked_byte (length f))) (λ i h.
        let l : i < length f = omega (arith, h, m.size) in
        by_byte i (λ d. m.other i d ∙ sym (other_kept i d)) (λ r hr w e. rw e (m.mark r hr w ∙ sym (mode_marked r hr w)))
        ∙ sym (tab_at 0 marked_byte i (length f) l));
  }
