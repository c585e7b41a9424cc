-- What document 01 lays down of what is lent leaves one frame: it says every byte. Assumes nothing.
use Rattle.std.specs.Prelude.{Option, Some, None}
use mathlib.Core.Path.{◌≡◌, refl, sym, ap, ◌∙◌, subst, ap₂}
use mathlib.Core.Logic.{⊎_elim}
use mathlib.Core.List.{List}
use Prim.Native.Nat.{ℕ, ◌+◌, ◌-◌, ◌*◌, ◌/◌, ◌%◌, ◌≤◌, ◌<◌}
use native.Mathlib.Nat.{mod-lt}
use native.Mathlib.Omega.{arith}
use lib.ListN.{get_or, take, drop}
use lib.Seq.{get_or-take, get_or-drop, ext_get_or}
use borrow.Author.Tests.{ne_eqb}
use Rattle.base.specs.Pick.{pick}
use Rattle.base.proofs.Cases.{by_lt, by_eq}
use Rattle.base.proofs.Parts.{part_part}
use Rattle.paper.specs.declared.System.{System}
use Rattle.paper.specs.declared.Section.{Section}
use Rattle.paper.specs.declared.Section.TheVariants.{Header, Subcode, Vaux, Audio, Video}
use Rattle.rules_format.specs.Systems.{sequences_of, half_of, system_of}
use Rattle.rules_format.specs.Places.{blocks_of, place_in, place, entry_at}
use Rattle.rules_format.specs.Sound.{half_at, audio_at, rank_at, sample_at}
use Rattle.promises.specs.Contents.{Contents}
use Rattle.paper.specs.Bytes.{size_form, ssyb_form, aaux_form}
use Rattle.promises.specs.Form.{time_bytes, group_bytes, size_byte, cut}
use Rattle.paper.specs.Paper.{sequences, positions, start, byte_at, bytes_at, sound_start, count_by, as_pack, slot_place, carried}
use Rattle.promises.specs.Demand2.{LaidOut}
use Rattle.rules_format.proofs.Systems.{half_cases, half_twice, counts_turns, positions_half}
use Rattle.rules_format.proofs.Places.{entry_number_below, place_in_entry}
use Rattle.rules_format.proofs.Blocks.{holds_some}
use Rattle.rules_format.proofs.Sound.{half_some, rank_sample, audio_sample, word_sample, sample_below, dif_audio, sequence_audio, audio_within}
use Rattle.rules_format.proofs.Paper.{Columns, columns}

-- ---- parts of a block

-- a part of a part, and a byte of one
module _ (n : ℕ) (f : List ℕ) (h q p i m : ℕ) where
  pub cut_part : (a o : ℕ) → a + o ≤ m → bytes_at n f h q p (i + a) o ≡ take o (drop a (bytes_at n f h q p i m))
  cut_part a o room =
      let e : start n h q p + (i + a) ≡ start n h q p + i + a = omega arith in
      ap (λ (x : ℕ). take o (drop x f)) e ∙ sym (part_part (start n h q p + i) m a o f room)

  pub cut_byte : (j : ℕ) → j < m → byte_at n f h q p (i + j) ≡ get_or (bytes_at n f h q p i m) j 0
  cut_byte j l =
      let e : start n h q p + (i + j) ≡ start n h q p + i + j = omega arith in
      ap (λ (x : ℕ). get_or f x 0) e ∙ sym (get_or-take m (drop (start n h q p + i) f) j 0 l ∙ get_or-drop (start n h q p + i) f j 0)

-- ---- count_by: a count is said by one size

size_back : (x : ℕ) → (count_by x ≡ 0 → ⊥) → size_form (count_by x) ≡ 0x40 + x
unfolding count_by size_form pick
size_back x d =
    by_eq x 20 (λ e. rw e refl) (λ d20.
    by_eq x 22 (λ e. rw e refl) (λ d22.
    by_eq x 24 (λ e. rw e refl) (λ d24.
    absurd (d (rw (ne_eqb x 20 d20, ne_eqb x 22 d22, ne_eqb x 24 d24) refl)))))

-- ---- two frames

module _ (k : ℕ) (y : System) (known : system_of k ≡ Some y) (l : Contents) (f g : List ℕ) (a : LaidOut k l f) (b : LaidOut k l g) where
  abbrev n : ℕ
  n = sequences k

  abbrev is : Columns k y
  is = columns k y known

  -- a byte of a part that they have in common
  same_byte : (h q p x i m : ℕ) → i ≤ x → x < i + m → cut k f h q p i m ≡ cut k g h q p i m → byte_at n f h q p x ≡ byte_at n g h q p x
  same_byte h q p x i m low high e =
      let at : i + (x - i) ≡ x = omega arith in
      subst (λ (z : ℕ). byte_at n f h q p z ≡ byte_at n g h q p z) at
      (cut_byte n f h q p i m (x - i) (omega arith) ∙ ap (λ (c : List ℕ). get_or c (x - i) 0) e ∙ sym (cut_byte n g h q p i m (x - i) (omega arith)))

  -- ---- subcode

  same_ssyb : (q j : ℕ) → ssyb_form k (time_bytes k f) (group_bytes k f) q j ≡ ssyb_form k (time_bytes k g) (group_bytes k g) q j
  same_ssyb q j = ap₂ (λ (time group : List ℕ). ssyb_form k time group q j) (a.time ∙ sym b.time) (a.group ∙ sym b.group)

  -- ---- AAUX

  same_size : byte_at n f 0 0 54 4 ≡ byte_at n g 0 0 54 4
  unfolding as_pack pick
  same_size =
      let x : ℕ = byte_at n f 0 0 54 4 in
      let z : ℕ = byte_at n g 0 0 54 4 in
      let some = half_some (half_of y) (half_cases y) in
      let said : count_by (x % 64) ≡ count_by (z % 64) = a.count ∙ sym b.count in
      let none : count_by (x % 64) ≡ 0 → ⊥ = λ e.
      ⊎_elim (λ (o : count_by (x % 64) ≡ _). omega (arith, some, (counts_turns y).0, sym e ∙ o ∙ is.fewer_is)) (λ (o : count_by (x % 64) ≡ _). omega (arith, some, (counts_turns y).1, sym e ∙ o ∙ is.more_is)) a.form.own in
      let same : 0x40 + x % 64 ≡ 0x40 + z % 64 = sym (size_back (x % 64) none) ∙ ap size_form said ∙ size_back (z % 64) (λ e. none (said ∙ e)) in
      omega (arith, same, a.form.lf, b.form.lf)

  same_aaux : (q j : ℕ) → aaux_form k (size_byte k f) q j ≡ aaux_form k (size_byte k g) q j
  same_aaux q j = ap (λ (size : ℕ). aaux_form k size q j) same_size

  -- ---- sound

  -- the two bytes of a position
  same_high : (c t : ℕ) → 0 < c → c < 9 → t < positions k → get_or f (sound_start n c t) 0 ≡ get_or g (sound_start n c t) 0
  same_high c t c1 c8 ht =
      by_lt t l.count
      (λ below. a.high c t c1 c8 below ∙ sym (b.high c t c1 c8 below))
      (λ past. omega (arith, a.form.tails c t c1 c8 (omega (arith, a.count)) ht, b.form.tails c t c1 c8 (omega (arith, b.count)) ht))

  same_low : (c t : ℕ) → 0 < c → c < 9 → t < positions k → get_or f (sound_start n c t + 1) 0 ≡ get_or g (sound_start n c t + 1) 0
  same_low c t c1 c8 ht =
      by_lt t l.count
      (λ below. a.low c t c1 c8 below ∙ sym (b.low c t c1 c8 below))
      (λ past. omega (arith, a.form.tails c t c1 c8 (omega (arith, a.count)) ht, b.form.tails c t c1 c8 (omega (arith, b.count)) ht))

  -- word w of block A(j) is that of a position
  module _ (h q j w : ℕ) (hh : h < 4) (hq : q < sequences_of y) (hj : j < 9) (hw : w < 36) where
    abbrev s : ℕ
    s = half_of y

    abbrev c : ℕ
    c = audio_at (half_of y) h q

    abbrev t : ℕ
    t = sample_at (half_of y) (rank_at (half_of y) q) j w

    q_below : q < 2 * half_of y
    q_below = omega (arith, half_twice y)

    rank_in : rank_at (half_of y) q < half_of y
    rank_in = mod-lt q (half_some (half_of y) (half_cases y))

    t_below : t < positions k
    t_below = omega (arith, is.positions_is, positions_half y, sample_below (half_of y) (half_cases y) (rank_at (half_of y) q) j rank_in hj w hw)

    start_is : sound_start n c t ≡ start n h q (6 + 16 * j) + (8 + 2 * w)
    unfolding half_of
    start_is =
        let channel = dif_audio (half_of y) h q (half_cases y) q_below in
        let sequence = ap (λ (r : ℕ). half_of y * half_at c + r) (rank_sample (half_of y) (half_cases y) (rank_at (half_of y) q) j rank_in hj w) ∙ sequence_audio (half_of y) h q (half_cases y) q_below in
        let audio = audio_sample (half_of y) (half_cases y) (rank_at (half_of y) q) j rank_in hj w in
        let word = word_sample (half_of y) (half_cases y) (rank_at (half_of y) q) j rank_in hj w in
        ap (λ (m : ℕ). sound_start m c t) is.sequences_is
        ∙ (λ i. ((sequences_of y * channel i + sequence i) * 150 + (6 + 16 * audio i)) * 80 + (8 + 2 * word i))
        ∙ ap (λ (m : ℕ). start m h q (6 + 16 * j) + (8 + 2 * w)) (sym is.sequences_is)

    same_word : (x : ℕ) → x < 2 → byte_at n f h q (6 + 16 * j) (8 + 2 * w + x) ≡ byte_at n g h q (6 + 16 * j) (8 + 2 * w + x)
    same_word x hx =
        let within = audio_within (half_of y) h q (half_cases y) q_below hh in
        by_eq x 0
        (λ z.
        let at : sound_start n c t ≡ start n h q (6 + 16 * j) + (8 + 2 * w + x) = omega (arith, start_is, z) in
        subst (λ (i : ℕ). get_or f i 0 ≡ get_or g i 0) at (same_high c t within.0 within.1 t_below))
        (λ d.
        let at : sound_start n c t + 1 ≡ start n h q (6 + 16 * j) + (8 + 2 * w + x) = omega (arith, start_is, d) in
        subst (λ (i : ℕ). get_or f i 0 ≡ get_or g i 0) at (same_low c t within.0 within.1 t_below))

  -- ---- picture

  same_slot : (h q u m : ℕ) → h < 4 → q < n → u < 27 → m < 5 → (c : Option ℕ) → carried k h q u m ≡ c → cut k f h q (slot_place (5 * u + m)) 3 77 ≡ cut k g h q (slot_place (5 * u + m)) 3 77
  same_slot h q u m hh hq hu hm (Some v) e = a.macroblock h q u m v hh hq hu hm e ∙ sym (b.macroblock h q u m v hh hq hu hm e)
  same_slot h q u m hh hq hu hm None e = a.form.empty h q u m hh hq hu hm e ∙ sym (b.form.empty h q u m hh hq hu hm e)

  -- ---- all

  module _ (h q : ℕ) (hh : h < 4) (hq : q < n) where
    -- byte x behind an ID
    behind_same : (s : Section) (j : ℕ) → j < blocks_of s → (x : ℕ) → 3 ≤ x → x < 80 → byte_at n f h q (place_in s j) x ≡ byte_at n g h q (place_in s j) x
    behind_same Header j hj x low high =
        let z : j ≡ 0 = omega arith in
        rw z (same_byte h q 0 x 3 77 low high (a.form.headers h q hh hq ∙ sym (b.form.headers h q hh hq)))
    behind_same Subcode j hj x low high =
        by_lt x 51
        (λ below.
        let i : ℕ = 6 * j + (x - 3) / 8 in
        let sc : i / 6 ≡ j = omega arith in
        subst (λ (p : ℕ). byte_at n f h q (1 + p) x ≡ byte_at n g h q (1 + p) x) sc
        (same_byte h q (1 + i / 6) x (3 + 8 * (i % 6)) 8 (omega arith) (omega arith)
        (a.form.ssybs h q i hh hq (omega arith) ∙ same_ssyb q i ∙ sym (b.form.ssybs h q i hh hq (omega arith)))))
        (λ past. same_byte h q (1 + j) x 51 29 past high (a.form.subcode_ones h q j hh hq hj ∙ sym (b.form.subcode_ones h q j hh hq hj)))
    behind_same Vaux j hj x low high =
        by_lt x 78
        (λ below.
        let i : ℕ = 15 * j + (x - 3) / 5 in
        let va : i / 15 ≡ j = omega arith in
        subst (λ (p : ℕ). byte_at n f h q (3 + p) x ≡ byte_at n g h q (3 + p) x) va
        (same_byte h q (3 + i / 15) x (3 + 5 * (i % 15)) 5 (omega arith) (omega arith)
        (a.form.vaux h q i hh hq (omega arith) ∙ sym (b.form.vaux h q i hh hq (omega arith)))))
        (λ past. same_byte h q (3 + j) x 78 2 past high (a.form.vaux_ones h q j hh hq hj ∙ sym (b.form.vaux_ones h q j hh hq hj)))
    behind_same Audio j hj x low high =
        by_lt x 8
        (λ below. same_byte h q (6 + 16 * j) x 3 5 low below (a.form.aaux h q j hh hq hj ∙ same_aaux q j ∙ sym (b.form.aaux h q j hh hq hj)))
        (λ past.
        let at : 8 + 2 * ((x - 8) / 2) + (x - 8) % 2 ≡ x = omega arith in
        subst (λ (z : ℕ). byte_at n f h q (6 + 16 * j) z ≡ byte_at n g h q (6 + 16 * j) z) at
        (same_word h q j ((x - 8) / 2) hh (subst (λ (m : ℕ). q < m) is.sequences_is hq) hj (omega arith) ((x - 8) % 2) (omega arith)))
    behind_same Video j hj x low high =
        let v : 5 * (j / 5) + j % 5 ≡ j = omega arith in
        subst (λ (p : ℕ). byte_at n f h q (slot_place p) x ≡ byte_at n g h q (slot_place p) x) v
        (same_byte h q (slot_place (5 * (j / 5) + j % 5)) x 3 77 low high
        (same_slot h q (j / 5) (j % 5) hh hq (omega arith) (omega arith) (carried k h q (j / 5) (j % 5)) refl))

    byte_same : (p x : ℕ) → p < 150 → x < 80 → byte_at n f h q p x ≡ byte_at n g h q p x
    byte_same p x hp hx =
        by_lt x 3
        (λ id. same_byte h q p x 0 3 (omega arith) id (a.form.ids h q p hh hq hp ∙ sym (b.form.ids h q p hh hq hp)))
        (λ behind.
        subst (λ (z : ℕ). byte_at n f h q z x ≡ byte_at n g h q z x) (place_in_entry p hp)
        (behind_same (entry_at (place p)).section (entry_at (place p)).number.0 (entry_number_below p hp) x behind hx))

  pub laid_out_one : f ≡ g
  laid_out_one =
      ext_get_or 0 f g (a.form.size ∙ sym b.form.size) (λ i below.
      let w = holds_some y i (omega (arith, below, a.form.size, is.sequences_is)) in
      let at : start n (i / 80 / 150 / sequences_of y) (i / 80 / 150 % sequences_of y) (i / 80 % 150) + i % 80 ≡ i =
      ap (λ (m : ℕ). start m (i / 80 / 150 / sequences_of y) (i / 80 / 150 % sequences_of y) (i / 80 % 150) + i % 80) is.sequences_is ∙ sym w.is in
      subst (λ (j : ℕ). get_or f j 0 ≡ get_or g j 0) at
      (byte_same _ _ w.channel (subst (λ (m : ℕ). i / 80 / 150 % sequences_of y < m) (sym is.sequences_is) w.sequence) _ _ w.place w.offset))
