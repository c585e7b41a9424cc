-- What a frame in the writer's form holds, and that with one audio channel exchanged the writer takes it. Assumes nothing.
use mathlib.Core.Path.{◌≡◌, refl, sym, ap, ◌∙◌}
use mathlib.Core.List.{List}
use mathlib.Core.Logic.{inl, inr, ⊎_elim, ◌≢◌}
use Prim.Native.Nat.{ℕ, ◌+◌, ◌-◌, ◌*◌, ◌/◌, ◌%◌, ◌≤◌, ◌<◌}
use native.Mathlib.Omega.{arith}
use lib.IntN.{ℤ, pos, negsuc}
use lib.ListN.{length, get_or}
use borrow.Author.Tests.{le-leb, lt-leb, eq-eqb, ne_eqb}
use Rattle.base.specs.Calls.{ExactlyOne}
use Rattle.base.specs.Pick.{pick}
use Rattle.base.specs.Put.{put_at}
use Rattle.base.proofs.Cases.{by_lt, by_eq}
use Rattle.base.proofs.Parts.{length_part}
use Rattle.base.proofs.Puts.{put_length, put_before, put_here, put_after}
use Rattle.base.proofs.Runs.{end_within}
use Rattle.paper.specs.Paper.{sequences, macroblocks, rate, start, byte_at, bytes_at, sound_start, sound_word, sample_by, word_by}
use Rattle.paper.specs.Bytes.{OwnCount, WrongClock, WrongTime}
use Rattle.promises.specs.Contents.{Contents}
use Rattle.promises.specs.Form.{HasForm}
use Rattle.promises.specs.Demand2.{given, LaidOut}
use Rattle.promises.specs.Refusals.{Outside, SomeOutside, WrongFirst, time_table, write_table}
use Rattle.promises.specs.Refusals.WrongFirst.{wrong_digit}
use Rattle.promises.specs.Commentary.{SoundBytes, FrameHolds, Changed}
use Rattle.promises.proofs.Tables.{row_past, row_on}
use Rattle.promises.proofs.Apart.{some_sequence}
use Rattle.promises.proofs.LaidOut.{cut_byte}
use Rattle.promises.proofs.One.{by_position, channels_one}

-- ---- sample_by: a word is told from its sample

pub word_again : (w : ℕ) → w < 65536 → word_by (sample_by w) ≡ w
unfolding sample_by word_by pick
word_again w h =
    by_lt 0x8000 w
    (λ above. let v : 0xFFFF - w ≢ 32767 = omega arith in rw (lt-leb w 0x8000 above, ne_eqb (0xFFFF - w) 32767 v) (omega arith))
    (λ low. rw (le-leb w 0x8000 low) refl)

-- and is in range
sample_inside : (w : ℕ) → w < 65536 → Outside (sample_by w) → ⊥
unfolding sample_by pick
sample_inside w h =
    by_lt 0x8000 w
    (λ above. rw (lt-leb w 0x8000 above) (λ o. omega arith))
    (λ low. rw (le-leb w 0x8000 low) (λ o. omega arith))

-- and a number in range has a word below 65,536
word_small : (z : ℤ) → (Outside z → ⊥) → word_by z < 65536
unfolding word_by pick
word_small (pos v) inside = by_lt 32768 v (λ above. absurd (inside above)) (λ low. omega arith)
word_small (negsuc v) inside =
    by_eq v 32767 (λ e. rw (eq-eqb v 32767 e) (omega arith)) (λ d. rw (ne_eqb v 32767 d) (omega arith))

-- ---- FrameHolds: a frame in the form is laid out of what it holds

module _ {k : ℕ} {f : List ℕ} {l : Contents} (form : HasForm k f) (bytes : SoundBytes k f) (holds : FrameHolds k f l) (c t : ℕ) (c1 : 0 < c) (c8 : c < 9) (h : t < l.count) where
  abbrev at : ℕ
  at = sound_start (sequences k) c t

  low_byte : get_or f (at + 1) 0 < 256
  low_byte = bytes.low c t c1 c8 (omega (arith, h, holds.count))

  stored_small : sound_word (sequences k) f c t < 65536
  stored_small = omega (arith, bytes.high c t c1 c8 (omega (arith, h, holds.count)), low_byte)

  stored_word_lem : word_by (given l c t) ≡ sound_word (sequences k) f c t
  stored_word_lem = ap word_by (holds.sample c t c1 c8 h) ∙ word_again _ stored_small

pub held_laid : {k : ℕ} {f : List ℕ} {l : Contents} → HasForm k f → SoundBytes k f → FrameHolds k f l → LaidOut k l f
held_laid form bytes holds = record {
  form = form;
  count = sym holds.count;
  time = sym holds.time;
  group = sym holds.group;
  high = λ c t c1 c8 h. omega (arith, stored_word_lem form bytes holds c t c1 c8 h, low_byte form bytes holds c t c1 c8 h);
  low = λ c t c1 c8 h. omega (arith, stored_word_lem form bytes holds c t c1 c8 h, low_byte form bytes holds c t c1 c8 h);
  macroblock = λ h q g m b hh hq hg hm e. sym (holds.macroblock h q g m b hh hq hg hm e);
}

-- ---- SoundBytes: what is laid out of numbers in range has them

pub laid_bytes : {k : ℕ} {f : List ℕ} {l : Contents} → LaidOut k l f → ((c t : ℕ) → 0 < c → c < 9 → t < l.count → Outside (given l c t) → ⊥) → SoundBytes k f
laid_bytes {k} {f} {l} laid inside = record {
  high = λ c t c1 c8 h.
      let h' : t < l.count = omega (arith, h, laid.count) in
      omega (arith, laid.high c t c1 c8 h', word_small (given l c t) (inside c t c1 c8 h'));
  low = λ c t c1 c8 h. let h' : t < l.count = omega (arith, h, laid.count) in omega (arith, laid.low c t c1 c8 h');
}

-- ---- write_table: what gives 0

-- the number of a position in the lent slice
slice_below : (l : Contents) (c t : ℕ) → 0 < c → c < 9 → length l.sound ≡ 8 * l.count → t < l.count → (c - 1) * l.count + t < length l.sound
slice_below l c t c1 c8 sounds h = let b : c - 1 < 8 = omega arith in omega (arith, h, sounds, end_within l.count (c - 1) 8 b)

-- a number of a lent slice is that of a position of an audio channel
inside_all : (l : Contents) → length l.sound ≡ 8 * l.count → ((c t : ℕ) → 0 < c → c < 9 → t < l.count → Outside (given l c t) → ⊥) → SomeOutside l.sound → ⊥
inside_all l sounds inside o =
    by_position (λ (i : ℕ). Outside (get_or l.sound i (pos 0)) → ⊥) l.count inside o.i (omega (arith, o.within, sounds)) o.outside

write_zero : (k : ℕ) (l : Contents) (size : ℕ) → k < 4 → size ≡ 48000 * sequences k → OwnCount k l.count → length l.sound ≡ 8 * l.count
    → length l.macroblocks ≡ 77 * macroblocks k → length l.time_code ≡ 4 → length l.binary_group ≡ 4
    → ((c t : ℕ) → 0 < c → c < 9 → t < l.count → Outside (given l c t) → ⊥) → (WrongTime k l.time_code → ⊥) → write_table k l size 0
write_zero k l size below whole own sounds pictures time group inside right =
    row_on (λ above. omega (arith, above, below))
    (row_on (λ d. d whole)
    (row_on (λ d. d own)
    (row_on (⊎_elim (λ d. d sounds) (⊎_elim (λ d. d pictures) (⊎_elim (λ d. d time) (λ d. d group))))
    (row_on (inside_all l sounds inside) (row_on right refl)))))

-- and what it says of the samples
pub taken_inside : {k : ℕ} (l : Contents) {size : ℕ} → write_table k l size 0 → (c t : ℕ) → 0 < c → c < 9 → t < l.count → Outside (given l c t) → ⊥
taken_inside l taken c t c1 c8 h o =
    let four =
    row_past (λ e. omega (arith, e)) (row_past (λ e. omega (arith, e)) (row_past (λ e. omega (arith, e)) (row_past (λ e. omega (arith, e)) taken).1).1).1 in
    by_eq (length l.sound) (8 * l.count)
    (λ sounds.
    (row_past (λ e. omega (arith, e)) four.1).0 (record { i = (c - 1) * l.count + t; within = slice_below l c t c1 c8 sounds h; outside = o }))
    (λ d. absurd (four.0 (inl d)))

-- ---- time_table: where it gives 0, the time code of the frame keeps the rules

time_right : {k : ℕ} {f : List ℕ} → time_table k f 0 → WrongFirst k f → ⊥
time_right {k} {f} t =
    let two = row_past (λ e. omega (arith, e)) (row_past (λ e. omega (arith, e)) t).1 in
    let clean = ⊎_elim (λ a. absurd (a.some refl)) (λ p. p.1) two.1 in
    let flags = row_past (λ e. omega (arith, e)) (row_past (λ e. omega (arith, e)) clean).1 in
    (row_past (λ e. omega (arith, e)) (row_past (λ e. omega (arith, e)) flags.1).1).0

-- what a frame holds is taken, where its time code is read
pub held_taken : {k : ℕ} {f : List ℕ} {l : Contents} → k < 4 → HasForm k f → SoundBytes k f → FrameHolds k f l → time_table k f 0
    → (size : ℕ) → size ≡ 48000 * sequences k → write_table k l size 0
held_taken {k} {f} {l} below form bytes holds read size whole =
    let n : ℕ = sequences k in
    let some = (some_sequence k below).0 in
    let four : (i : ℕ) → i < 76 → length (bytes_at n f 0 0 1 i 4) ≡ 4 = λ i h. length_part (start n 0 0 1 + i) 4 f (omega (arith, form.size, some, h)) in
    let digit : (j : ℕ) → j < 4 → get_or l.time_code j 0 ≡ byte_at n f 0 0 1 (31 + j) = λ j h. rw holds.time (sym (cut_byte n f 0 0 1 31 4 j h)) in
    write_zero k l size below whole (rw holds.count form.own) holds.sounds holds.pictures (rw holds.time (four 31 (omega arith))) (rw holds.group (four 39 (omega arith)))
    (λ c t c1 c8 h. rw (holds.sample c t c1 c8 h) (sample_inside _ (stored_small form bytes holds c t c1 c8 h)))
    (⊎_elim
    (λ (bit : (rate k ≡ 1) × (get_or l.time_code 0 0 / 64 % 2 ≢ 1)). bit.1 (ap (λ (b : ℕ). b / 64 % 2) (digit 0 (omega arith)) ∙ form.bit_6 bit.0))
    (λ (clock : WrongClock k _ _ _ _).
    time_right read (wrong_digit (rw (digit 0 (omega arith), digit 1 (omega arith), digit 2 (omega arith), digit 3 (omega arith)) at clock))))

-- ---- Changed: there are such contents, and no others; and what was taken is taken with other samples

abbrev exchanged_in : Contents → ℕ → List ℤ → Contents
exchanged_in l c samples = record {
  count = l.count;
  sound = put_at ((c - 1) * l.count) samples l.sound;
  macroblocks = l.macroblocks;
  time_code = l.time_code;
  binary_group = l.binary_group;
}

module _ (l : Contents) (c : ℕ) (samples : List ℤ) (c1 : 0 < c) (c8 : c < 9) (many : length samples ≡ l.count) (sounds : length l.sound ≡ 8 * l.count) where
  fits : (c - 1) * l.count + length samples ≤ length l.sound
  fits = let b : c - 1 < 8 = omega arith in omega (arith, many, sounds, end_within l.count (c - 1) 8 b)

  some_changed : Changed l c samples (exchanged_in l c samples)
  some_changed = record {
    count = refl;
    sounds = put_length ((c - 1) * l.count) samples l.sound fits;
    sample = λ t h. put_here ((c - 1) * l.count) samples l.sound fits (pos 0) t (omega (arith, many));
    others = λ d t d1 d8 ne h.
        by_lt d c
        (λ lt.
        let e : d - 1 < c - 1 = omega arith in
        put_before ((c - 1) * l.count) samples l.sound fits (pos 0) ((d - 1) * l.count + t) (omega (arith, end_within l.count (d - 1) (c - 1) e)))
        (λ ge.
        let e : c - 1 < d - 1 = omega (arith, ne) in
        put_after ((c - 1) * l.count) samples l.sound fits (pos 0) ((d - 1) * l.count + t) (omega (arith, many, end_within l.count (c - 1) (d - 1) e)));
    macroblocks = refl;
    time = refl;
    group = refl;
  }

  -- and no others
  changed_one : {l₁ l₂ : Contents} → Changed l c samples l₁ → Changed l c samples l₂ → l₁ ≡ l₂
  changed_one {l₁} {l₂} a b =
      let count : l₁.count ≡ l₂.count = a.count ∙ sym b.count in
      let sound : l₁.sound ≡ l₂.sound =
      channels_one l.count (a.sounds ∙ sounds) (b.sounds ∙ sounds) (λ d t d1 d8 h.
      let one : (l₃ : Contents) → Changed l c samples l₃ → get_or l₃.sound ((d - 1) * l.count + t) (pos 0) ≡ given l₃ d t =
      λ l₃ m. ap (λ (n : ℕ). get_or l₃.sound ((d - 1) * n + t) (pos 0)) (sym m.count) in
      one l₁ a
      ∙ by_eq d c (λ own. rw own (a.sample t h ∙ sym (b.sample t h))) (λ ne. a.others d t d1 d8 ne h ∙ sym (b.others d t d1 d8 ne h))
      ∙ sym (one l₂ b)) in
      λ i. record {
        count = count i;
        sound = sound i;
        macroblocks = (a.macroblocks ∙ sym b.macroblocks) i;
        time_code = (a.time ∙ sym b.time) i;
        binary_group = (a.group ∙ sym b.group) i;
      }

  pub changed_exactly : ExactlyOne Contents (Changed l c samples)
  changed_exactly = record { outcome = exchanged_in l c samples; meets = some_changed; only = λ o m. changed_one m some_changed }

  pub changed_taken : (k : ℕ) (l' : Contents) (size : ℕ) → Changed l c samples l' → (SomeOutside samples → ⊥) → write_table k l size 0 → write_table k l' size 0
  changed_taken k l' size changed inside taken =
      let one = row_past (λ e. omega (arith, e)) taken in
      let two = row_past (λ e. omega (arith, e)) one.1 in
      let three = row_past (λ e. omega (arith, e)) two.1 in
      let four = row_past (λ e. omega (arith, e)) three.1 in
      let five = row_past (λ e. omega (arith, e)) four.1 in
      let six = row_past (λ e. omega (arith, e)) five.1 in
      let sounds' : length l'.sound ≡ 8 * l'.count = changed.sounds ∙ sounds ∙ ap (λ (n : ℕ). 8 * n) (sym changed.count) in
      row_on one.0
      (row_on two.0
      (row_on (rw changed.count three.0)
      (row_on
      (⊎_elim (λ d. d sounds')
      (⊎_elim (λ d. four.0 (inr (inl (rw changed.macroblocks at d))))
      (⊎_elim (λ d. four.0 (inr (inr (inl (rw changed.time at d))))) (λ d. four.0 (inr (inr (inr (rw changed.group at d))))))))
      (row_on
      (inside_all l' sounds' (λ d t d1 d8 h o.
      let h' : t < l.count = omega (arith, h, changed.count) in
      by_eq d c
      (λ own. inside (record { i = t; within = omega (arith, h', many); outside = rw (changed.sample t h') at (rw own at o) }))
      (λ ne. five.0 (record { i = (d - 1) * l.count + t; within = slice_below l d t d1 d8 sounds h'; outside = rw (changed.others d t d1 d8 ne h') at o }))))
      (row_on (rw changed.time six.0) refl)))))
