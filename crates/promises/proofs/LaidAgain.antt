-- A frame that is laid out of contents, with one audio channel exchanged, is laid out of the changed contents. Assumes nothing.
use Rattle.std.specs.Prelude.{Some}
use mathlib.Core.Path.{◌≡◌, refl, sym, ap, ap₂, ◌∙◌}
use mathlib.Core.List.{List}
use mathlib.Core.Logic.{◌≢◌}
use Prim.Native.Nat.{ℕ, ◌+◌, ◌*◌, ◌/◌, ◌%◌, ◌≤◌, ◌<◌}
use native.Mathlib.Omega.{arith}
use lib.Dec.{ltb}
use lib.IntN.{ℤ}
use lib.ListN.{length, get_or}
use borrow.Author.Tests.{eq-eqb}
use Rattle.base.specs.Pick.{pick}
use Rattle.base.proofs.Cases.{by_eq}
use Rattle.base.proofs.Picks.{pick_either}
use Rattle.paper.specs.declared.System.{System}
use Rattle.paper.specs.Paper.{sequences, positions, byte_at, sound_channel, sound_first, word_by, count_by, count_said, as_pack, as_place, slot_place}
use Rattle.paper.specs.Bytes.{half_in, ssyb_form, aaux_form}
use Rattle.promises.specs.Contents.{Contents}
use Rattle.promises.specs.Form.{cut, time_bytes, group_bytes, size_byte, HasForm}
use Rattle.promises.specs.Demand2.{LaidOut}
use Rattle.promises.specs.Refusals.{count_stored, mode_stored}
use Rattle.promises.specs.Commentary.{Exchanged, Changed}
use Rattle.rules_format.specs.Systems.{system_of}
use Rattle.rules_format.proofs.Paper.{known_below}
use Rattle.promises.proofs.Apart.{Alike, apart_alike, bytes_alike, bytes_same, low_same, low_section, slot_section, some_sequence, rank_below}
use Rattle.promises.proofs.LaidOut.{cut_byte}
use Rattle.promises.proofs.Commentary.{head_same, exchanged_apart, high_else, low_else, word_else}

-- ---- HasForm: every AS says one size

as_below : (q : ℕ) → as_pack q < 9
unfolding as_pack
as_below q = pick_either (λ (a : ℕ). a < 9) _ (omega arith) (omega arith)

-- the first sequence of a half
first_below : (k c : ℕ) → k < 4 → sound_first (sequences k) c < sequences k
first_below k c h = omega (arith, rank_below (sequences k) c 0 (some_sequence k h).1)

size_said : {k : ℕ} {f : List ℕ} → HasForm k f → (h q : ℕ) → h < 4 → q < sequences k → byte_at (sequences k) f h q (as_place q) 4 ≡ size_byte k f
unfolding aaux_form pick
size_said {k} {f} form h q hh hq =
    cut_byte (sequences k) f h q (as_place q) 3 5 1 (omega arith)
    ∙ ap (λ (l : List ℕ). get_or l 1 0) (form.aaux h q (as_pack q) hh hq (as_below q))
    ∙ rw (eq-eqb (as_pack q) (as_pack q) refl) refl

half_below : (k q : ℕ) → half_in k q < 2
half_below k q = pick_either (λ (x : ℕ). x < 2) (ltb q (sequences k / 2)) (omega arith) (omega arith)

-- no AS is marked
pub form_mode : {k : ℕ} {f : List ℕ} → HasForm k f → k < 4 → (c : ℕ) → c < 9 → mode_stored k f c ≢ 0xF
unfolding aaux_form pick
form_mode {k} {f} form below c c8 m =
    let h : ℕ = sound_channel c in
    let q : ℕ = sound_first (sequences k) c in
    let said : byte_at (sequences k) f h q (as_place q) 5 ≡ 0x10 + half_in k q =
    cut_byte (sequences k) f h q (as_place q) 3 5 2 (omega arith)
    ∙ ap (λ (l : List ℕ). get_or l 2 0) (form.aaux h q (as_pack q) (omega arith) (first_below k c below) (as_below q))
    ∙ rw (eq-eqb (as_pack q) (as_pack q) refl) refl in
    omega (arith, m, said, half_below k q)

pub form_count : {k : ℕ} {f : List ℕ} → HasForm k f → k < 4 → (c : ℕ) → c < 9 → count_stored k f c ≡ count_said (sequences k) f 0 0
form_count {k} form below c c8 =
    let said : ℕ → ℕ = λ size. count_by (size % 64) in
    ap said (size_said form (sound_channel c) (sound_first (sequences k) c) (omega arith) (first_below k c below))
    ∙ sym (ap said (size_said form 0 0 (omega arith) (some_sequence k below).0))

-- ---- HasForm, LaidOut: the frame after

module _ {k : ℕ} {f : List ℕ} {c : ℕ} {samples : List ℤ} {g : List ℕ} (x : Exchanged k f c samples g) (y : System) (known : system_of k ≡ Some y) (c1 : 0 < c) (c8 : c < 9)
    (few : count_stored k f c ≤ positions k) (form : HasForm k f) where
  abbrev n : ℕ
  n = sequences k

  below : k < 4
  below = known_below k y known

  some : 0 < sequences k
  some = (some_sequence k below).0

  -- bytes before the words
  heads : (h q p i m : ℕ) → h < 4 → q < n → p < 150 → i + m ≤ 8 → cut k g h q p i m ≡ cut k f h q p i m
  heads h q p i m hh hq hp hi =
      bytes_alike f g x.size form.size h q p i m hh hq hp (omega arith) (λ b l. head_same x y known c1 c8 few ((n * h + q) * 150 + p) (i + b) (omega arith))

  like : Alike k f g
  like = apart_alike (exchanged_apart x y known c1 c8 few)

  -- bytes of the first six blocks
  lows : (h q p i m : ℕ) → h < 4 → q < n → p < 6 → 3 ≤ i → i + m ≤ 80 → cut k g h q p i m ≡ cut k f h q p i m
  lows h q p i m hh hq hp low hi = bytes_same like form.size h q p i m hh hq (omega arith) low hi (low_section p hp)

  slots : (h q u m : ℕ) → h < 4 → q < n → u < 27 → m < 5 → cut k g h q (slot_place (5 * u + m)) 3 77 ≡ cut k f h q (slot_place (5 * u + m)) 3 77
  slots h q u m hh hq hu hm =
      let v : 5 * u + m < 135 = omega arith in
      bytes_same like form.size h q (slot_place (5 * u + m)) 3 77 hh hq (omega arith) (omega arith) (omega arith) (slot_section (5 * u + m) v)

  same_time : time_bytes k g ≡ time_bytes k f
  same_time = lows 0 0 1 31 4 (omega arith) some (omega arith) (omega arith) (omega arith)

  same_group : group_bytes k g ≡ group_bytes k f
  same_group = lows 0 0 1 39 4 (omega arith) some (omega arith) (omega arith) (omega arith)

  same_size : size_byte k g ≡ size_byte k f
  same_size = head_same x y known c1 c8 few ((n * 0 + 0) * 150 + 54) 4 (omega arith)

  same_count : count_said n g 0 0 ≡ count_said n f 0 0
  unfolding as_pack pick
  same_count = ap (λ (size : ℕ). count_by (size % 64)) same_size

  count_is : count_stored k f c ≡ count_said n f 0 0
  count_is = form_count form below c c8

  pub form_again : HasForm k g
  form_again = record {
    size = x.size ∙ form.size;
    ids = λ h q p hh hq hp. heads h q p 0 3 hh hq hp (omega arith) ∙ form.ids h q p hh hq hp;
    headers = λ h q hh hq. lows h q 0 3 77 hh hq (omega arith) (omega arith) (omega arith) ∙ form.headers h q hh hq;
    ssybs = λ h q j hh hq hj.
        lows h q (1 + j / 6) (3 + 8 * (j % 6)) 8 hh hq (omega arith) (omega arith) (omega arith) ∙ form.ssybs h q j hh hq hj
        ∙ ap₂ (λ (time group : List ℕ). ssyb_form k time group q j) (sym same_time) (sym same_group);
    subcode_ones = λ h q j hh hq hj. lows h q (1 + j) 51 29 hh hq (omega arith) (omega arith) (omega arith) ∙ form.subcode_ones h q j hh hq hj;
    bit_6 = λ e. ap (λ (b : ℕ). b / 64 % 2) (low_same like 0 0 1 31 (omega arith) some (omega arith) (omega arith) (omega arith)) ∙ form.bit_6 e;
    vaux = λ h q j hh hq hj. lows h q (3 + j / 15) (3 + 5 * (j % 15)) 5 hh hq (omega arith) (omega arith) (omega arith) ∙ form.vaux h q j hh hq hj;
    vaux_ones = λ h q j hh hq hj. lows h q (3 + j) 78 2 hh hq (omega arith) (omega arith) (omega arith) ∙ form.vaux_ones h q j hh hq hj;
    aaux = λ h q a hh hq ha.
        heads h q (6 + 16 * a) 3 5 hh hq (omega arith) (omega arith) ∙ form.aaux h q a hh hq ha ∙ ap (λ (size : ℕ). aaux_form k size q a) (sym same_size);
    lf = ap (λ (size : ℕ). size / 64) same_size ∙ form.lf;
    own = rw same_count form.own;
    tails = λ d t d1 d8 past ht.
        let past' : count_said n f 0 0 ≤ t = omega (arith, past, same_count) in
        word_else x y known c1 c8 few d t d1 d8 ht (λ e. omega (arith, past', count_is)) ∙ form.tails d t d1 d8 past' ht;
    empty = λ h q u m hh hq hu hm e. slots h q u m hh hq hu hm ∙ form.empty h q u m hh hq hu hm e;
  }

pub laid_again : {k : ℕ} {l l' : Contents} {f : List ℕ} {c : ℕ} {samples : List ℤ} {g : List ℕ} → Exchanged k f c samples g → (y : System) → system_of k ≡ Some y → 0 < c → c < 9
    → count_stored k f c ≤ positions k → LaidOut k l f → Changed l c samples l' → LaidOut k l' g
laid_again {k} {l} {l'} {f} {c} {samples} {g} x y known c1 c8 few laid changed =
    let form = laid.form in
    let n : ℕ = sequences k in
    let count : count_stored k f c ≡ l.count = count_is x y known c1 c8 few form ∙ laid.count in
    let in_count : (t : ℕ) → t < l'.count → t < l.count = λ t h. omega (arith, h, changed.count) in
    let stored : (t : ℕ) → t < l.count → t < length samples = λ t h. omega (arith, h, count, x.count) in
    let position : (t : ℕ) → t < l.count → t < positions k = λ t h. omega (arith, h, count, few) in
    record {
      form = form_again x y known c1 c8 few form;
      count = same_count x y known c1 c8 few form ∙ laid.count ∙ sym changed.count;
      time = same_time x y known c1 c8 few form ∙ laid.time ∙ sym changed.time;
      group = same_group x y known c1 c8 few form ∙ laid.group ∙ sym changed.group;
      high = λ d t d1 d8 h.
          by_eq d c
          (λ own. rw own (x.high t (stored t (in_count t h)) ∙ ap (λ (z : ℤ). word_by z / 256) (sym (changed.sample t (in_count t h)))))
          (λ ne.
          high_else x y known c1 c8 few d t d1 d8 (position t (in_count t h)) (λ e. absurd (ne e)) ∙ laid.high d t d1 d8 (in_count t h)
          ∙ ap (λ (z : ℤ). word_by z / 256) (sym (changed.others d t d1 d8 ne (in_count t h))));
      low = λ d t d1 d8 h.
          by_eq d c
          (λ own. rw own (x.low t (stored t (in_count t h)) ∙ ap (λ (z : ℤ). word_by z % 256) (sym (changed.sample t (in_count t h)))))
          (λ ne.
          low_else x y known c1 c8 few d t d1 d8 (position t (in_count t h)) (λ e. absurd (ne e)) ∙ laid.low d t d1 d8 (in_count t h)
          ∙ ap (λ (z : ℤ). word_by z % 256) (sym (changed.others d t d1 d8 ne (in_count t h))));
      macroblock = λ h q u m b hh hq hu hm e. slots x y known c1 c8 few form h q u m hh hq hu hm ∙ laid.macroblock h q u m b hh hq hu hm e ∙ rw changed.macroblocks refl;
    }
