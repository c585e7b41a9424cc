-- A frame holds one contents, by its bytes. Assumes nothing.
use Rattle.std.specs.Prelude.{Some}
use mathlib.Core.Path.{◌≡◌, refl, sym, ap, ◌∙◌}
use mathlib.Core.List.{List}
use Prim.Native.Nat.{ℕ, ◌+◌, ◌-◌, ◌*◌, ◌/◌, ◌%◌, ◌<◌}
use native.Mathlib.Nat.{mul-add-div, mul-add-mod_self_left, div-eq_of_lt, mod-eq_of_lt, mul_comm, zero-add}
use native.Mathlib.Omega.{arith}
use lib.IntN.{ℤ, pos}
use lib.ListN.{length, get_or, take, drop}
use lib.Seq.{ext_get_or, take_all, get_or-take, get_or-drop}
use Rattle.base.specs.Calls.{ExactlyOne}
use Rattle.base.specs.Run.{tab}
use Rattle.base.proofs.Parts.{length_part}
use Rattle.base.proofs.Runs.{end_within, length_tab, tab_at, tab_same, tab_part}
use Rattle.paper.specs.declared.System.{System}
use Rattle.paper.specs.Paper.{sequences, macroblocks, start, bytes_at, sound_word, sample_by, count_said, slot_place, carried}
use Rattle.promises.specs.Contents.{Contents}
use Rattle.promises.specs.Commentary.{FrameHolds}
use Rattle.promises.proofs.One.{channels_one}
use Rattle.rules_format.specs.Systems.{macroblocks_of, system_of}
use Rattle.rules_format.proofs.Blocks.{before_channel}
use Rattle.rules_format.proofs.Paper.{columns, rest_bytes, known_system}
use Rattle.rules_picture.specs.Picture.{slot, carrier_of}
use Rattle.rules_picture.proofs.Picture.{carried_lies}
use Rattle.rules_picture.proofs.Slots.{carried_is, slot_of}
use Rattle.rules_reads.specs.Macroblock.{slot_bytes, carrier_bytes}

module _ (k : ℕ) (y : System) (known : system_of k ≡ Some y) (f : List ℕ) (whole : length f ≡ 48000 * sequences k) where
  abbrev n : ℕ
  n = sequences k

  abbrev count : ℕ
  count = count_said (sequences k) f 0 0

  -- ---- macroblocks

  part : ℕ → List ℕ
  part b = carrier_bytes y f (carrier_of y b)

  module _ (h q g m b : ℕ) (hh : h < 4) (hq : q < n) (hg : g < 27) (hm : m < 5) (carries : carried k h q g m ≡ Some b) where
    lies : (b < macroblocks_of y) × (carrier_of y b ≡ Some (slot h q (5 * g + m)))
    lies = carried_lies y (slot h q (5 * g + m)) b (carried_is h q g m hg hm k y known hh (omega (arith, hq, (columns k y known).sequences_is)) ∙ carries)

    part_is : part b ≡ bytes_at n f h q (slot_place (5 * g + m)) 3 77
    unfolding part carrier_bytes slot_bytes
    part_is = rw lies.1 (rest_bytes y f h q (slot_place (5 * g + m)) ∙ rw (columns k y known).sequences_is refl)

    part_long : length (part b) ≡ 77
    part_long = ap length part_is ∙ length_part (start n h q (slot_place (5 * g + m)) + 3) 77 f (omega (arith, whole, hq, hg, hm, before_channel n h hh))

    b_below : b < macroblocks k
    b_below = omega (arith, lies.0, (columns k y known).macroblocks_is)

  byte : ℕ → ℕ
  byte i = get_or (part (i / 77)) (i % 77) 0

  pictures : List ℕ
  pictures = tab byte (77 * macroblocks k)

  picture_at : (b : ℕ) → b < macroblocks k → length (part b) ≡ 77 → take 77 (drop (77 * b) pictures) ≡ part b
  unfolding pictures byte
  picture_at b hb long =
      let all : length (tab byte (77 * macroblocks k)) ≡ 77 * macroblocks k = length_tab byte (77 * macroblocks k) in
      sym (tab_part 0 (tab byte (77 * macroblocks k)) (77 * b) 77 (omega (arith, all, hb)))
      ∙ tab_same _ _ 77 (λ i h.
      let whole_part : (77 * b + i) / 77 ≡ b = omega arith in
      let rest : (77 * b + i) % 77 ≡ i = omega arith in
      tab_at 0 byte (77 * b + i) (77 * macroblocks k) (omega (arith, hb, h)) ∙ rw (whole_part, rest, zero-add) refl)
      ∙ tab_part 0 (part b) 0 77 (omega (arith, long)) ∙ take_all 77 (part b) (omega (arith, long))

  -- ---- sound

  sample : ℕ → ℤ
  sample i = sample_by (sound_word n f (i / count + 1) (i % count))

  sound : List ℤ
  sound = tab sample (8 * count)

  sample_at : (c t : ℕ) → 0 < c → c < 9 → t < count → get_or sound ((c - 1) * count + t) (pos 0) ≡ sample_by (sound_word n f c t)
  unfolding sound sample
  sample_at c t c1 c8 h =
      let below : c - 1 < 8 = omega arith in
      let some : 0 < count = omega (arith, h) in
      let turned : (c - 1) * count + t ≡ count * (c - 1) + t = ap (λ (x : ℕ). x + t) (mul_comm (c - 1) count) in
      let channel : ((c - 1) * count + t) / count + 1 ≡ c =
      ap (λ (x : ℕ). x / count + 1) turned ∙ ap (λ (x : ℕ). x + 1) (mul-add-div some (c - 1) t ∙ ap (λ (x : ℕ). c - 1 + x) (div-eq_of_lt h)) ∙ omega arith in
      let position : ((c - 1) * count + t) % count ≡ t = ap (λ (x : ℕ). x % count) turned ∙ mul-add-mod_self_left count (c - 1) t ∙ mod-eq_of_lt h in
      tab_at (pos 0) sample ((c - 1) * count + t) (8 * count) (omega (arith, h, end_within count (c - 1) 8 below)) ∙ rw (channel, position) refl

  contents : Contents
  contents = record { count = count; sound = sound; macroblocks = pictures; time_code = bytes_at n f 0 0 1 31 4; binary_group = bytes_at n f 0 0 1 39 4 }

  holds : FrameHolds k f contents
  unfolding contents sound pictures
  holds = record {
    count = refl;
    sounds = length_tab sample (8 * count);
    sample = sample_at;
    pictures = length_tab byte (77 * macroblocks k);
    macroblock = λ h q g m b hh hq hg hm e.
        picture_at b (b_below h q g m b hh hq hg hm e) (part_long h q g m b hh hq hg hm e) ∙ part_is h q g m b hh hq hg hm e;
    time = refl;
    group = refl;
  }

  -- ---- and no other

  only : (l l' : Contents) → FrameHolds k f l → FrameHolds k f l' → l ≡ l'
  only l l' a b =
      let same_count : l.count ≡ l'.count = a.count ∙ sym b.count in
      let held : (l₁ : Contents) → FrameHolds k f l₁ → (c t : ℕ) → 0 < c → c < 9 → t < count → get_or l₁.sound ((c - 1) * count + t) (pos 0) ≡ sample_by (sound_word n f c t) =
      λ l₁ m c t c1 c8 h. ap (λ (x : ℕ). get_or l₁.sound ((c - 1) * x + t) (pos 0)) (sym m.count) ∙ m.sample c t c1 c8 (omega (arith, h, m.count)) in
      let same_sound : l.sound ≡ l'.sound =
      channels_one count (a.sounds ∙ ap (λ (x : ℕ). 8 * x) a.count) (b.sounds ∙ ap (λ (x : ℕ). 8 * x) b.count)
      (λ c t c1 c8 h. held l a c t c1 c8 h ∙ sym (held l' b c t c1 c8 h)) in
      let same_pictures : l.macroblocks ≡ l'.macroblocks =
      ext_get_or 0 l.macroblocks l'.macroblocks (a.pictures ∙ sym b.pictures) (λ i h.
      let v = i / 77 in
      let below : v < macroblocks k = omega (arith, h, a.pictures) in
      let s = slot_of k v below in
      let at : 77 * v + i % 77 ≡ i = omega arith in
      let byte_of : (l₁ : Contents) → FrameHolds k f l₁ → get_or l₁.macroblocks i 0 ≡ get_or (bytes_at n f s.h s.q (slot_place (5 * s.g + s.m)) 3 77) (i % 77) 0 =
      λ l₁ m.
      ap (λ (x : ℕ). get_or l₁.macroblocks x 0) (sym at) ∙ sym (get_or-drop (77 * v) l₁.macroblocks (i % 77) 0)
      ∙ sym (get_or-take 77 (drop (77 * v) l₁.macroblocks) (i % 77) 0 (omega arith))
      ∙ ap (λ (bytes : List ℕ). get_or bytes (i % 77) 0) (m.macroblock s.h s.q s.g s.m v s.channel s.sequence s.group s.unit s.carries) in
      byte_of l a ∙ sym (byte_of l' b)) in
      λ i. record {
        count = same_count i;
        sound = same_sound i;
        macroblocks = same_pictures i;
        time_code = (a.time ∙ sym b.time) i;
        binary_group = (a.group ∙ sym b.group) i;
      }

pub held_one : (k : ℕ) → k < 4 → (f : List ℕ) → length f ≡ 48000 * sequences k → ExactlyOne Contents (FrameHolds k f)
held_one k below f whole =
    known_system k below (λ y known. record {
      outcome = contents k y known f whole;
      meets = holds k y known f whole;
      only = λ l m. only k y known f whole l (contents k y known f whole) m (holds k y known f whole);
    })
