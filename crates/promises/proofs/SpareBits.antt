-- The workshop of "What did the spare bits say?": an ID is told back from its answer, and what two frames that differ in spare bits alone have in common,
-- by document 01's numbers alone. Assumes nothing.
use Rattle.std.specs.Prelude.{Some}
use mathlib.Core.Path.{◌≡◌, refl, sym, ap, ◌∙◌}
use mathlib.Core.List.{List, [], ◌∷◌}
use mathlib.Core.Logic.{◌≢◌}
use Prim.Native.Nat.{ℕ, zero, suc, ◌+◌, ◌*◌, ◌/◌, ◌%◌, ◌≤◌, ◌<◌}
use native.Mathlib.Omega.{arith}
use lib.Dec.{eqb, ltb, eqb→eq}
use lib.IntN.{ℤ}
use lib.ListN.{length, get_or, take, drop, set, length-set}
use lib.Seq.{get_or-take, get_or-drop, get_or-set_same, get_or-set_other}
use borrow.Author.Tests.{ltb-true}
use Rattle.base.proofs.Below.{below_at, below_means}
use Rattle.base.proofs.Cases.{by_lt, by_eq}
use Rattle.base.proofs.Parts.{length_part}
use Rattle.paper.specs.declared.System.{System}
use Rattle.paper.specs.declared.IdAnswer.{IdAnswer}
use Rattle.paper.specs.declared.IdAnswer.TheVariants.{Reserved}
use Rattle.paper.specs.declared.IdValues.{IdValues}
use Rattle.paper.specs.Paper.{sequences, positions, channel_by, channel_bits, sound_channel, sound_first, as_place}
use Rattle.promises.specs.Refusals.{count_stored}
use Rattle.promises.specs.Demand2.{IdOut}
use Rattle.promises.specs.Commentary.{Exchanged}
use Rattle.promises.specs.SpareBits.{WithSection, Answerable, told, SameButSpare}
use Rattle.rules_format.specs.Systems.{system_of}
use Rattle.rules_format.specs.Ids.{id_values}
use Rattle.rules_format.proofs.Blocks.{before_channel}
use Rattle.rules_format.proofs.Paper.{fault_spare}
use Rattle.promises.proofs.Apart.{fault_there, Alike, rank_below, SameAs, SameWords, words_same}
use Rattle.promises.proofs.Unrecorded.{as_place_lem}
use Rattle.promises.proofs.Commentary.{exchanged_byte, head_same}

-- ---- told: three bytes are those of their answer

bits_back : (w : ℕ) → w < 4 → channel_bits (channel_by w) ≡ w
bits_back w h = eqb→eq _ _ (below_at (λ j. eqb (channel_bits (channel_by j)) j) 4 tt w h)

channel_back : (h : ℕ) → h < 4 → channel_by (channel_bits h) ≡ h
channel_back h l = eqb→eq _ _ (below_at (λ j. eqb (channel_by (channel_bits j)) j) 4 tt h l)

channel_below : (w : ℕ) → w < 4 → channel_by w < 4
channel_below w h = ltb-true _ _ (below_means (λ j. ltb (channel_by j) 4) 4 refl w h)

three_bytes : (id : List ℕ) → length id ≡ 3 → get_or id 0 0 ∷ get_or id 1 0 ∷ get_or id 2 0 ∷ [] ≡ id
three_bytes [] e = absurd (omega (arith, e))
three_bytes (a ∷ []) e = absurd (omega (arith, e))
three_bytes (a ∷ b ∷ []) e = absurd (omega (arith, e))
three_bytes (a ∷ b ∷ c ∷ []) e = refl
three_bytes (a ∷ b ∷ c ∷ d ∷ rest) e = absurd (omega (arith, e))

three_below : (a b c i : ℕ) → a < 256 → b < 256 → c < 256 → i < 3 → get_or (a ∷ b ∷ c ∷ []) i 0 < 256
three_below a b c zero ha hb hc h = ha
three_below a b c (suc zero) ha hb hc h = hb
three_below a b c (suc (suc zero)) ha hb hc h = hc
three_below a b c (suc (suc (suc i))) ha hb hc h = absurd (omega (arith, h))

-- any three bytes with a section
pub section_free : (a b c : ℕ) → a < 160 → b < 256 → c < 256 → WithSection (a ∷ b ∷ c ∷ [])
section_free a b c ha hb hc = record { size = refl; bytes = λ i h. three_below a b c i (omega arith) hb hc h; section = omega arith }

-- the values of three bytes tell them
bytes_told : (id : List ℕ) → length id ≡ 3
    → told (record {
      number = 0;
      section = get_or id 0 0 / 32;
      channel = channel_by (get_or id 1 0 / 4 % 4);
      dseq = get_or id 1 0 / 16;
      dbn = get_or id 2 0;
      arbitrary = get_or id 0 0 % 16;
      reserved = get_or id 0 0 / 16 % 2 * 4 + get_or id 1 0 % 4;
    })
    ≡ id
unfolding told
bytes_told id three =
    let b0 = get_or id 0 0 in
    let b1 = get_or id 1 0 in
    let high : (b0 / 16 % 2 * 4 + b1 % 4) / 4 ≡ b0 / 16 % 2 = omega arith in
    let low : (b0 / 16 % 2 * 4 + b1 % 4) % 4 ≡ b1 % 4 = omega arith in
    let first : 32 * (b0 / 32) + 16 * (b0 / 16 % 2) + b0 % 16 ≡ b0 = omega arith in
    let second : 16 * (b1 / 16) + 4 * (b1 / 4 % 4) + b1 % 4 ≡ b1 = omega arith in
    rw (high, low, bits_back (b1 / 4 % 4) (omega arith), first, second) (three_bytes id three)

-- an answer with its values
module _ {id : List ℕ} {o : IdAnswer} {v : IdValues} (out : IdOut id o v) where
  -- a section that is not reserved is answered with number 0
  module _ (three : length id ≡ 3) (section : get_or id 0 0 / 32 < 5) where
    named_zero : v.number ≡ 0
    named_zero = ap (λ (x : IdValues). x.number) (sym out.same ∙ ap id_values (out.named three section))

    pub named_told : told v ≡ id
    named_told = ap told (out.values named_zero) ∙ bytes_told id three

  -- and its values are of so many bits
  pub named_values : WithSection id → Answerable v
  named_values w =
      let z = named_zero w.size w.section in
      let b1 : get_or id 1 0 < 256 = w.bytes 1 (omega arith) in
      rw (out.values z)
      (record {
        number = refl;
        section = w.section;
        channel = channel_below (get_or id 1 0 / 4 % 4) (omega arith);
        dseq = omega (arith, b1);
        dbn = w.bytes 2 (omega arith);
        arbitrary = omega arith;
        reserved = omega arith;
      })

  -- a refusal tells nothing: its zeros tell other bytes
  pub told_named : told v ≡ id → (length id ≡ 3) × (get_or id 0 0 / 32 < 5)
  unfolding told
  told_named e =
      let three : length id ≡ 3 = sym (ap length e) in (
        three,
        by_lt (get_or id 0 0 / 32) 5 (λ l. l) (λ r.
            let zeros : v ≡ id_values Reserved = sym out.same ∙ ap id_values (out.reserved three r) in
            let first : 0 ≡ get_or id 0 0 = ap (λ (x : IdValues). get_or (told x) 0 0) (sym zeros) ∙ ap (λ (x : List ℕ). get_or x 0 0) e in
            absurd (omega (arith, r, first))),
      )

-- ---- told: values are those of the three bytes that they tell

bit_above : (a b : ℕ) → b < 2 → (2 * a + b) % 2 ≡ b
bit_above a b h = omega arith

module _ {v : IdValues} (w : Answerable v) where
  abbrev first : ℕ
  first = 32 * v.section + 16 * (v.reserved / 4) + v.arbitrary

  abbrev second : ℕ
  second = 16 * v.dseq + 4 * channel_bits v.channel + v.reserved % 4

  bits_below : channel_bits v.channel < 4
  bits_below = ltb-true _ _ (below_means (λ j. ltb (channel_bits j) 4) 4 refl v.channel w.channel)

  pub told_section : WithSection (told v)
  unfolding told
  told_section = section_free first second v.dbn (omega (arith, w.section, w.arbitrary, w.reserved)) (omega (arith, bits_below, w.dseq)) w.dbn

  pub told_values : {o : IdAnswer} {v' : IdValues} → IdOut (told v) o v' → v' ≡ v
  unfolding told
  told_values out =
      let z = named_zero out refl told_section.section in
      let section : first / 32 ≡ v.section = omega (arith, w.arbitrary, w.reserved) in
      let channel : second / 4 % 4 ≡ channel_bits v.channel = omega (arith, bits_below) in
      let dseq : second / 16 ≡ v.dseq = omega (arith, bits_below) in
      let arbitrary : first % 16 ≡ v.arbitrary = omega (arith, w.arbitrary) in
      let above : first / 16 ≡ 2 * v.section + v.reserved / 4 = omega (arith, w.arbitrary) in
      let bit : v.reserved / 4 < 2 = omega (arith, w.reserved) in
      let high : first / 16 % 2 ≡ v.reserved / 4 = rw above (bit_above v.section (v.reserved / 4) bit) in
      let low : second % 4 ≡ v.reserved % 4 = omega arith in
      let reserved : v.reserved / 4 * 4 + v.reserved % 4 ≡ v.reserved = omega arith in
      out.values z ∙ rw (section, channel, dseq, arbitrary, high, low, reserved, channel_back v.channel w.channel) (λ i. record {
        number = sym w.number i;
        section = v.section;
        channel = v.channel;
        dseq = v.dseq;
        dbn = v.dbn;
        arbitrary = v.arbitrary;
        reserved = v.reserved;
      })

-- ---- SameButSpare: the spare bits of any block may be anything

module _ (m : ℕ) (f : List ℕ) (j s r : ℕ) (hs : s < 32) (hr : r < 4) (within : j * 80 + 1 < length f) where
  abbrev first_set : List ℕ
  first_set = set f (j * 80) (get_or f (j * 80) 0 / 32 * 32 + s)

  abbrev both_set : List ℕ
  both_set = set first_set (j * 80 + 1) (get_or f (j * 80 + 1) 0 / 4 * 4 + r)

  first_length : length first_set ≡ length f
  first_length = length-set f (j * 80) _

  else : (i : ℕ) → i ≢ j * 80 → i ≢ j * 80 + 1 → get_or both_set i 0 ≡ get_or f i 0
  else i d e = get_or-set_other first_set (j * 80 + 1) i _ 0 e ∙ get_or-set_other f (j * 80) i _ 0 d

  pub spare_free : SameButSpare m f both_set
  spare_free = record {
    size = length-set first_set (j * 80 + 1) _ ∙ first_length;
    first = λ i hi.
        by_eq i j
        (λ own. rw own (ap (λ (x : ℕ). x / 32) (get_or-set_other first_set (j * 80 + 1) (j * 80) _ 0 (λ z. omega (arith, z)) ∙ get_or-set_same f (j * 80) _ 0 (omega arith)) ∙ omega arith))
        (λ d. ap (λ (x : ℕ). x / 32) (else (i * 80) (λ z. d (omega (arith, z))) (λ z. omega (arith, z))));
    second = λ i hi.
        by_eq i j
        (λ own. rw own (ap (λ (x : ℕ). x / 4) (get_or-set_same first_set (j * 80 + 1) _ 0 (omega (arith, first_length))) ∙ omega arith))
        (λ d. ap (λ (x : ℕ). x / 4) (else (i * 80 + 1) (λ z. omega (arith, z)) (λ z. d (omega (arith, z)))));
    others = λ i b hi low hb. else (i * 80 + b) (λ z. omega (arith, z, low, hb)) (λ z. omega (arith, z, low, hb));
  }

-- of any blocks, one after the other
pub spare_on : {m : ℕ} {f g x : List ℕ} → SameButSpare m f g → SameButSpare m g x → SameButSpare m f x
spare_on a b = record {
  size = b.size ∙ a.size;
  first = λ j hj. b.first j hj ∙ a.first j hj;
  second = λ j hj. b.second j hj ∙ a.second j hj;
  others = λ j i hj low hi. b.others j i hj low hi ∙ a.others j i hj low hi;
}

-- ---- SameButSpare: what the calls go by is the same

pub spare_refl : {m : ℕ} {f : List ℕ} → SameButSpare m f f
spare_refl = record { size = refl; first = λ j hj. refl; second = λ j hj. refl; others = λ j b hj low hb. refl }

-- a block has the same fault in every place
pub spare_faults : {m : ℕ} {f g : List ℕ} → SameButSpare m f g → (j h q p : ℕ) → j < m → fault_there g j h q p ≡ fault_there f j h q p
spare_faults s j h q p hj =
    rw (s.others j 2 hj (omega arith) (omega arith)) (fault_spare _ _ _ _ _ h q p (s.first j hj) (s.second j hj))

pub spare_alike : {k : ℕ} {f g : List ℕ} → SameButSpare (600 * sequences k) f g → Alike k f g
spare_alike s = record { size = s.size; faults = spare_faults s; behind = λ j b hj low hb d. s.others j b hj (omega arith) hb }

-- packs and words stand behind the IDs
pub spare_as : {k : ℕ} {f g : List ℕ} → SameButSpare (600 * sequences k) f g → (c : ℕ) → 0 < c → c < 9 → SameAs k f g c
spare_as {k} s c c1 c8 = record {
  byte = λ r i hr hi.
      let n = sequences k in
      let q = sound_first n c + r in
      let below : (n * sound_channel c + q) * 150 + as_place q < 600 * n =
      omega (arith, rank_below n c r hr, (as_place_lem q).1, before_channel n (sound_channel c) (omega arith)) in
      s.others _ (3 + i) below (omega arith) (omega arith);
}

pub spare_words : {k : ℕ} {f g : List ℕ} → SameButSpare (600 * sequences k) f g → (c : ℕ) → 0 < c → c < 9 → SameWords k f g c
spare_words s = words_same (λ j b hj low hb. s.others j b hj (omega arith) hb)

-- ---- SameButSpare: it stays so in a block that is handed out, and where an audio channel is replaced

pub spare_block : {m : ℕ} {f g : List ℕ} → SameButSpare m f g → (j : ℕ) → j < m → j * 80 + 80 ≤ length f
    → SameButSpare 1 (take 80 (drop (j * 80) f)) (take 80 (drop (j * 80) g))
spare_block {m} {f} {g} s j hj fits = record {
  size = length_part (j * 80) 80 g (omega (arith, fits, s.size)) ∙ sym (length_part (j * 80) 80 f fits);
  first = λ i hi. let e : i ≡ 0 = omega arith in rw (e, byte f 0 (omega arith), byte g 0 (omega arith), nought) (s.first j hj);
  second = λ i hi. let e : i ≡ 0 = omega arith in rw (e, byte f 1 (omega arith), byte g 1 (omega arith)) (s.second j hj);
  others = λ i b hi low hb. let e : i * 80 + b ≡ b = omega arith in rw (e, byte f b hb, byte g b hb) (s.others j b hj low hb);
}
  where
    byte : (x : List ℕ) (b : ℕ) → b < 80 → get_or (take 80 (drop (j * 80) x)) b 0 ≡ get_or x (j * 80 + b) 0
    byte x b hb = get_or-take 80 (drop (j * 80) x) b 0 hb ∙ get_or-drop (j * 80) x b 0

    nought : j * 80 + 0 ≡ j * 80
    nought = omega arith

module _ {m k : ℕ} {f g : List ℕ} {c : ℕ} {samples : List ℤ} {f' g' : List ℕ} (s : SameButSpare m f g) (x : Exchanged k f c samples f')
    (x' : Exchanged k g c samples g') (y : System) (known : system_of k ≡ Some y) (c1 : 0 < c) (c8 : c < 9) (few : count_stored k f c ≤ positions k)
    (few' : count_stored k g c ≤ positions k) where
  first_kept : (j : ℕ) → (get_or f' (j * 80) 0 ≡ get_or f (j * 80) 0) × (get_or g' (j * 80) 0 ≡ get_or g (j * 80) 0)
  first_kept j =
      let zero : j * 80 + 0 ≡ j * 80 = omega arith in
      (rw zero at (head_same x y known c1 c8 few j 0 (omega arith)), rw zero at (head_same x' y known c1 c8 few' j 0 (omega arith)))

  pub spare_exchanged : SameButSpare m f' g'
  spare_exchanged = record {
    size = x'.size ∙ s.size ∙ sym x.size;
    first = λ j hj. rw ((first_kept j).0, (first_kept j).1) (s.first j hj);
    second = λ j hj. rw (head_same x y known c1 c8 few j 1 (omega arith), head_same x' y known c1 c8 few' j 1 (omega arith)) (s.second j hj);
    others = λ j b hj low hb. exchanged_byte x x' (j * 80 + b) (s.others j b hj low hb);
  }
