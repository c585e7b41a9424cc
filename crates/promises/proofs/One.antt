-- The promises leave one answer each, apart from any contract: two outcomes that both meet a statement are the same. Assumes nothing.
use mathlib.Core.Path.{◌≡◌, refl, sym, ap, ◌∙◌, subst}
use mathlib.Core.List.{List}
use Prim.Native.Nat.{ℕ, ◌+◌, ◌-◌, ◌*◌, ◌<◌, ◌/◌, ◌%◌, min, zero, suc}
use native.Mathlib.Omega.{arith}
use lib.IntN.{ℤ, pos}
use lib.ListN.{length, get_or, take, drop, length-append}
use lib.Seq.{ext_get_or, get_or-drop}
use Rattle.base.specs.Run.{run}
use Rattle.base.proofs.Cases.{by_lt, by_eq}
use Rattle.promises.specs.Contents.{Contents}
use Rattle.paper.specs.Paper.{sequences, records, positions, macroblocks, stream_fault, sound_channel, sound_first, sound_index, mode_said, back}
use Rattle.promises.specs.Demand2.{Strict, ReadsBack, IdOut, ViewOut, MacroblockOut, ReadOut, GoesThrough, AudioOut}
use lib.Dec.{ltb}
use Rattle.base.specs.Pick.{pick}
use Rattle.paper.specs.declared.Survey.{Survey}
use Rattle.paper.specs.declared.AudioAnswer.{AudioAnswer}
use Rattle.promises.specs.Demand3.{Listed, fault_for, SalvageOut, Salvages, SampleSalvaged}
use native.Mathlib.Nat.{div-add-mod', mod-lt, div-lt_iff_lt-mul, not-suc-le-zero}
use borrow.Author.Tests.{ne_eqb}
use Rattle.paper.specs.declared.Place.{Place}
use Rattle.paper.specs.declared.IdAnswer.{IdAnswer}
use Rattle.paper.specs.declared.IdValues.{IdValues}
use Rattle.paper.specs.declared.Part.{Part}
use Rattle.rules_format.specs.Ids.{id_values}
use Rattle.rules_picture.proofs.Slots.{slot_of}

-- ---- IdOut, ViewOut, MacroblockOut

pub ids_one : {id : List ℕ} {o o' : IdAnswer} {v v' : IdValues} → IdOut id o v → IdOut id o' v' → (o ≡ o') × (v ≡ v')
ids_one {id} {o} {o'} m m' =
    let same : o ≡ o' =
    by_eq (length id) 3
    (λ three.
    by_lt (get_or id 0 0 / 32) 5 (λ l. m.named three l ∙ sym (m'.named three l)) (λ r. m.reserved three r ∙ sym (m'.reserved three r)))
    (λ d. m.wrong_length d ∙ sym (m'.wrong_length d)) in
    (same, sym m.same ∙ ap id_values same ∙ m'.same)

pub views_one : {k : ℕ} {f : List ℕ} {h q : ℕ} {p : Place} {part part' : List ℕ} {r r' : Part} → r.number ≡ 0 → r'.number ≡ 0
    → ViewOut k f h q p 0 part r → ViewOut k f h q p 0 part' r' → (part ≡ part') × (r ≡ r')
views_one z z' m m' = (m.block refl ∙ sym (m'.block refl), m.lies z ∙ sym (m'.lies z'))

-- a macroblock of the system has its slot
pub macroblocks_one : {k : ℕ} {f : List ℕ} {b : ℕ} {r r' : Part} → b < macroblocks k → r.number ≡ 0 → r'.number ≡ 0 → MacroblockOut k f b r → MacroblockOut k f b r' → r ≡ r'
macroblocks_one {k} {f} {b} hb z z' m m' =
    let s = slot_of k b hb in
    m.lies z s.h s.q s.g s.m s.channel s.sequence s.group s.unit s.carries
    ∙ sym (m'.lies z' s.h s.q s.g s.m s.channel s.sequence s.group s.unit s.carries)

-- ---- ReadOut, ReadsBack

-- two lists are one, below a count and from it on
pub lists_one : (count : ℕ) {xs ys : List ℤ} → length xs ≡ length ys → ((t : ℕ) → t < count → get_or xs t (pos 0) ≡ get_or ys t (pos 0))
    → drop count xs ≡ drop count ys → xs ≡ ys
lists_one count {xs} {ys} size first rest =
    ext_get_or (pos 0) xs ys size (λ i h.
    by_lt i count (first i) (λ above.
    let e : count + (i - count) ≡ i = omega arith in
    subst (λ (j : ℕ). get_or xs j (pos 0) ≡ get_or ys j (pos 0)) e
    (sym (get_or-drop count xs (i - count) (pos 0))
    ∙ ap (λ (zs : List ℤ). get_or zs (i - count) (pos 0)) rest
    ∙ get_or-drop count ys (i - count) (pos 0))))

pub reads_back_one : {l : Contents} {c : ℕ} {samples : List ℤ} {b : ℕ} {o o' : Strict} → ReadsBack l c samples b o → ReadsBack l c samples b o' → o ≡ o'
reads_back_one {l} {c} {samples} {b} {o} {o'} m m' =
    let same : o.samples ≡ o'.samples =
    lists_one l.count (m.size ∙ sym m'.size) (λ t h. m.sample t h ∙ sym (m'.sample t h)) (m.rest ∙ sym m'.rest) in
    λ i. record {
      check = (m.check ∙ sym m'.check) i;
      audio = (m.audio ∙ sym m'.audio) i;
      samples = same i;
      number = (m.number ∙ sym m'.number) i;
      part = (m.part ∙ sym m'.part) i;
      time = (m.time ∙ sym m'.time) i;
    }

pub reads_one : {k : ℕ} {f : List ℕ} {c : ℕ} {samples : List ℤ} {b : ℕ} {o o' : Strict} → b < macroblocks k → GoesThrough o → GoesThrough o'
    → ReadOut k f c samples b o → ReadOut k f c samples b o' → o ≡ o'
reads_one {k} {f} {c} {samples} {b} {o} {o'} hb z z' m m' =
    let s = slot_of k b hb in
    let mode = mode_said (sequences k) f (sound_channel c) (sound_first (sequences k) c) in
    let count : o.audio.count ≡ o'.audio.count = m.count z.audio ∙ sym (m'.count z'.audio) in
    let same : o.samples ≡ o'.samples =
    lists_one o'.audio.count (m.size ∙ sym m'.size)
    (λ t h.
    let h' : t < o.audio.count = omega (arith, h, count) in
    by_eq mode 0xF
    (λ mark. m.unrecorded z.audio mark t h' ∙ sym (m'.unrecorded z'.audio mark t h))
    (λ d. m.sample z.audio d t h' ∙ sym (m'.sample z'.audio d t h)))
    (subst (λ (n : ℕ). drop n o.samples ≡ drop n samples) count (m.rest z.audio) ∙ sym (m'.rest z'.audio)) in
    λ i. record {
      check = (z.check ∙ sym z'.check) i;
      audio = record { number = (z.audio ∙ sym z'.audio) i; count = count i };
      samples = same i;
      number = (z.number ∙ sym z'.number) i;
      part = (m.macroblock z.number s.h s.q s.g s.m s.channel s.sequence s.group s.unit s.carries
          ∙ sym (m'.macroblock z'.number s.h s.q s.g s.m s.channel s.sequence s.group s.unit s.carries)) i;
      time = record {
        number = (z.time ∙ sym z'.time) i;
        time = (m.time z.time ∙ sym (m'.time z'.time)) i;
        group = (m.group z.time ∙ sym (m'.group z'.time)) i;
      };
    }

-- ---- AudioOut

pub audio_out_one : {count : ℕ} {said : ℕ → ℤ} {before after after' : List ℤ} {o o' : AudioAnswer} → AudioOut count said before o after
    → AudioOut count said before o' after' → (o ≡ o') × (after ≡ after')
audio_out_one {count} m m' = (
  m.answer ∙ sym m'.answer,
  lists_one count (m.size ∙ sym m'.size) (λ t h. m.sample t h ∙ sym (m'.sample t h)) (m.rest ∙ sym m'.rest),
)

-- ---- Listed

module _ {n first m : ℕ} {bytes list list₁ list₂ : List ℕ} {r r' : Survey} (a : Listed n bytes first m list r list₁)
    (b : Listed n bytes first m list r' list₂) where
  total_one : r.total ≡ r'.total
  total_one = omega (arith, a.total, b.total)

  kept_one : r.kept ≡ r'.kept
  kept_one = a.kept ∙ ap (min _) total_one ∙ sym b.kept

  pub listed_one : r.number ≡ r'.number → (r ≡ r') × (list₁ ≡ list₂)
  listed_one number = (
    λ i. record { number = number i; total = total_one i; kept = kept_one i },
    a.listed ∙ rw kept_one (sym b.listed),
  )

-- ---- records: none only where every block names its place

records_none : (n : ℕ) (bytes : List ℕ) (first m j : ℕ) → length (records n bytes first m) ≡ 0 → j < m → stream_fault n bytes j (first + j) ≡ 0
unfolding records run pick
records_none n bytes first zero j e h = absurd (not-suc-le-zero h)
records_none n bytes first (suc m) j e h =
    let found = stream_fault n bytes m (first + m) in
    by_eq j m
    (λ last. rw last (by_eq found 0 (λ z. z) (λ d. absurd (omega (arith, simp length-append at (rw (ne_eqb found 0 d) at e))))))
    (λ d. records_none n bytes first m j (omega (arith, simp length-append at e)) (omega (arith, d)))

-- the third demand stops a survey that coasts, of a frame and of one sequence
pub coasting : {n first m : ℕ} {bytes list list' : List ℕ} {r : Survey} → Listed n bytes first m list r list' → r.total ≡ 0
    → (j : ℕ) → j < m → stream_fault n bytes j (first + j) ≡ 0
coasting {n} {first} {m} {bytes} s z j h = records_none n bytes first m j (omega (arith, z, s.total)) h

-- ---- eight audio channels of w numbers each, one after the other

-- each number of them is that of a position
pub by_position : (P : ℕ → Type 0) (w : ℕ) → ((c t : ℕ) → 0 < c → c < 9 → t < w → P ((c - 1) * w + t)) → (i : ℕ) → i < 8 * w → P i
by_position P w each i below =
    let some : 0 < w = omega (arith, below) in
    let c : i / w < 8 = (div-lt_iff_lt-mul some).1 below in
    let e : i / w + 1 - 1 ≡ i / w = omega arith in
    subst P (ap (λ (x : ℕ). x * w + i % w) e ∙ div-add-mod' i w) (each (i / w + 1) (i % w) (omega arith) (omega (arith, c)) (mod-lt i some))

pub channels_one : (w : ℕ) {xs ys : List ℤ} → length xs ≡ 8 * w → length ys ≡ 8 * w
    → ((c t : ℕ) → 0 < c → c < 9 → t < w → get_or xs ((c - 1) * w + t) (pos 0) ≡ get_or ys ((c - 1) * w + t) (pos 0)) → xs ≡ ys
channels_one w {xs} {ys} a b each =
    ext_get_or (pos 0) xs ys (a ∙ sym b) (λ i h. by_position (λ (j : ℕ). get_or xs j (pos 0) ≡ get_or ys j (pos 0)) w each i (omega (arith, h, a)))

-- ---- SalvageOut, Salvages

module _ {k : ℕ} {g : List ℕ} {samples samples' : List ℤ} (a : SalvageOut k g samples) (b : SalvageOut k g samples') where
  -- a position's block names its place or does not
  position_one : (c t : ℕ) → 0 < c → c < 9 → t < positions k
      → get_or samples ((c - 1) * positions k + t) (pos 0) ≡ get_or samples' ((c - 1) * positions k + t) (pos 0)
  position_one c t c1 c8 ht =
      by_eq (fault_for (sequences k) g c t) 0
      (λ e. (a.position c t c1 c8 ht).renamed e ∙ sym ((b.position c t c1 c8 ht).renamed e))
      (λ d. (a.position c t c1 c8 ht).unnamed d ∙ sym ((b.position c t c1 c8 ht).unnamed d))

  pub salvage_out_one : samples ≡ samples'
  salvage_out_one = channels_one (positions k) a.size b.size position_one

module _ {k : ℕ} {l : Contents} {f g list list₁ list₂ : List ℕ} {r r' : Survey} {samples samples' : List ℤ} (a : Salvages k l f g list r samples list₁)
    (b : Salvages k l f g list r' samples' list₂) where
  pub salvages_one : (r ≡ r') × (samples ≡ samples') × (list₁ ≡ list₂)
  salvages_one =
      let one = listed_one a.faults b.faults (a.number ∙ sym b.number) in
      let here : SalvageOut k g samples = record { size = a.size; position = λ c t c1 c8 ht. (a.sample c t c1 c8 ht).now_there } in
      let there : SalvageOut k g samples' = record { size = b.size; position = λ c t c1 c8 ht. (b.sample c t c1 c8 ht).now_there } in
      (one.0, salvage_out_one here there, one.1)

-- ---- SampleSalvaged: an untouched block alone decides

pub untouched_one : {n : ℕ} {l : Contents} {f g : List ℕ} {c t : ℕ} {x : ℤ} → SampleSalvaged n l f g c t x
    → take 80 (drop (sound_index n c t * 80) g) ≡ take 80 (drop (sound_index n c t * 80) f)
    → x ≡ pick (ltb t l.count) (back (get_or l.sound ((c - 1) * l.count + t) (pos 0))) (pos 0)
untouched_one s e = s.untouched e
