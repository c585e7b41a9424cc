-- Laws of the packs of the audio blocks. Assumes nothing.
use mathlib.Core.Path.{◌≡◌, refl, sym, subst}
use mathlib.Core.Logic.{◌⊎◌, inl, inr, ⊎_elim}
use mathlib.Core.Bool.{Bool, true, false, ◌&&◌, ◌||◌}
use mathlib.Core.List.{[], ◌∷◌}
use Prim.Native.Nat.{ℕ, ◌+◌, ◌/◌, ◌%◌, ◌<◌}
use native.Mathlib.Omega.{arith}
use lib.Dec.{eqb, ltb}
use borrow.Author.Tests.{eq-eqb, ne_eqb, eqb-true, lt-ltb, ltb-true}
use Rattle.base.specs.Pick.{pick}
use Rattle.base.specs.Run.{run, tab}
use Rattle.base.proofs.Cases.{by_eq}
use Rattle.base.proofs.Picks.{pick_either, both_held}
use Rattle.paper.specs.declared.System.{System}
use Rattle.paper.specs.declared.System.TheVariants.{I60, I50, P60, P50}
use Rattle.paper.specs.declared.Pack.{Pack}
use Rattle.rules_format.specs.Systems.{rate_of, is_count}
use Rattle.rules_packs.specs.Packs.{pack_bytes}
use Rattle.rules_packs.specs.Aaux.{as_at, size_of, count_of, mode_of, as_pack, count_in, mode_in, mode_ok, as_ok, As}
use Rattle.rules_format.proofs.Systems.{rate_below}

-- ---- size_of, count_of, mode_of

-- "AF size .. (20, 22, 24 for 1,600, 1,602, 1,920 ..)"
pub size_count : (size_of 1600 ≡ 20) × (size_of 1602 ≡ 22) × (size_of 1920 ≡ 24)
unfolding size_of pick
size_count = (refl, refl, refl)

pub count_size : (count_of 20 ≡ 1600) × (count_of 22 ≡ 1602) × (count_of 24 ≡ 1920)
unfolding count_of pick
count_size = (refl, refl, refl)

-- any other size is no count's
pub count_none : (size : ℕ) → (size ≡ 20 → ⊥) → (size ≡ 22 → ⊥) → (size ≡ 24 → ⊥) → count_of size ≡ 0
unfolding count_of pick
count_none size d e f = rw (ne_eqb size 20 d, ne_eqb size 22 e, ne_eqb size 24 f) refl

pub size_below : (count : ℕ) → size_of count < 64
unfolding size_of
size_below count = pick_either (λ (k : ℕ). k < 64) _ (omega arith) (pick_either (λ (k : ℕ). k < 64) _ (omega arith) (omega arith))

-- "mode .. (0 for channels 1, 3, 5, 7; 1 for 2, 4, 6, 8 ..)"
pub as_mode : tab (λ (k : ℕ). mode_of (k + 1)) 8 ≡ 0 ∷ 1 ∷ 0 ∷ 1 ∷ 0 ∷ 1 ∷ 0 ∷ 1 ∷ []
unfolding tab run
as_mode = refl

-- ---- mode_ok: the audio channel's own, or 1111

pub mode_is : (c mode : ℕ) → (mode_ok c mode ≡ true → (mode ≡ mode_of c) ⊎ (mode ≡ 0xF)) × ((mode ≡ mode_of c) ⊎ (mode ≡ 0xF) → mode_ok c mode ≡ true)
mode_is c mode =
    let own : mode ≡ mode_of c → mode_ok c mode ≡ true = λ e. rw (eq-eqb mode (mode_of c) e) refl in (
      λ e. by_eq mode (mode_of c) (λ o. inl o) (λ d. inr (eqb-true mode 0xF (rw (ne_eqb mode (mode_of c) d) at e))),
      ⊎_elim own (λ mark. by_eq mode (mode_of c) own (λ d. rw (ne_eqb mode (mode_of c) d) (eq-eqb mode 0xF mark))),
    )

-- ---- as_pack, as_ok, count_in, mode_in

-- the known AS of document 01
pub as_known : pack_bytes (as_pack I60 1602 1) ≡ 0x50 ∷ 0x56 ∷ 0x10 ∷ 0xC3 ∷ 0xC0 ∷ []
unfolding as_pack size_of pick
as_known = refl

module _ (y : System) (c : ℕ) (p : Pack) where
  pub as_means : as_ok y c p ≡ true → As y c p
  as_means e =
      let smp_qu = eqb (p.pc4 % 64) 0 in
      let stype = eqb (p.pc3 % 32) 3 in
      let rate = eqb (p.pc3 / 32 % 2) (rate_of y) in
      let mode = mode_ok c (mode_in p) in
      let chn = ltb p.pc2 32 in
      let count = is_count y (count_in p) in
      let lf = ltb p.pc1 128 in
      let all = both_held (eqb p.pc0 0x50) (lf && (count && (chn && (mode && (rate && (stype && smp_qu)))))) e in
      let seven = both_held lf (count && (chn && (mode && (rate && (stype && smp_qu))))) all.1 in
      let six = both_held count (chn && (mode && (rate && (stype && smp_qu)))) seven.1 in
      let five = both_held chn (mode && (rate && (stype && smp_qu))) six.1 in
      let four = both_held mode (rate && (stype && smp_qu)) five.1 in
      let three = both_held rate (stype && smp_qu) four.1 in
      let two = both_held stype smp_qu three.1 in
      record {
        header = eqb-true p.pc0 0x50 all.0;
        lf = ltb-true p.pc1 128 seven.0;
        count = six.0;
        chn = ltb-true p.pc2 32 five.0;
        mode = (mode_is c (mode_in p)).0 four.0;
        rate = eqb-true (p.pc3 / 32 % 2) (rate_of y) three.0;
        stype = eqb-true (p.pc3 % 32) 3 two.0;
        smp_qu = eqb-true (p.pc4 % 64) 0 two.1;
      }

  pub as_when : As y c p → as_ok y c p ≡ true
  as_when h =
      rw (
        eq-eqb p.pc0 0x50 h.header,
        lt-ltb p.pc1 128 h.lf,
        h.count,
        lt-ltb p.pc2 32 h.chn,
        (mode_is c (mode_in p)).1 h.mode,
        eq-eqb (p.pc3 / 32 % 2) (rate_of y) h.rate,
        eq-eqb (p.pc3 % 32) 3 h.stype,
      )
      (eq-eqb (p.pc4 % 64) 0 h.smp_qu)

-- a system's own count is one of two at 60 Hz, one at 50 Hz
either : (a b : Bool) → (a || b) ≡ true → (a ≡ true) ⊎ (b ≡ true)
either true b e = inl refl
either false b e = inr e

own_counts : (y : System) (count : ℕ) → is_count y count ≡ true → (P : System → ℕ → Type 0) → P I60 1600 → P I60 1602 → P I50 1920 → P P60 1600 → P P60 1602 → P P50 1920 → P y count
own_counts I60 k h P a b c d e f = ⊎_elim (λ z. subst (P I60) (sym (eqb-true k 1600 z)) a) (λ z. subst (P I60) (sym (eqb-true k 1602 z)) b) (either (eqb k 1600) (eqb k 1602) h)
own_counts I50 k h P a b c d e f = ⊎_elim (λ z. subst (P I50) (sym (eqb-true k 1920 z)) c) (λ z. subst (P I50) (sym (eqb-true k 1920 z)) c) (either (eqb k 1920) (eqb k 1920) h)
own_counts P60 k h P a b c d e f = ⊎_elim (λ z. subst (P P60) (sym (eqb-true k 1600 z)) d) (λ z. subst (P P60) (sym (eqb-true k 1602 z)) e) (either (eqb k 1600) (eqb k 1602) h)
own_counts P50 k h P a b c d e f = ⊎_elim (λ z. subst (P P50) (sym (eqb-true k 1920 z)) f) (λ z. subst (P P50) (sym (eqb-true k 1920 z)) f) (either (eqb k 1920) (eqb k 1920) h)

-- an AS says its count
pub as_count : (y : System) (count c : ℕ) → is_count y count ≡ true → count_in (as_pack y count c) ≡ count
unfolding as_pack size_of count_of pick
as_count y count c h = own_counts y count h (λ (z : System) (k : ℕ). count_in (as_pack z k c) ≡ k) refl refl refl refl refl refl

-- and the audio channel's own mode: our writer marks none
pub as_own : (y : System) (count c : ℕ) → mode_in (as_pack y count c) ≡ mode_of c
unfolding as_pack
as_own y count c = omega arith

-- what is written is judged right
pub as_written : (y : System) (count c : ℕ) → is_count y count ≡ true → as_ok y c (as_pack y count c) ≡ true
unfolding as_pack
as_written y count c h = as_when y c (as_pack y count c) (record {
  header = refl;
  lf = omega (arith, size_below count);
  count = rw (as_count y count c h) h;
  chn = omega arith;
  mode = inl (as_own y count c);
  rate = omega (arith, rate_below y);
  stype = omega (arith, rate_below y);
  smp_qu = refl;
})

-- ---- as_at

-- "AS is pack 3 in even sequences, 0 in odd"
module _ (q : ℕ) where
  pub as_even : q % 2 ≡ 0 → as_at q ≡ 3
  unfolding as_at pick
  as_even h = rw h refl

  pub as_odd : q % 2 ≡ 1 → as_at q ≡ 0
  unfolding as_at pick
  as_odd h = rw h refl

pub as_below : (q : ℕ) → as_at q + 1 < 9
unfolding as_at
as_below q = pick_either (λ (k : ℕ). k + 1 < 9) _ (omega arith) (omega arith)
