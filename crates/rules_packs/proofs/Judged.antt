-- What is judged of a pack passes exactly where document 01 finds nothing wrong with its bytes. Assumes nothing.
use Rattle.std.specs.Prelude.{Some}
use mathlib.Core.Path.{◌≡◌, refl, sym, ap, ◌∙◌, subst}
use mathlib.Core.Bool.{true, false}
use mathlib.Core.List.{List, [], ◌∷◌}
use Prim.Native.Nat.{ℕ, ◌+◌, ◌*◌, ◌/◌, ◌%◌}
use native.Mathlib.Omega.{arith}
use lib.ListN.{get_or}
use borrow.Author.Tests.{ne_eqb, eq-eqb}
use Rattle.base.proofs.Cases.{by_lt, by_bool, by_eq, clash}
use Rattle.paper.specs.declared.System.{System}
use Rattle.paper.specs.declared.System.TheVariants.{I60, I50, P60, P50}
use Rattle.paper.specs.declared.Pack.{Pack}
use Rattle.rules_format.specs.Systems.{rate_of, stype_of, system_of, counts_of, is_count, number_of_system}
use Rattle.rules_packs.specs.Vaux.{vs_at, vs_ok}
use Rattle.rules_packs.specs.Aaux.{as_at, count_of, count_in, As, as_ok}
use Rattle.paper.specs.Paper.{rate, as_pack, vs_pack, last_frame, count_by}
use Rattle.paper.specs.Bytes.{WrongDigits, WrongClock, WrongTime, OwnCount, WrongAs, WrongVs}
use Rattle.rules_format.proofs.Systems.{count_cases}
use Rattle.rules_format.proofs.Paper.{Columns, columns, number_known}
use mathlib.Core.Logic.{◌⊎◌, inl, inr, ⊎_elim, ◌≢◌}
use Rattle.rules_packs.specs.TimeCode.{time_ok, time_pack, time_taken, Digits, Clock}
use Rattle.rules_packs.proofs.Packs.{time_means, time_when, taken_means, taken_when}
use Rattle.paper.specs.Bytes.WrongAs.{wrong_header, wrong_lf, wrong_size, wrong_chn, wrong_mode, wrong_rate, wrong_stype, wrong_smp_qu}
use Rattle.rules_packs.proofs.Aaux.{as_means, as_when}
use Rattle.rules_packs.proofs.Vaux.{vs_means, vs_when}
use Rattle.rules_packs.specs.TimeCode
use Rattle.paper.specs.Bytes.WrongAs.{wrong_header, wrong_lf, wrong_size, wrong_chn, wrong_mode, wrong_rate, wrong_stype, wrong_smp_qu}

-- ---- the counts of a system

module _ (k : ℕ) (y : System) (known : system_of k ≡ Some y) (n : ℕ) where
  pub own_means : is_count y n ≡ true → OwnCount k n
  own_means e = let c = columns k y known in ⊎_elim (λ s. inl (s ∙ sym c.fewer_is)) (λ s. inr (s ∙ sym c.more_is)) (count_cases y n e)

  pub own_when : OwnCount k n → is_count y n ≡ true
  own_when o =
      let c = columns k y known in
      ⊎_elim
      (λ s. rw (eq-eqb n (counts_of y).fewer (s ∙ c.fewer_is)) refl)
      (λ s. by_eq n (counts_of y).fewer (λ a. rw (eq-eqb n _ a) refl) (λ d. rw (ne_eqb n _ d) (eq-eqb n _ (s ∙ c.more_is)))) o

-- ---- what is judged

pub vs_same : (q : ℕ) → vs_at q ≡ vs_pack q
unfolding vs_at vs_pack
vs_same q = refl

pub as_same : (q : ℕ) → as_at q ≡ as_pack q
unfolding as_at as_pack
as_same q = refl

-- the count of an AF size
pub count_by_lem : (size : ℕ) → count_of size ≡ count_by size
unfolding count_of count_by
count_by_lem size = refl

-- a mode is the audio channel's own or 1111, or neither
mode_or : {P : Type 0} (c pc2 : ℕ) → ((pc2 % 16 ≡ (c + 1) % 2) ⊎ (pc2 % 16 ≡ 0xF) → P) → (pc2 % 16 ≢ (c + 1) % 2 → pc2 % 16 ≢ 0xF → P) → P
mode_or c pc2 right wrong = by_eq (pc2 % 16) ((c + 1) % 2) (λ own. right (inl own)) (λ d. by_eq (pc2 % 16) 0xF (λ mark. right (inr mark)) (wrong d))

-- ---- digits

digits_or : {P : Type 0} (values most b : ℕ) → (Digits values most b → P) → (WrongDigits values most b → P) → P
digits_or values most b right wrong =
    by_lt (b % 16) 10
    (λ units. by_lt most (b / 16 % values * 10 + b % 16) (λ l. wrong (inr l)) (λ g. right (record { units = units; value = g })))
    (λ g. wrong (inl g))

digits_clash : (values most b : ℕ) → Digits values most b → WrongDigits values most b → ⊥
digits_clash values most b d = ⊎_elim (λ l. omega (arith, l, d.units)) (λ l. omega (arith, l, d.value))

module _ (k : ℕ) (y : System) (known : system_of k ≡ Some y) where
  cols : Columns k y
  cols = columns k y known

  -- ---- VS

  pub vs_wrong : (p : Pack) → vs_ok y p ≡ false → WrongVs k p.pc0 p.pc3
  vs_wrong p e =
      by_eq p.pc0 0x60
      (λ a.
      by_eq (p.pc3 / 32 % 2) (rate_of y)
      (λ b.
      by_eq (p.pc3 % 32) (stype_of y)
      (λ c. absurd (clash (vs_when y p (record { header = a; rate = b; stype = c })) e))
      (λ d. inr (inr (λ z. d (z ∙ cols.stype_is)))))
      (λ d. inr (inl (λ z. d (z ∙ cols.rate_is)))))
      (λ d. inl d)

  pub vs_right : (p : Pack) → vs_ok y p ≡ true → WrongVs k p.pc0 p.pc3 → ⊥
  vs_right p e =
      let v = vs_means y p e in
      ⊎_elim (λ d. d v.header) (⊎_elim (λ d. d (v.rate ∙ sym cols.rate_is)) (λ d. d (v.stype ∙ sym cols.stype_is)))

  -- ---- AS

  module _ (c : ℕ) (p : Pack) where
    abbrev Wrong : Type 0
    Wrong = WrongAs k c p.pc0 p.pc1 p.pc2 p.pc3 p.pc4

    pub as_wrong : as_ok y c p ≡ false → Wrong
    as_wrong e =
        by_eq p.pc0 0x50
        (λ header.
        by_lt p.pc1 128
        (λ lf.
        by_bool (is_count y (count_in p))
        (λ count.
        by_lt p.pc2 32
        (λ chn.
        mode_or c p.pc2
        (λ mode.
        by_eq (p.pc3 / 32 % 2) (rate_of y)
        (λ fifty.
        by_eq (p.pc3 % 32) 3
        (λ stype.
        by_eq (p.pc4 % 64) 0
        (λ smp_qu.
        absurd (clash (as_when y c p (record { header = header; lf = lf; count = count; chn = chn; mode = mode; rate = fifty; stype = stype; smp_qu = smp_qu })) e))
        wrong_smp_qu)
        wrong_stype)
        (λ d. wrong_rate (λ z. d (z ∙ cols.rate_is))))
        (λ d e. wrong_mode d e))
        wrong_chn)
        (λ d. wrong_size (λ o. clash (own_when k y known (count_in p) (subst (OwnCount k) (sym (count_by_lem (p.pc1 % 64))) o)) d)))
        wrong_lf)
        wrong_header

    pub as_right : as_ok y c p ≡ true → Wrong → ⊥
    as_right e = broken (as_means y c p e)
      where
        broken : As y c p → Wrong → ⊥
        broken a (wrong_header d) = d a.header
        broken a (wrong_lf l) = omega (arith, l, a.lf)
        broken a (wrong_size d) = d (subst (OwnCount k) (count_by_lem (p.pc1 % 64)) (own_means k y known (count_in p) a.count))
        broken a (wrong_chn l) = omega (arith, l, a.chn)
        broken a (wrong_mode d e) = ⊎_elim d e a.mode
        broken a (wrong_rate d) = d (a.rate ∙ sym cols.rate_is)
        broken a (wrong_stype d) = d a.stype
        broken a (wrong_smp_qu d) = d a.smp_qu

  -- ---- time code and binary group

  last_is : last_frame k ≡ TimeCode.last_frame y
  last_is = ap (λ (n : ℕ). get_or (29 ∷ 24 ∷ 29 ∷ 24 ∷ []) n 0) (number_known k y known) ∙ last_at y
    where
      last_at : (y : System) → last_frame (number_of_system y) ≡ TimeCode.last_frame y
      last_at I60 = refl
      last_at I50 = refl
      last_at P60 = refl
      last_at P50 = refl

  clock_or : {P : Type 0} (p : Pack) → (Clock y p → P) → (WrongClock k p.pc1 p.pc2 p.pc3 p.pc4 → P) → P
  clock_or p right wrong =
      digits_or 4 (last_frame k) p.pc1
      (λ frames.
      digits_or 8 59 p.pc2
      (λ seconds.
      digits_or 8 59 p.pc3
      (λ minutes.
      digits_or 4 23 p.pc4
      (λ hours.
      right (record { frames = subst (λ (m : ℕ). Digits 4 m p.pc1) (last_is) frames; seconds = seconds; minutes = minutes; hours = hours }))
      (λ w. wrong (inr (inr (inr w)))))
      (λ w. wrong (inr (inr (inl w)))))
      (λ w. wrong (inr (inl w))))
      (λ w. wrong (inl w))

  clock_clash : (p : Pack) → Clock y p → WrongClock k p.pc1 p.pc2 p.pc3 p.pc4 → ⊥
  clock_clash p c =
      ⊎_elim (λ w. digits_clash 4 (last_frame k) p.pc1 (subst (λ (m : ℕ). Digits 4 m p.pc1) (sym (last_is)) c.frames) w)
      (⊎_elim (digits_clash 8 59 p.pc2 c.seconds)
      (⊎_elim (digits_clash 8 59 p.pc3 c.minutes) (digits_clash 4 23 p.pc4 c.hours)))

  pub time_wrong : (p : Pack) → time_ok y p ≡ false → (p.pc0 ≢ 0x13) ⊎ WrongClock k p.pc1 p.pc2 p.pc3 p.pc4
  time_wrong p e = by_eq p.pc0 0x13 (λ header. clock_or p (λ right. absurd (clash (time_when y p header right) e)) (λ w. inr w)) (λ d. inl d)

  pub time_right : (p : Pack) → time_ok y p ≡ true → (p.pc0 ≢ 0x13) ⊎ WrongClock k p.pc1 p.pc2 p.pc3 p.pc4 → ⊥
  time_right p e = let m = time_means y p e in ⊎_elim (λ d. d m.0) (clock_clash p m.1)

  pub taken_wrong : (time : List ℕ) → time_taken y (time_pack time) ≡ false → WrongTime k time
  taken_wrong time e =
      clock_or (time_pack time)
      (λ c.
      by_eq (rate k) 1
      (λ fifty.
      by_eq (get_or time 0 0 / 64 % 2) 1
      (λ set. absurd (clash (taken_when y (time_pack time) (λ r. set) c) e))
      (λ d. inl (fifty, d)))
      (λ sixty. absurd (clash (taken_when y (time_pack time) (λ r. absurd (sixty (cols.rate_is ∙ r))) c) e)))
      (λ w. inr w)

  pub taken_right : (time : List ℕ) → time_taken y (time_pack time) ≡ true → WrongTime k time → ⊥
  taken_right time e =
      let m = taken_means y (time_pack time) e in
      ⊎_elim (λ b. b.1 (m.0 (sym cols.rate_is ∙ b.0))) (clock_clash (time_pack time) m.1)
