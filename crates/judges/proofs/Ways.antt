-- The ways out of what is asked of packs of subcode, and of the packs that come first. Assumes nothing.
use mathlib.Core.Path.{◌≡◌, refl, sym, ap, ◌∙◌}
use mathlib.Core.Bool.{Bool, true, false}
use mathlib.Core.List.{List}
use Prim.Native.Nat.{ℕ}
use lib.Dec.{eqb}
use borrow.Author.Tests.{eq-eqb, ne_eqb}
use Rattle.base.specs.Pick.{pick}
use Rattle.paper.specs.declared.System.{System}
use Rattle.paper.specs.declared.Pack.{Pack}
use Rattle.paper.specs.declared.SubcodePack.{SubcodePack}
use Rattle.paper.specs.declared.SubcodePack.TheVariants.{TimeCode, BinaryGroup, NoPack}
use Rattle.rules_format.specs.Systems.{rate_of}
use Rattle.rules_reads.specs.Audio.{as_in, first_as}
use Rattle.rules_format.specs.Sound.{dif_of}
use Rattle.rules_reads.specs.Time.{ssyb_in, time_first, group_first, with_bit6, settled, same_pack, pack_agrees}
use Rattle.judges.specs.Asked.{FirstInHalf}
use Rattle.rules_format.specs.Blocks.{sequence_at}

-- ---- packs of subcode

module _ (y : System) (p : Pack) (rate : ℕ) (er : rate ≡ rate_of y) where
  pub settled_50 : rate ≡ 1 → record { pc0 = p.pc0; pc1 = with_bit6 p.pc1; pc2 = p.pc2; pc3 = p.pc3; pc4 = p.pc4 } ≡ settled y p
  unfolding settled pick
  settled_50 e = let test : eqb (rate_of y) 1 ≡ true = eq-eqb _ _ (sym er ∙ e) in rw test refl

  pub settled_60 : (rate ≡ 1 → ⊥) → p ≡ settled y p
  unfolding settled pick
  settled_60 d = let test : eqb (rate_of y) 1 ≡ false = ne_eqb _ _ (λ z. d (er ∙ z)) in rw test refl

module _ (y : System) (time group : Pack) (kind : SubcodePack) (k : ℕ) (part : List ℕ) where
  pub time_arm : (p one other : Pack) (x : Bool) → kind ≡ TimeCode → p ≡ ssyb_in k part → one ≡ settled y p → other ≡ settled y time → x ≡ same_pack one other
      → x ≡ pack_agrees y time group kind (ssyb_in k part)
  unfolding pack_agrees
  time_arm p one other x e ep eo et ex = ex ∙ rw (eo, et, e, ep) refl

  pub group_arm : (p : Pack) (x : Bool) → kind ≡ BinaryGroup → p ≡ ssyb_in k part → x ≡ same_pack p group → x ≡ pack_agrees y time group kind (ssyb_in k part)
  unfolding pack_agrees
  group_arm p x e ep ex = ex ∙ rw (e, ep) refl

  pub none_arm : kind ≡ NoPack → true ≡ pack_agrees y time group kind (ssyb_in k part)
  unfolding pack_agrees
  none_arm e = rw e refl

-- ---- the packs that come first

module _ (y : System) (frame part : List ℕ) (p : Pack) where
  pub time_way : part ≡ sequence_at y frame 0 0 → p ≡ ssyb_in 3 part → p ≡ time_first y frame
  unfolding time_first
  time_way s e = e ∙ ap (ssyb_in 3) s

  pub group_way : part ≡ sequence_at y frame 0 0 → p ≡ ssyb_in 4 part → p ≡ group_first y frame
  unfolding group_first
  group_way s e = e ∙ ap (ssyb_in 4) s

  pub as_way : (c h q : ℕ) → FirstInHalf y c q → h ≡ dif_of c → part ≡ sequence_at y frame h q → p ≡ as_in q part → p ≡ first_as y frame c
  unfolding first_as
  as_way c h q eq eh s ep = ep ∙ ap (as_in q) s ∙ rw (eh, eq.is) refl
