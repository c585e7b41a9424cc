-- The ways out of `named_fault`, and what a fault's number says. Assumes nothing.
use mathlib.Core.Path.{◌≡◌, refl, sym, ap, ◌∙◌}
use mathlib.Core.Bool.{Bool, true, false, not}
use Prim.Native.Nat.{ℕ}
use lib.Dec.{eqb}
use borrow.Author.Tests.{eq-eqb, ne_eqb}
use denote.Enum.Bare.{sameb, same_true, same_false}
use Rattle.base.specs.Calls.{first_of}
use Rattle.base.specs.Pick.{pick}
use Rattle.base.proofs.Cases.{by_bool}
use Rattle.paper.specs.declared.Section.{Section}
use Rattle.paper.specs.contracts.Section.{the_type}
use Rattle.paper.specs.declared.BlockId.{BlockId}
use Rattle.paper.specs.declared.Entry.{Entry}
use Rattle.rules_format.specs.Places.{code_of, section_of}
use Rattle.rules_format.specs.Faults.{misnamed}
use Rattle.rules_format.proofs.Places.{section_code}

-- `==` of two sections goes by their order in the enum, which is that of their numbers in an ID
same_section : (s t : Section) {d : Bool} → d ≡ not (sameb the_type s t) → eqb (code_of s) (code_of t) ≡ not d
same_section s t e = by_bool (sameb the_type s t)
    (λ y. eq-eqb _ _ (ap code_of (same_true the_type tt s t y)) ∙ sym (ap not (e ∙ ap not y)))
    (λ n. ne_eqb _ _ (λ z. same_false the_type s t n (sym (section_code s) ∙ ap section_of z ∙ section_code t)) ∙ sym (ap not (e ∙ ap not n)))

module _ (b : BlockId) (h q : ℕ) (e : Entry) (other : Bool) (is : other ≡ not (sameb the_type b.section e.section)) where
  pub other_section : other ≡ true → 12 ≡ misnamed b h q e
  unfolding misnamed first_of pick
  other_section o = rw (same_section _ _ is ∙ ap not o) refl

  module _ (o : other ≡ false) where
    same : eqb (code_of b.section) (code_of e.section) ≡ true
    same = same_section _ _ is ∙ ap not o

    pub other_channel : (b.channel ≡ h → ⊥) → 13 ≡ misnamed b h q e
    unfolding misnamed first_of pick
    other_channel d = rw (same, ne_eqb _ _ d) refl

    module _ (c : b.channel ≡ h) where
      pub other_dseq : (b.dseq ≡ q → ⊥) → 14 ≡ misnamed b h q e
      unfolding misnamed first_of pick
      other_dseq d = rw (same, eq-eqb _ _ c, ne_eqb _ _ d) refl

      module _ (k : b.dseq ≡ q) where
        pub other_number : {r : Bool} → r ≡ not (eqb b.dbn.0 e.number.0) → r ≡ true → 15 ≡ misnamed b h q e
        unfolding misnamed first_of pick
        other_number d o = rw (same, eq-eqb _ _ c, eq-eqb _ _ k, sym d ∙ o) refl

        pub all_named : {r : Bool} → r ≡ not (eqb b.dbn.0 e.number.0) → r ≡ false → 0 ≡ misnamed b h q e
        unfolding misnamed first_of pick
        all_named d o = rw (same, eq-eqb _ _ c, eq-eqb _ _ k, sym d ∙ o) refl
