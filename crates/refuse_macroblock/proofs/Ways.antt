-- The ways out of the macroblock read's refusals, a lemma a row. Assumes nothing.
use mathlib.Core.Path.{◌≡◌, sym, ap, ◌∙◌}
use mathlib.Core.Bool.{Bool, true, false, not}
use mathlib.Core.List.{List}
use Prim.Native.Nat.{ℕ, ◌*◌}
use lib.Dec.{eqb, ltb}
use lib.ListN.{length}
use borrow.Author.Tests.{eq-eqb, not-true, not-false}
use Rattle.base.specs.Calls.{first_of}
use Rattle.paper.specs.declared.System.{System}
use Rattle.paper.specs.declared.Cause.{Cause}
use Rattle.paper.specs.Causes.{cause_number}
use Rattle.layout.specs.Asked.{FrameKnown, frame_rows}
use Rattle.layout.proofs.Saying.{never_zero}
use Rattle.layout.proofs.Refusing.{frame_stops}
use Rattle.rules_format.specs.Systems.{sequences_of, macroblocks_of, system_of}
use Rattle.rules_reads.specs.Check.{every_sequence, unflagged, check_rows}
use Rattle.rules_reads.specs.Macroblock.{picture_rows, macroblock_number, MacroblockNumbered}
use Rattle.rules_reads.proofs.Macroblock.{picture_23, picture_0, macroblock_3, macroblock_checked, macroblock_rows}
use Rattle.refuse_check.specs.Asked.{whole_number}
use Rattle.refuse_check.proofs.Ways.{whole_number_lem}

-- ---- picture_number

module _ (y : System) (frame : List ℕ) (a : Bool) (ea : a ≡ every_sequence y frame (unflagged 2)) where
  pub picture_marked : not a ≡ true → 23 ≡ first_of (picture_rows y frame)
  picture_marked e = picture_23 y frame (sym ea ∙ not-true _ e)

  pub picture_passes : not a ≡ false → 0 ≡ first_of (picture_rows y frame)
  picture_passes e = picture_0 y frame (sym ea ∙ not-false _ e)

-- ---- refuse

module _ (k : ℕ) (frame : List ℕ) (b : ℕ) where
  pub macroblock_stops : (cause : Cause) → cause_number cause ≡ first_of (frame_rows k (length frame)) → MacroblockNumbered k frame b (cause_number cause)
  unfolding macroblock_number
  macroblock_stops cause e = record { answer = frame_stops k (length frame) _ cause e }

  module _ (y : System) (is : FrameKnown k (length frame) y) (m : ℕ) (em : m ≡ macroblocks_of y) where
    whole : eqb (length frame) (48000 * sequences_of y) ≡ true
    whole = eq-eqb _ _ is.whole

    pub macroblock_none : not (ltb b m) ≡ true → MacroblockNumbered k frame b 3
    macroblock_none d = record { answer = macroblock_3 k frame b y is.known whole (ap (ltb b) (sym em) ∙ not-true _ d) }

    module _ (i : not (ltb b m) ≡ false) where
      within : ltb b (macroblocks_of y) ≡ true
      within = ap (ltb b) (sym em) ∙ not-false _ i

      pub macroblock_check_stops : (cause : Cause) → cause_number cause ≡ whole_number y frame → MacroblockNumbered k frame b (cause_number cause)
      macroblock_check_stops cause e =
          let checks = e ∙ whole_number_lem y frame whole in
          record { answer = checks ∙ macroblock_checked k frame b y is.known whole within (λ z. never_zero cause (checks ∙ z)) }

      pub macroblock_through : 0 ≡ whole_number y frame → (j : ℕ) → j ≡ first_of (picture_rows y frame) → MacroblockNumbered k frame b j
      macroblock_through z j ej = record { answer = ej ∙ macroblock_rows k frame b y is.known whole within (sym (z ∙ whole_number_lem y frame whole)) }
