-- The ways out of the refusals of a new audio channel, a lemma a row. Assumes nothing.
use mathlib.Core.Path.{◌≡◌, sym, ap, ◌∙◌}
use mathlib.Core.Bool.{Bool, true, false, not}
use mathlib.Core.List.{List}
use Prim.Native.Nat.{ℕ, ◌*◌}
use lib.Dec.{eqb}
use lib.IntN.{ℤ}
use lib.ListN.{length}
use borrow.Author.Tests.{eq-eqb, ne_eqb, not-true, not-false}
use Rattle.base.specs.Calls.{first_of}
use Rattle.paper.specs.declared.System.{System}
use Rattle.paper.specs.declared.Cause.{Cause}
use Rattle.paper.specs.Causes.{cause_number}
use Rattle.layout.specs.Asked.{FrameKnown, frame_rows}
use Rattle.layout.proofs.Saying.{never_zero}
use Rattle.layout.proofs.Refusing.{frame_stops}
use Rattle.paper.specs.declared.Pack.{Pack}
use Rattle.rules_format.specs.Systems.{sequences_of, system_of}
use Rattle.rules_format.specs.Samples.{all_in_range}
use Rattle.rules_packs.specs.Aaux.{count_in, mode_in, is_mark}
use Rattle.rules_reads.specs.Check.{check_rows}
use Rattle.rules_reads.specs.Audio.{first_as, count_for, is_marked, is_audio, audio_rows}
use Rattle.rules_replaces.specs.Replace.{replace_rows, replace_number}
use Rattle.rules_replaces.proofs.Replace.{replace_3, replace_checked, replace_heard, replace_rows_lem, replace_29, replace_31, replace_33, replace_0}
use Rattle.refuse_check.specs.Asked.{whole_number}
use Rattle.refuse_check.proofs.Ways.{whole_number_lem}

-- ---- refuse_list: the first AS has the count and the mode; b and d are the two judgements

module _ (y : System) (frame : List ℕ) (c : ℕ) (samples : List ℤ) (first : Pack) (ef : first ≡ first_as y frame c) (count : ℕ) (ec : count ≡ count_in first) where
  count_is : count ≡ count_for y frame c
  count_is = ec ∙ ap count_in ef

  pub list_29 : (length samples ≡ count → ⊥) → 29 ≡ first_of (replace_rows y frame c samples)
  list_29 d = replace_29 y frame c samples (ne_eqb _ _ (λ e. d (e ∙ sym count_is)))

  module _ (oc : length samples ≡ count) (b : Bool) (eb : b ≡ all_in_range samples) where
    counted : eqb (length samples) (count_for y frame c) ≡ true
    counted = eq-eqb _ _ (oc ∙ count_is)

    pub list_31 : not b ≡ true → 31 ≡ first_of (replace_rows y frame c samples)
    list_31 e = replace_31 y frame c samples counted (sym eb ∙ not-true _ e)

    module _ (ob : not b ≡ false) (mode : ℕ) (em : mode ≡ mode_in first) (d : Bool) (ed : d ≡ is_mark mode) where
      marked : is_marked y frame c ≡ d
      marked = sym (ed ∙ ap is_mark (em ∙ ap mode_in ef))

      pub list_33 : d ≡ true → 33 ≡ first_of (replace_rows y frame c samples)
      list_33 e = replace_33 y frame c samples counted (sym eb ∙ not-false _ ob) (marked ∙ e)

      pub list_0 : d ≡ false → 0 ≡ first_of (replace_rows y frame c samples)
      list_0 e = replace_0 y frame c samples counted (sym eb ∙ not-false _ ob) (marked ∙ e)

-- ---- refuse

module _ (k : ℕ) (frame : List ℕ) (c : ℕ) (samples : List ℤ) where
  pub replace_stops : (cause : Cause) → cause_number cause ≡ first_of (frame_rows k (length frame)) → cause_number cause ≡ replace_number k frame c samples
  unfolding replace_number
  replace_stops = frame_stops k (length frame) _

  module _ (y : System) (is : FrameKnown k (length frame) y) where
    whole : eqb (length frame) (48000 * sequences_of y) ≡ true
    whole = eq-eqb _ _ is.whole

    pub replace_no_channel : not (is_audio c) ≡ true → 3 ≡ replace_number k frame c samples
    replace_no_channel d = replace_3 k frame c samples y is.known whole (not-true _ d)

    module _ (ch : not (is_audio c) ≡ false) where
      pub replace_check_stops : (cause : Cause) → cause_number cause ≡ whole_number y frame → cause_number cause ≡ replace_number k frame c samples
      replace_check_stops cause e =
          let checks = e ∙ whole_number_lem y frame whole in
          checks ∙ replace_checked k frame c samples y is.known whole (not-false _ ch) (λ z. never_zero cause (checks ∙ z))

      module _ (z : 0 ≡ whole_number y frame) where
        checked : first_of (check_rows y frame) ≡ 0
        checked = sym (z ∙ whole_number_lem y frame whole)

        pub replace_sound_stops : (cause : Cause) → cause_number cause ≡ first_of (audio_rows y frame c) → cause_number cause ≡ replace_number k frame c samples
        replace_sound_stops cause e = e ∙ replace_heard k frame c samples y is.known whole (not-false _ ch) checked (λ q. never_zero cause (e ∙ q))

        pub replace_through : 0 ≡ first_of (audio_rows y frame c) → (j : ℕ) → j ≡ first_of (replace_rows y frame c samples) → j ≡ replace_number k frame c samples
        replace_through q j ej = ej ∙ replace_rows_lem k frame c samples y is.known whole (not-false _ ch) checked (sym q)
