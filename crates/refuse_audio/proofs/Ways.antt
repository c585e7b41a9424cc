-- The ways out of the audio read's refusals, a lemma a row. Assumes nothing.
use mathlib.Core.Path.{◌≡◌, refl, sym, ap, ◌∙◌}
use mathlib.Core.Bool.{Bool, true, false, not, ◌&&◌}
use mathlib.Core.List.{List}
use Prim.Native.Nat.{ℕ, ◌*◌}
use lib.Dec.{eqb}
use lib.ListN.{length}
use borrow.Author.Tests.{eq-eqb, not-true, not-false}
use Rattle.base.specs.Calls.{first_of}
use Rattle.paper.specs.declared.System.{System}
use Rattle.paper.specs.declared.Cause.{Cause}
use Rattle.paper.specs.Causes.{cause_number}
use Rattle.layout.specs.Asked.{FrameKnown, frame_rows}
use Rattle.layout.proofs.Saying.{never_zero}
use Rattle.layout.proofs.Refusing.{frame_stops}
use Rattle.paper.specs.declared.Pack.{Pack}
use Rattle.rules_format.specs.Systems.{sequences_of, positions_of, system_of}
use Rattle.rules_reads.specs.Check.{every_sequence, unflagged, check_rows}
use Rattle.rules_packs.specs.Aaux.{count_in, mode_in}
use Rattle.rules_reads.specs.Audio.{every_in_half, as_keeps, first_as, count_is, mode_is, as_agree, is_audio, audio_rows, audio_number}
use Rattle.rules_reads.proofs.Audio.{audio_23, audio_24, audio_25, audio_0, audio_3, audio_4, audio_checked, audio_rows_lem}
use Rattle.refuse_check.specs.Asked.{whole_number}
use Rattle.refuse_check.proofs.Ways.{whole_number_lem}

-- ---- as_agree

pub agree_way : (y : System) (frame : List ℕ) (c : ℕ) (first : Pack) (count mode : ℕ) (a b : Bool) → first ≡ first_as y frame c → count ≡ count_in first → mode ≡ mode_in first
    → a ≡ every_in_half y frame c (count_is count) → b ≡ every_in_half y frame c (mode_is mode) → (a && b) ≡ as_agree y frame c
unfolding as_agree
agree_way y frame c first count mode a b ef ec em ea eb = rw (ea, eb, ec, em, ef) refl

-- ---- refuse_sound: a, b and d are the three judgements

module _ (y : System) (frame : List ℕ) (c : ℕ) (a : Bool) (ea : a ≡ every_sequence y frame (unflagged 1)) where
  pub sound_23 : not a ≡ true → 23 ≡ first_of (audio_rows y frame c)
  sound_23 e = audio_23 y frame c (sym ea ∙ not-true _ e)

  module _ (oa : not a ≡ false) (b : Bool) (eb : b ≡ every_in_half y frame c (as_keeps y c)) where
    pub sound_24 : not b ≡ true → 24 ≡ first_of (audio_rows y frame c)
    sound_24 e = audio_24 y frame c (sym ea ∙ not-false _ oa) (sym eb ∙ not-true _ e)

    module _ (ob : not b ≡ false) (d : Bool) (ed : d ≡ as_agree y frame c) where
      pub sound_25 : not d ≡ true → 25 ≡ first_of (audio_rows y frame c)
      sound_25 e = audio_25 y frame c (sym ea ∙ not-false _ oa) (sym eb ∙ not-false _ ob) (sym ed ∙ not-true _ e)

      pub sound_0 : not d ≡ false → 0 ≡ first_of (audio_rows y frame c)
      sound_0 e = audio_0 y frame c (sym ea ∙ not-false _ oa) (sym eb ∙ not-false _ ob) (sym ed ∙ not-false _ e)

-- ---- refuse

module _ (k : ℕ) (frame : List ℕ) (c size : ℕ) where
  pub audio_stops : (cause : Cause) → cause_number cause ≡ first_of (frame_rows k (length frame)) → cause_number cause ≡ audio_number k frame c size
  unfolding audio_number
  audio_stops = frame_stops k (length frame) _

  module _ (y : System) (is : FrameKnown k (length frame) y) where
    whole : eqb (length frame) (48000 * sequences_of y) ≡ true
    whole = eq-eqb _ _ is.whole

    pub audio_no_channel : not (is_audio c) ≡ true → 3 ≡ audio_number k frame c size
    audio_no_channel d = audio_3 k frame c size y is.known whole (not-true _ d)

    module _ (ch : not (is_audio c) ≡ false) (p : ℕ) (ep : p ≡ positions_of y) where
      pub audio_no_room : not (eqb size p) ≡ true → 4 ≡ audio_number k frame c size
      audio_no_room d = audio_4 k frame c size y is.known whole (not-false _ ch) (ap (eqb size) (sym ep) ∙ not-true _ d)

      module _ (ro : not (eqb size p) ≡ false) where
        room : eqb size (positions_of y) ≡ true
        room = ap (eqb size) (sym ep) ∙ not-false _ ro

        pub audio_check_stops : (cause : Cause) → cause_number cause ≡ whole_number y frame → cause_number cause ≡ audio_number k frame c size
        audio_check_stops cause e =
            let checks = e ∙ whole_number_lem y frame whole in
            checks ∙ audio_checked k frame c size y is.known whole (not-false _ ch) room (λ z. never_zero cause (checks ∙ z))

        pub audio_through : 0 ≡ whole_number y frame → (i : ℕ) → i ≡ first_of (audio_rows y frame c) → i ≡ audio_number k frame c size
        audio_through z i ei = ei ∙ audio_rows_lem k frame c size y is.known whole (not-false _ ch) room (sym (z ∙ whole_number_lem y frame whole))
