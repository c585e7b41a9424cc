-- The call `salvage`: one answer and one content of each buffer for every input, a refusal writes nothing, each position by its block,
-- the same list as the survey. Assumes nothing.
use Rattle.std.specs.Prelude.{Some, None}
use mathlib.Core.Path.{◌≡◌, refl, sym, ap, ◌∙◌}
use mathlib.Core.Bool.{true, false}
use mathlib.Core.List.{List}
use Prim.Native.Nat.{ℕ, ◌+◌, ◌-◌, ◌*◌, ◌<◌}
use native.Mathlib.Omega.{arith}
use lib.Dec.{eqb}
use lib.IntN.{ℤ, pos}
use lib.ListN.{length, get_or}
use borrow.Author.Tests.{eq-eqb, ne_eqb, eqb-true}
use Rattle.base.specs.Calls.{first_of, ExactlyOne}
use Rattle.base.specs.Pick.{pick}
use Rattle.base.proofs.Cases.{by_bool}
use Rattle.base.proofs.Picks.{pick_true, pick_false}
use Rattle.base.proofs.Runs.{length_run, length_tab, tab_at, run_element}
use Rattle.paper.specs.declared.System.{System}
use Rattle.paper.specs.declared.Survey.{Survey}
use Rattle.rules_format.specs.Systems.{sequences_of, positions_of, system_of}
use Rattle.rules_format.specs.Samples.{lost, number_of}
use Rattle.rules_surveys.specs.FaultLists.{faults_in}
use Rattle.rules_surveys.specs.Survey.{survey_number, refusal, survey_answer, survey_left, FrameSurveyed}
use Rattle.rules_format.specs.Reading.{sound_named, read_sample, salvaged_sample}
use Rattle.rules_surveys.specs.Salvage.{salvaged_channel, salvaged, salvage_number, salvage_left, Salvaged}
use Rattle.rules_surveys.proofs.Calls.{survey_refused, survey_0}
use Rattle.rules_format.proofs.Reading.{salvaged_named, salvaged_lost}

-- ---- salvaged: position t of audio channel c

pub channel_positions : (y : System) (frame : List ℕ) (c : ℕ) → length (salvaged_channel y frame c) ≡ positions_of y
unfolding salvaged_channel
channel_positions y frame c = length_tab _ (positions_of y)

pub salvaged_length : (y : System) (frame : List ℕ) → length (salvaged y frame) ≡ 8 * positions_of y
unfolding salvaged
salvaged_length y frame = length_run (positions_of y) _ (λ i. channel_positions y frame _) 8

module _ (y : System) (frame : List ℕ) (c t : ℕ) (c1 : 0 < c) (c8 : c < 9) (ht : t < positions_of y) where
  pub salvaged_at : get_or (salvaged y frame) ((c - 1) * positions_of y + t) (pos 0) ≡ number_of (salvaged_sample y frame c t)
  unfolding salvaged salvaged_channel
  salvaged_at =
      let e : c - 1 + 1 ≡ c = omega arith in
      run_element (pos 0) (positions_of y) (λ (i : ℕ). salvaged_channel y frame (i + 1)) (λ i. channel_positions y frame (i + 1)) (c - 1) 8 t (omega arith) ht
      ∙ tab_at (pos 0) (λ (i : ℕ). number_of (salvaged_sample y frame (c - 1 + 1) i)) t (positions_of y) ht
      ∙ ap (λ (x : ℕ). number_of (salvaged_sample y frame x t)) e

  -- the word's sample where its block names its place, lost where it does not
  pub position_named : sound_named y frame c t ≡ true → get_or (salvaged y frame) ((c - 1) * positions_of y + t) (pos 0) ≡ number_of (read_sample y frame c t)
  position_named e = salvaged_at ∙ ap number_of (salvaged_named y frame c t e)

  pub position_lost : sound_named y frame c t ≡ false → get_or (salvaged y frame) ((c - 1) * positions_of y + t) (pos 0) ≡ lost
  position_lost e = salvaged_at ∙ ap number_of (salvaged_lost y frame c t e)

-- ---- salvage_number: each number exactly when its row is the first that holds

module _ (k : ℕ) (frame : List ℕ) (size : ℕ) where
  pub salvage_1 : system_of k ≡ None → 1 ≡ salvage_number k frame size
  unfolding salvage_number first_of pick
  salvage_1 e = rw e refl

  module _ (y : System) (known : system_of k ≡ Some y) where
    pub salvage_2 : eqb (length frame) (48000 * sequences_of y) ≡ false → 2 ≡ salvage_number k frame size
    unfolding salvage_number first_of pick
    salvage_2 e = rw (known, e) refl

    module _ (whole : eqb (length frame) (48000 * sequences_of y) ≡ true) where
      pub salvage_4 : eqb size (8 * positions_of y) ≡ false → 4 ≡ salvage_number k frame size
      unfolding salvage_number first_of pick
      salvage_4 e = rw (known, whole, e) refl

      pub salvage_0 : eqb size (8 * positions_of y) ≡ true → 0 ≡ salvage_number k frame size
      unfolding salvage_number first_of pick
      salvage_0 e = rw (known, whole, e) refl

    -- 0 says that the frame and the samples fit the system
    pub salvage_zero : salvage_number k frame size ≡ 0 → (length frame ≡ 48000 * sequences_of y) × (size ≡ 8 * positions_of y)
    salvage_zero z =
        by_bool (eqb (length frame) (48000 * sequences_of y))
        (λ whole.
        by_bool (eqb size (8 * positions_of y))
        (λ room. (eqb-true _ _ whole, eqb-true _ _ room))
        (λ e. absurd (omega (arith, z, salvage_4 whole e))))
        (λ e. absurd (omega (arith, z, salvage_2 e)))

-- ---- salvage

pub salvage_one : (k : ℕ) (frame : List ℕ) (samples : List ℤ) (list : List ℕ)
    → ExactlyOne (Survey × List ℤ × List ℕ) (λ o. Salvaged k frame samples list o.0 o.1 o.2)
unfolding survey_answer survey_left
salvage_one k frame samples list = record {
  outcome = (
    survey_answer (salvage_number k frame (length samples)) (faults_in (system_of k) frame) list,
    salvage_left k frame samples,
    survey_left (salvage_number k frame (length samples)) (faults_in (system_of k) frame) list,
  );
  meets = record { survey = record { answer = refl; left = refl }; left = refl };
  only = λ o m i. (m.survey.answer i, m.left i, m.survey.left i);
}

module _ {k : ℕ} {frame : List ℕ} {samples samples' : List ℤ} {list list' : List ℕ} {r : Survey} (s : Salvaged k frame samples list r samples' list') where
  -- a refusal answers its number and zeros, and leaves both buffers as they came
  pub salvage_refused : (salvage_number k frame (length samples) ≡ 0 → ⊥) → (r ≡ refusal (salvage_number k frame (length samples))) × (samples' ≡ samples) × (list' ≡ list)
  unfolding salvage_left
  salvage_refused d = let v = survey_refused s.survey d in (v.0, s.left ∙ pick_false _ _ (ne_eqb _ 0 d), v.1)

  module _ (y : System) (known : system_of k ≡ Some y) (zero : salvage_number k frame (length samples) ≡ 0) where
    pub salvage_taken : samples' ≡ salvaged y frame
    unfolding salvage_left
    salvage_taken = s.left ∙ pick_true _ _ (eq-eqb _ 0 zero) ∙ rw known refl

    -- "Salvage and survey give the same list, total and kept for the same frame."
    pub salvage_surveys : FrameSurveyed k frame list r list'
    salvage_surveys =
        let e : salvage_number k frame (length samples) ≡ survey_number k (length frame) =
        zero ∙ sym (survey_0 k (length frame) y known (salvage_zero k frame (length samples) y known zero).0) in
        rw e at s.survey
