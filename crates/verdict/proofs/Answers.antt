-- What is answered of the bytes that were read. Assumes nothing.
use mathlib.Core.Path.{◌≡◌, refl, sym, ap, ◌∙◌}
use mathlib.Core.List.{List}
use Prim.Native.Nat.{ℕ, zero, suc, ◌+◌, ◌*◌, ◌/◌, ◌≤◌, ◌<◌, min}
use native.Mathlib.Nat.{min-eq_left}
use native.Mathlib.Omega.{arith}
use lib.ListN.{length}
use borrow.Author.Tests.{eq-eqb, ne_eqb}
use Rattle.base.specs.Calls.{ExactlyOne}
use Rattle.base.proofs.Cases.{by_eq, by_lt}
use Rattle.base.proofs.Picks.{pick_true, pick_false}
use Rattle.base.proofs.Runs.{run_runs}
use Rattle.paper.specs.declared.System.{System}
use Rattle.paper.specs.declared.Survey.{Survey}
use Rattle.rules_format.specs.Systems.{sequences_of, rate_of, number_of_system}
use Rattle.rules_surveys.specs.FaultLists.{part_faults, channel_faults, frame_faults}
use Rattle.rules_surveys.specs.Records.{width}
use Rattle.rules_surveys.specs.Noting.{Noted}
use Rattle.rules_surveys.specs.Survey.{refusal}
use Rattle.rules_format.proofs.Systems.{system_number, sequences_some, sequences_le, rate_sequences}
use Rattle.rules_surveys.proofs.FaultLists.{faults_sequences}
use Rattle.rules_surveys.proofs.Calls.{survey_0, survey_2, survey_done, survey_stopped, survey_taken}
use Rattle.fault_list.specs.Asked.{tallied}
use Rattle.stream.specs.declared.Reading.{Reading}
use Rattle.stream.specs.Input.{of_rate, dsf_in, system_from, read_faults, Read}
use Rattle.stream.proofs.Inputs.{count_small, count_large}
use Rattle.verdict.specs.declared.FrameLength.{FrameLength}
use Rattle.verdict.specs.declared.FrameLength.TheVariants.{Right, Wrong}
use Rattle.verdict.specs.Length.{length_number, Judged, Surveys, answer_of, Answered}

-- ---- the length

module _ (y : System) (count n : ℕ) (e : n ≡ 48000 * sequences_of y) where
  pub judged_right : count ≡ n → Judged y count Right
  judged_right r = record { right = λ _. refl; wrong = λ d. absurd (d (r ∙ e)) }

  pub judged_wrong : (count ≡ n → ⊥) → Judged y count Wrong
  judged_wrong d = record { right = λ r. absurd (d (r ∙ sym e)); wrong = λ _. refl }

pub judged_one : (y : System) (count : ℕ) → ExactlyOne FrameLength (Judged y count)
judged_one y count =
    by_eq count (48000 * sequences_of y)
    (λ e. record { outcome = Right; meets = judged_right y count _ refl e; only = λ f j. only_right f (j.right e) })
    (λ d. record { outcome = Wrong; meets = judged_wrong y count _ refl d; only = λ f j. only_wrong f (j.wrong d) })
  where
    only_right : (f : FrameLength) → length_number f ≡ 0 → f ≡ Right
    only_right Right e = refl
    only_right Wrong e = absurd (omega arith)

    only_wrong : (f : FrameLength) → length_number f ≡ 2 → f ≡ Wrong
    only_wrong Right e = absurd (omega arith)
    only_wrong Wrong e = refl

-- what the number says of the count
says_right : {y : System} {count : ℕ} → Judged y count Right → count ≡ 48000 * sequences_of y
says_right {y} {count} j = by_eq count (48000 * sequences_of y) (λ e. e) (λ d. absurd (omega (arith, j.wrong d)))

says_wrong : {y : System} {count : ℕ} → Judged y count Wrong → count ≡ 48000 * sequences_of y → ⊥
says_wrong j e = omega (arith, j.right e)

-- ---- the rate

rate_of_lem : (k : ℕ) → k < 2 → rate_of (of_rate k) ≡ k
rate_of_lem zero l = refl
rate_of_lem (suc zero) l = refl
rate_of_lem (suc (suc k)) l = absurd (omega arith)

same_sequences : (y : System) (bytes : List ℕ) → rate_of y ≡ dsf_in bytes → sequences_of (system_from bytes) ≡ sequences_of y
unfolding system_from
same_sequences y bytes e =
    rate_sequences (of_rate (dsf_in bytes)) ∙ ap (λ (k : ℕ). 10 + 2 * k) (rate_of_lem (dsf_in bytes) (omega arith) ∙ sym e) ∙ sym (rate_sequences y)

-- ---- the faults of a whole frame

frame_read : (y : System) (bytes : List ℕ) → length bytes ≡ 48000 * sequences_of y → read_faults y bytes ≡ frame_faults y bytes
unfolding read_faults frame_faults channel_faults
frame_read y bytes e =
    let n = sequences_of y in
    let k : length bytes / 12000 ≡ n * 4 = omega arith in
    let m : 4 * n ≡ n * 4 = omega arith in
    let s : n * 4 ≤ n * 4 = omega arith in
    rw (k, m, min-eq_left s) (run_runs (part_faults y bytes) n 4 (sequences_some y))

-- ---- the answer to a reading

module _ (r : Reading) (size : ℕ) (list₀ bytes list : List ℕ) (room : length list₀ ≡ size) (d : Read list₀ bytes list r) (y : System) (rate : rate_of y ≡ dsf_in bytes) where
  same : sequences_of r.system ≡ sequences_of y
  same = ap sequences_of d.system ∙ same_sequences y bytes rate

  -- the count says the length, which no cap can hide
  count_right : r.count ≡ 48000 * sequences_of r.system → length bytes ≡ 48000 * sequences_of y
  count_right e =
      by_lt (length bytes) 1000000
      (λ l. let h : length bytes ≤ 1000000 = omega arith in omega (arith, e, same, d.count, count_small (length bytes) h))
      (λ l. absurd (omega (arith, e, d.count, count_large (length bytes) l, sequences_le r.system)))

  right_count : length bytes ≡ 48000 * sequences_of y → r.count ≡ 48000 * sequences_of r.system
  right_count e =
      let h : length bytes ≤ 1000000 = omega (arith, sequences_le y) in
      omega (arith, e, same, d.count, count_small (length bytes) h)

  surveys_right : r.count ≡ 48000 * sequences_of r.system → Surveys y bytes list₀ list (tallied r.total size)
  surveys_right e =
      let whole = count_right e in
      let z = survey_0 (number_of_system y) (length bytes) y (system_number y) whole in
      let s = same_sequences y bytes rate in
      let faults : read_faults (system_from bytes) bytes ≡ frame_faults y bytes =
      frame_read (system_from bytes) bytes (whole ∙ ap (λ (k : ℕ). 48000 * k) (sym s)) ∙ faults_sequences (system_from bytes) y bytes s in
      let n : Noted list₀ 0 (frame_faults y bytes) list r.total = rw faults at d.noted in
      let done = survey_done _ (frame_faults y bytes) list₀ list r.total _ z n (ap (λ (k : ℕ). min (k / width) r.total) (sym room)) in
      record { answer = done.answer; left = λ _. (survey_taken done z).1 }

  surveys_wrong : (r.count ≡ 48000 * sequences_of r.system → ⊥) → Surveys y bytes list₀ list (refusal 2)
  surveys_wrong w =
      let two = survey_2 (number_of_system y) (length bytes) y (system_number y) (λ e. w (right_count e)) in
      record { answer = (survey_stopped _ (frame_faults y bytes) list₀ 1 (refusal 2) two refl).answer; left = λ z. absurd (omega (arith, z)) }

module _ (r : Reading) (size : ℕ) (f : FrameLength) (s : Survey) (j : Judged r.system r.count f) where
  pub answers_right : f ≡ Right → s ≡ tallied r.total size → Answered r size s
  unfolding answer_of
  answers_right e es =
      let c = says_right (rw e at j) in
      rw es
      (record {
        surveys = λ list₀ bytes list room d y rate. surveys_right r size list₀ bytes list room d y rate c;
        answer = sym (pick_true _ _ (eq-eqb _ _ c));
      })

  pub answers_wrong : f ≡ Wrong → s ≡ refusal 2 → Answered r size s
  unfolding answer_of
  answers_wrong e es =
      let c = says_wrong (rw e at j) in
      rw es
      (record {
        surveys = λ list₀ bytes list room d y rate. surveys_wrong r size list₀ bytes list room d y rate c;
        answer = sym (pick_false _ _ (ne_eqb _ _ c));
      })

pub answered_is : (r : Reading) (size : ℕ) → Answered r size (answer_of r size)
unfolding answer_of
answered_is r size =
    by_eq r.count (48000 * sequences_of r.system)
    (λ e. rw (eq-eqb r.count (48000 * sequences_of r.system) e) (answers_right r size Right _ (judged_right _ _ _ refl e) refl (pick_true _ _ refl)))
    (λ d. rw (ne_eqb r.count (48000 * sequences_of r.system) d) (answers_wrong r size Wrong _ (judged_wrong _ _ _ refl d) refl (pick_false _ _ refl)))

pub answered_one : (r : Reading) (size : ℕ) → ExactlyOne Survey (Answered r size)
answered_one r size = record { outcome = answer_of r size; meets = answered_is r size; only = λ s a. a.answer }
