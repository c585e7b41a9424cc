-- What is printed is what document 01 says of the bytes that the refills gave. Assumes nothing.
use mathlib.Core.Path.{◌≡◌, refl, sym, ◌∙◌}
use mathlib.Core.List.{List, [], ◌∷◌}
use Prim.Native.Nat.{ℕ, ◌*◌, ◌/◌, ◌<◌}
use native.Mathlib.Omega.{arith}
use lib.ListN.{length, drop, length-append}
use borrow.Author.Tests.{le-leb}
use Rattle.base.proofs.Picks.{pick_true, pick_false}
use Rattle.paper.specs.declared.System.{System}
use Rattle.paper.specs.declared.Survey.{Survey}
use Rattle.rules_format.specs.Systems.{sequences_of, rate_of, number_of_system}
use Rattle.rules_surveys.specs.FaultLists.{frame_faults}
use Rattle.rules_surveys.specs.Records.{width}
use Rattle.rules_format.proofs.Systems.{system_number, sequences_some}
use Rattle.rules_surveys.proofs.Records.{noted_length}
use Rattle.rules_surveys.proofs.Calls.{survey_2}
use Rattle.text.proofs.Known.{known_refusal}
use Rattle.report.specs.Printed.{refusal_line, survey_text, lines_of, text_in, Texted}
use Rattle.report.proofs.Said.{lines_text}
use Rattle.stream.specs.declared.Reading.{Reading}
use Rattle.stream.specs.Input.{dsf_in}
use Rattle.verdict.specs.Length.{answer_of, Answered}
use Rattle.verdict.proofs.Answers.{answered_is}
use Rattle.survey.specs.Program.{bytes_of, Ended, input_text, Said, Rooms, Surveyed}

module _ (list₀ buf list : List ℕ) (r : Reading) (room : length list₀ ≡ 64 * width) (d : Ended list₀ buf list r) (y : System)
    (rate : rate_of y ≡ dsf_in (bytes_of d.before buf r)) where
  -- the lines are the text of the bytes that the refills gave, in every system of the first block's rate
  pub program_prints : lines_of (answer_of r (length list)) list ≡ input_text y (bytes_of d.before buf r)
  program_prints =
      let size : length list ≡ length list₀ = noted_length d.read.noted in
      let s = (answered_is r (length list)).surveys list₀ (bytes_of d.before buf r) list (sym size) d.read y rate in
      let all : length list₀ / width ≡ 64 = omega arith in
      lines_text _ (frame_faults y (bytes_of d.before buf r)) list₀ list _ 65 (omega arith) s.answer s.left ∙ rw all refl

  -- "A wrong length .. prints `E`, tab, `2` only."
  pub prints_wrong_length : (length (bytes_of d.before buf r) ≡ 48000 * sequences_of y → ⊥) → lines_of (answer_of r (length list)) list ≡ 0x45 ∷ 0x09 ∷ 0x32 ∷ 0x0A ∷ []
  unfolding survey_text refusal_line
  prints_wrong_length w = program_prints ∙ rw (survey_2 (number_of_system y) (length (bytes_of d.before buf r)) y (system_number y) w) (pick_false _ _ refl) ∙ known_refusal

  -- "or fewer than four bytes"
  pub prints_too_short : length (bytes_of d.before buf r) < 4 → lines_of (answer_of r (length list)) list ≡ 0x45 ∷ 0x09 ∷ 0x32 ∷ 0x0A ∷ []
  prints_too_short l = prints_wrong_length (λ e. omega (arith, e, sequences_some y))

pub text_said : (r : Reading) (list out out' : List ℕ) (s : Survey) (n : ℕ) → Answered r (length list) s → Texted s list out out' n → Said r list out out' n
unfolding text_in
text_said r list out out' s n a t =
    let t' : Texted (answer_of r (length list)) list out out' n = rw a.answer at t in
    record {
      says = λ list₀ buf room wide d y rate.
          let e : text_in (answer_of r (length list)) list (length out) ≡ input_text y (bytes_of d.before buf r) = pick_true _ _ (le-leb 4160 (length out) wide) ∙ program_prints list₀ buf list r room d y rate in
          record { left = rw e at t'.left; count = rw e at t'.count };
      texted = t';
    }

pub input_surveyed : (buf list text buf' list' text' : List ℕ) (r : Reading) (n : ℕ) → Rooms buf list text → Ended list buf' list' r → Said r list' text text' n → Surveyed buf' text text' n
input_surveyed buf list text buf' list' text' r n a d t =
    let lines = text_in (answer_of r (length list')) list' (length text) in
    record {
      before = d.before;
      last = r.last;
      says = λ y rate. t.says list buf' a.records a.lines d y rate;
      ended = d.last;
      within = rw t.texted.left (omega (arith, t.texted.count, length-append lines (drop (length lines) text)));
    }
