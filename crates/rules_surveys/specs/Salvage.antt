-- The call `salvage`: every position of every audio channel, beside the fault list.
use Rattle.std.specs.Prelude.{◌≡◌, not, List, [], ◌∷◌, ℕ, ◌+◌, ◌*◌, eqb, ℤ, length}
use Rattle.base.specs.Calls.{first_of, ◌when◌}
use Rattle.base.specs.Pick.{pick}
use Rattle.base.specs.Run.{run, tab}
use Rattle.paper.specs.declared.System.{System}
use Rattle.paper.specs.declared.Survey.{Survey}
use Rattle.rules_format.specs.Systems.{positions_of, in_system, system_of, is_no_system, positions_in, frame_bytes}
use Rattle.rules_format.specs.Samples.{number_of}
use Rattle.rules_surveys.specs.FaultLists.{faults_in}
use Rattle.rules_surveys.specs.Survey.{Surveyed}
use Rattle.rules_format.specs.Reading.{salvaged_sample}

-- all positions of audio channel c
unfoldable pub salvaged_channel : System → List ℕ → ℕ → List ℤ
salvaged_channel y frame c = tab (λ (t : ℕ). number_of (salvaged_sample y frame c t)) (positions_of y)

-- "eight times the positions, channel after channel"
unfoldable pub salvaged : System → List ℕ → List ℤ
salvaged y frame = run (λ (i : ℕ). salvaged_channel y frame (i + 1)) 8

-- ---- the refusals in their order: "Salvage .. use[s] 1, 2, 4"; a fault list may have any length

unfoldable pub salvage_number : ℕ → List ℕ → ℕ → ℕ
salvage_number k frame size = first_of (
    1 when is_no_system (system_of k)
    ∷ 2 when not (eqb (length frame) (frame_bytes (system_of k)))
    ∷ 4 when not (eqb size (8 * positions_in (system_of k)))
    ∷ [])

-- ---- the samples: "A refusal .. writes nothing."

unfoldable pub salvage_left : ℕ → List ℕ → List ℤ → List ℤ
salvage_left k frame samples = pick (eqb (salvage_number k frame (length samples)) 0) (in_system samples (λ (y : System). salvaged y frame) (system_of k)) samples

-- system k, the frame, samples and list before, the answer r, samples and list after
pub record Salvaged (k : ℕ) (frame : List ℕ) (samples : List ℤ) (list : List ℕ) (r : Survey) (samples' : List ℤ) (list' : List ℕ) : Type 0 where
  pub survey : Surveyed (salvage_number k frame (length samples)) (faults_in (system_of k) frame) list r list'
  pub left : samples' ≡ salvage_left k frame samples
