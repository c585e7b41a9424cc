-- What the private functions ask and say.
use Rattle.std.specs.Prelude.{◌≡◌, List, ℕ, ◌+◌, ◌*◌, ◌≤◌, ◌<◌, ℤ, length}
use Rattle.paper.specs.declared.System.{System}
use Rattle.layout.specs.Asked.{FrameKnown}
use Rattle.rules_format.specs.Systems.{sequences_of, half_of, positions_of}
use Rattle.rules_surveys.specs.FaultLists.{frame_faults}
use Rattle.rules_surveys.specs.Salvage.{salvaged}
use Rattle.fault_list.specs.declared.list.FaultList.{FaultList}
use Rattle.fault_list.specs.Listed.{NotedIn}
use Rattle.sequence_samples.specs.Taken.{Between}
use Rattle.rescue.specs.Taken.{held_sample, half_faults}

-- the sequence of rank r of audio channel i + 1
pub record RankAsked (y : System) (i r : ℕ) : Type 0 where
  pub channel : i < 8
  pub rank : r < half_of y

-- audio channel i + 1, where t faults came before
pub record HalfAsked (i t : ℕ) : Type 0 where
  pub channel : i < 8
  pub few : t ≤ 6300

-- its sound is taken, and its faults are noted
pub record HalfSalvaged (y : System) (frame : List ℕ) (i : ℕ) (samples samples' : List ℤ) (list list' : FaultList) : Type 0 where
  pub sound : Between (half_of y) 0 (9 * half_of y) (held_sample y frame (i + 1)) samples samples'
  pub noted : NotedIn list (half_faults y frame i) list'

-- the sound of every audio channel, and the faults of the frame
pub record FrameSalvaged (y : System) (frame : List ℕ) (samples' : List ℤ) (list list' : FaultList) : Type 0 where
  pub sound : samples' ≡ salvaged y frame
  pub noted : NotedIn list (frame_faults y frame) list'

-- system k is y, whose frame and samples have their lengths
pub record LentKnown (k : ℕ) (frame : List ℕ) (samples : ℕ) (y : System) : Type 0 where
  pub lies : FrameKnown k (length frame) y
  pub room : samples ≡ 8 * positions_of y
