-- What the first fault is, and the faults in stream order.
use Rattle.std.specs.Prelude.{◌≡◌, List, [], ℕ, ◌*◌, ◌/◌, ◌%◌, eqb, length, take, drop}
use Rattle.base.specs.Pick.{pick}
use Rattle.paper.specs.declared.System.{System}
use Rattle.paper.specs.declared.Fault.{Fault}
use Rattle.rules_format.specs.Systems.{sequences_of}
use Rattle.rules_surveys.specs.FaultLists.{sequence_faults}
use Rattle.rules_reads.specs.Check.{first_fault, fault_in}

-- fault is that of the first record; 0 where there is none
pub record FirstFaultIs (fault : ℕ) (fs : List Fault) : Type 0 where
  pub first : fault ≡ first_fault fs
  pub none : fault ≡ 0 → fs ≡ []

-- those of sequence j of the stream, of n a DIF channel
unfoldable pub stream_faults : List ℕ → ℕ → ℕ → List Fault
stream_faults frame n j = sequence_faults (take 12000 (drop (j * 12000) frame)) (j / n) (j % n)

-- the first fault in stream order, or 0; 2 where the frame has not its length
unfoldable pub first_or_length : System → List ℕ → ℕ
first_or_length y frame = pick (eqb (length frame) (48000 * sequences_of y)) (fault_in y frame) 2
