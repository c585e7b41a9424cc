-- What is known of an input that comes refill by refill (document 01: the survey program).
use Rattle.std.specs.Prelude.{◌≡◌, List, ◌++◌, ℕ, zero, suc, ◌+◌, ◌*◌, ◌/◌, ◌%◌, ◌≤◌, min, eqb, length, take, get_or}
use Rattle.base.specs.Pick.{pick}
use Rattle.base.specs.Run.{run}
use Rattle.paper.specs.declared.System.{System}
use Rattle.paper.specs.declared.System.TheVariants.{I60, I50}
use Rattle.paper.specs.declared.Fault.{Fault}
use Rattle.rules_format.specs.Systems.{sequences_of}
use Rattle.rules_surveys.specs.FaultLists.{part_faults}
use Rattle.rules_surveys.specs.Noting.{Noted}
use Rattle.fault_list.specs.Asked.{next_faults}
use Rattle.stream.specs.declared.Reading.{Reading}

-- ---- what the bytes of an input say

-- the 1080 system of a rate
abbrev pub of_rate : ℕ → System
of_rate zero = I60
of_rate (suc k) = I50

-- "The first block's DSF bit gives the rate": bit 7 of byte 3. An input that has none is taken for 60 Hz, and has a wrong length
abbrev pub dsf_in : List ℕ → ℕ
dsf_in bytes = get_or bytes 3 0 / 128 % 2

unfoldable pub system_from : List ℕ → System
system_from bytes = of_rate (dsf_in bytes)

-- the faults of the k-th sequence
abbrev pub nth_faults : System → List ℕ → ℕ → List Fault
nth_faults y bytes k = part_faults y bytes (k / sequences_of y) (k % sequences_of y)

-- how many sequences of a frame of the system are there whole
abbrev pub whole_in : System → ℕ → ℕ
whole_in y size = min (size / 12000) (4 * sequences_of y)

unfoldable pub read_faults : System → List ℕ → List Fault
read_faults y bytes = run (nth_faults y bytes) (whole_in y (length bytes))

-- bytes are counted up to here, which is more than any frame has
abbrev pub counted_to : ℕ
counted_to = 1000000

-- r and list, which was list₀, are what the bytes say
pub record Read (list₀ bytes list : List ℕ) (r : Reading) : Type 0 where
  pub noted : Noted list₀ 0 (read_faults (system_from bytes) bytes) list r.total
  pub system : r.system ≡ system_from bytes
  pub count : r.count ≡ min (length bytes) counted_to

-- before the first refill
abbrev pub nothing : Reading
nothing = record { count = 0; system = I60; total = 0; last = 0 }

-- ---- one part more

-- after `count` bytes of a system: the first part decides
unfoldable pub system_after : ℕ → System → List ℕ → System
system_after count y part = pick (eqb count 0) (system_from part) y

abbrev pub next_system : Reading → List ℕ → System
next_system r part = system_after r.count r.system part

-- the faults that the part adds, in a system of n sequences, after k sequences
abbrev pub faults_after : System → ℕ → List ℕ → ℕ → List Fault
faults_after y k part t = next_faults y (k / sequences_of y) (k % sequences_of y) part t

-- behind bytes that are whole sequences, a part of at most one more is read on
pub record Next (r : Reading) (part list : List ℕ) (s : Reading) (list' : List ℕ) : Type 0 where
  pub read : (list₀ bytes : List ℕ) → length bytes % 12000 ≡ 0 → length part ≤ 12000 → Read list₀ bytes list r → Read list₀ (bytes ++ part) list' s
  pub noted : Noted list r.total (faults_after (next_system r part) (r.count / 12000) part r.total) list' s.total
  pub system : s.system ≡ next_system r part
  pub count : s.count ≡ min (r.count + length part) counted_to
  pub last : s.last ≡ length part

-- a refill gives the first `got` bytes of the buffer, and they are read on
abbrev pub Refilled : Reading → ℕ → List ℕ → List ℕ → Reading → List ℕ → Type 0
Refilled r got buf list s list' = Next r (take got buf) list s list'
