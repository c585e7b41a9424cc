-- The call `check_frame`, and the rows of refusals that every strict read has before its own.
use Rattle.std.specs.Prelude.{◌≡◌, Bool, not, ◌||◌, List, [], ◌∷◌, ℕ, ◌+◌, eqb, length}
use Rattle.base.specs.Below.{below}
use Rattle.base.specs.Calls.{Refusal, first_of, ◌when◌}
use Rattle.paper.specs.declared.System.{System}
use Rattle.paper.specs.declared.Section.TheVariants.{Header, Vaux}
use Rattle.paper.specs.declared.Pack.{Pack}
use Rattle.paper.specs.declared.Fault.{Fault}
use Rattle.rules_format.specs.Systems.{sequences_of, system_of, is_no_system, rows_in, frame_bytes}
use Rattle.rules_format.specs.Places.{place_in}
use Rattle.rules_format.specs.Blocks.{sequence_at, block_in}
use Rattle.rules_packs.specs.Header.{dsf_ok, flagged}
use Rattle.rules_packs.specs.Vaux.{vs_at, vs_ok, vaux_block, vaux_in}
use Rattle.rules_surveys.specs.FaultLists.{frame_faults}

-- ---- conditions on sequences: a test is told the sequence's number and its 12,000 bytes

-- k sequences of DIF channel h, from sequence q on, pass
unfoldable pub every_from : System → List ℕ → ℕ → ℕ → ℕ → (ℕ → List ℕ → Bool) → Bool
every_from y frame h q k test = below (λ (r : ℕ). test (q + r) (sequence_at y frame h (q + r))) k

-- every sequence of the frame passes
unfoldable pub every_sequence : System → List ℕ → (ℕ → List ℕ → Bool) → Bool
every_sequence y frame test = below (λ (h : ℕ). every_from y frame h 0 (sequences_of y) test) 4

-- ---- what a sequence says

abbrev pub header_in : List ℕ → List ℕ
header_in part = block_in part (place_in Header 0)

-- the VS of sequence q
abbrev pub vs_in : ℕ → List ℕ → Pack
vs_in q part = vaux_in (block_in part (place_in Vaux (vaux_block (vs_at q)))) (vs_at q)

-- not 21: "some header's DSF disagrees"
abbrev pub dsf_agrees : System → ℕ → List ℕ → Bool
dsf_agrees y q part = dsf_ok y (header_in part)

-- not 22: "some VS disagrees in 60h, rate or STYPE, where its header's TF2 is 0"
abbrev pub vs_agrees : System → ℕ → List ℕ → Bool
vs_agrees y q part = flagged 2 (header_in part) || vs_ok y (vs_in q part)

-- not 23: "some header sets TF1 .., TF2 .. or TF3", by its number
abbrev pub unflagged : ℕ → ℕ → List ℕ → Bool
unflagged k q part = not (flagged k (header_in part))

-- ---- the refusals in their order

-- "of 11-15, the first faulty block in stream order, then its lowest number"
unfoldable pub first_fault : List Fault → ℕ
first_fault [] = 0
first_fault (f ∷ fs) = f.fault

abbrev pub fault_in : System → List ℕ → ℕ
fault_in y frame = first_fault (frame_faults y frame)

-- "Frame check ends at 22"
unfoldable pub check_rows : System → List ℕ → List Refusal
check_rows y frame =
    fault_in y frame when not (eqb (fault_in y frame) 0)
    ∷ 21 when not (every_sequence y frame (dsf_agrees y))
    ∷ 22 when not (every_sequence y frame (vs_agrees y))
    ∷ []

unfoldable pub check_number : ℕ → List ℕ → ℕ
check_number k frame = first_of (
    1 when is_no_system (system_of k)
    ∷ 2 when not (eqb (length frame) (frame_bytes (system_of k)))
    ∷ rows_in (system_of k) (λ (y : System). check_rows y frame))

pub record Checked (k : ℕ) (frame : List ℕ) (r : ℕ) : Type 0 where
  pub answer : r ≡ check_number k frame
