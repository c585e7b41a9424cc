-- The calls `view_number`, `view` and `view_at`: "A block view uses 1, 2, 3 and its own block's 11-15."
use Rattle.std.specs.Prelude.{◌≡◌, not, ◌||◌, List, [], ◌∷◌, ℕ, eqb, leb, length, Option}
use Rattle.base.specs.Calls.{first_of, ◌when◌}
use Rattle.base.specs.Pick.{pick}
use Rattle.paper.specs.declared.System.{System}
use Rattle.paper.specs.declared.Place.{Place}
use Rattle.paper.specs.declared.Part.{Part}
use Rattle.rules_format.specs.Systems.{in_system, system_of, is_no_system, frame_bytes}
use Rattle.rules_format.specs.Blocks.{start_of, block_at, part_at, bytes_of}
use Rattle.rules_format.specs.Faults.{fault_at}
use Rattle.rules_surveys.specs.Survey.{outside_sequences}

-- the block that is viewed
abbrev pub viewed_block : Option System → List ℕ → ℕ → ℕ → ℕ → List ℕ
viewed_block s frame h q p = in_system [] (λ (y : System). block_at y frame h q p) s

unfoldable pub view_number : ℕ → List ℕ → ℕ → ℕ → Place → ℕ
view_number k frame h q p = first_of (
    1 when is_no_system (system_of k)
    ∷ 2 when not (eqb (length frame) (frame_bytes (system_of k)))
    ∷ 3 when (outside_sequences (system_of k) h q || leb 150 p.0)
    ∷ fault when not (eqb fault 0)
    ∷ [])
  where
    fault : ℕ
    fault = fault_at (viewed_block (system_of k) frame h q p.0) h q p.0

-- "the part empty exactly when the number is a refusal"
unfoldable pub view_part : ℕ → List ℕ → ℕ → ℕ → Place → List ℕ
view_part k frame h q p = pick (eqb (view_number k frame h q p) 0) (viewed_block (system_of k) frame h q p.0) []

-- the same part by its first byte and its length
abbrev pub viewed_start : Option System → ℕ → ℕ → ℕ → ℕ
viewed_start s h q p = in_system 0 (λ (y : System). start_of y h q p) s

unfoldable pub view_at : ℕ → List ℕ → ℕ → ℕ → Place → Part
view_at k frame h q p = part_at (view_number k frame h q p) (viewed_start (system_of k) h q p.0) 80

pub record ViewNumbered (k : ℕ) (frame : List ℕ) (h q : ℕ) (p : Place) (r : ℕ) : Type 0 where
  pub answer : r ≡ view_number k frame h q p

pub record Viewed (k : ℕ) (frame : List ℕ) (h q : ℕ) (p : Place) (part : List ℕ) : Type 0 where
  pub answer : part ≡ view_part k frame h q p

pub record ViewLies (k : ℕ) (frame : List ℕ) (h q : ℕ) (p : Place) (r : Part) : Type 0 where
  pub answer : r ≡ view_at k frame h q p
  -- its bytes are those that `view` answers
  pub bytes : bytes_of frame r ≡ view_part k frame h q p
