-- What is noted in a lent list, as a loop keeps it. Assumes nothing.
use mathlib.Core.Path.{◌≡◌, refl, sym, ap, ◌∙◌}
use mathlib.Core.List.{List}
use Prim.Native.Nat.{ℕ, zero, suc, ◌+◌}
use lib.ListN.{length}
use Rattle.base.specs.Run.{run}
use Rattle.paper.specs.declared.Fault.{Fault}
use Rattle.paper.specs.declared.Survey.{Survey}
use Rattle.rules_surveys.specs.Noting.{Noted}
use Rattle.rules_surveys.specs.Survey.{refusal, Surveyed}
use Rattle.rules_surveys.proofs.Calls.{survey_stopped}
use Rattle.rules_surveys.proofs.Records.{noted_start, noted_turn}
use Rattle.fault_list.specs.declared.list.FaultList.{FaultList}
use Rattle.fault_list.specs.Listed.{NotedIn}

pub in_start : (f : ℕ → List Fault) (l : FaultList) → NotedIn l (run f 0) l
in_start f l = record { lent = refl; noted = noted_start f l.numbers.now l.total }

pub in_turn : (f : ℕ → List Fault) (i : ℕ) {l m n : FaultList} → NotedIn l (run f i) m → NotedIn m (f i) n → NotedIn l (run f (i + 1)) n
in_turn f i a b = record { lent = b.lent ∙ a.lent; noted = noted_turn f i a.noted b.noted }

-- ---- a list that was lent as `old` comes back as list'

module _ {fs : List Fault} (old new : FaultList) (list list' : List ℕ) (n : NotedIn old fs new) (e : old.numbers.now ≡ list)
    (back : (length list' ≡ length list) × (old.numbers.ghost_name ≡ new.numbers.ghost_name → list' ≡ new.numbers.now)) where
  left : list' ≡ new.numbers.now
  left = back.1 (sym n.lent)

  pub in_noted : Noted list old.total fs list' new.total
  in_noted = rw left (rw e at n.noted)

  pub in_size : length new.numbers.now ≡ length list
  in_size = ap length (sym left) ∙ back.0

-- ---- a refusal, by its number

pub refused_by : (number : ℕ) (fs : List Fault) (list : List ℕ) (n : ℕ) (r : Survey) → number ≡ n → (n ≡ 0 → ⊥) → r ≡ refusal n → Surveyed number fs list r list
refused_by number fs list zero r e d er = absurd (d refl)
refused_by number fs list (suc n) r e d er = survey_stopped number fs list n r e er
