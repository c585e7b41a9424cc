-- What is noted in a lent list.
use Rattle.std.specs.Prelude.{◌≡◌, List}
use Rattle.paper.specs.declared.Fault.{Fault}
use Rattle.rules_surveys.specs.Noting.{Noted}
use Rattle.fault_list.specs.declared.list.FaultList.{FaultList}

-- the faults fs are noted behind those that came before, in the same list
pub record NotedIn (old : FaultList) (fs : List Fault) (new : FaultList) : Type 0 where
  pub lent : new.numbers.ghost_name ≡ old.numbers.ghost_name
  pub noted : Noted old.numbers.now old.total fs new.numbers.now new.total
