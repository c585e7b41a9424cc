-- `faults::fault_of` meets its contract: answer by answer. Assumes nothing.
use mathlib.Core.Path.{refl}
use Rattle.rules_format.specs.Faults.{fault_of}
use Rattle.faults.proofs.fault_of.Goals as goal

pub returns-in-Named : goal.returns-in-Named
unfolding fault_of
returns-in-Named c = rw c.in-Named.is c.named_fault.ensures

pub returns-in-Reserved : goal.returns-in-Reserved
unfolding fault_of
returns-in-Reserved c = rw c.in-Reserved.is refl

pub returns-in-WrongLength : goal.returns-in-WrongLength
unfolding fault_of
returns-in-WrongLength c = rw c.in-WrongLength.is refl
