-- `fault_list::list::put_record` meets its contract: the numbers in their order. Assumes nothing.
use borrow.Author.Rules.{rules}
use Rattle.rules_surveys.specs.Records.{numbers}
use Rattle.fault_list.proofs.Noting.{record_stored}
use Rattle.fault_list.proofs.list.put_record.Goals as goal

pub returns : goal.returns
unfolding numbers
returns c = search (record_stored, rules)
