-- `stream::system_of_rate` meets its contract: the rate is 0 or it is not. Assumes nothing.
use borrow.Author.Rules.{rules}
use Rattle.stream.proofs.Inputs.{rate_other}
use Rattle.stream.proofs.system_of_rate.Goals as goal

pub returns-in_default : goal.returns-in_default
returns-in_default c = search (rate_other, rules)
