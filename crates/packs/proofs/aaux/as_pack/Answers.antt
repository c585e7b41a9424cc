-- `packs::aaux::as_pack` meets its contract: the bytes are the definition's, and fit since rate and size are small. Assumes nothing.
use native.Mathlib.Omega.{arith}
use borrow.Author.Rules.{rules}
use Rattle.rules_format.proofs.Systems.{rate_below}
use Rattle.rules_packs.proofs.Aaux.{size_below}
use Rattle.packs.proofs.Ways.{as_made}
use Rattle.packs.proofs.aaux.as_pack.Goals as goal

pub overflow_add-result : goal.overflow_add-result
overflow_add-result c = omega (arith, c.size_of-size.ensures, size_below c.args.count)

pub overflow_mul-result : goal.overflow_mul-result
overflow_mul-result c = omega (arith, c.rate-rate.ensures, rate_below c.args.y)

pub overflow_add-result-3 : goal.overflow_add-result-3
overflow_add-result-3 c = omega (arith, c.rate-rate.ensures, rate_below c.args.y)

pub overflow_cast-result-2 : goal.overflow_cast-result-2
overflow_cast-result-2 c = omega (arith, c.rate-rate.ensures, rate_below c.args.y)

pub returns : goal.returns
returns c = search (as_made, rules)
