-- `packs::vaux::vs_pack` meets its contract: the bytes are the definition's, and fit since rate and STYPE are small. Assumes nothing.
use native.Mathlib.Omega.{arith}
use borrow.Author.Rules.{rules}
use Rattle.rules_format.proofs.Systems.{rate_below, stype_below}
use Rattle.packs.proofs.Ways.{vs_made}
use Rattle.packs.proofs.vaux.vs_pack.Goals as goal

pub overflow_mul-pc3 : goal.overflow_mul-pc3
overflow_mul-pc3 c = omega (arith, c.rate-rate.ensures, rate_below c.args.y)

pub overflow_add-pc3 : goal.overflow_add-pc3
overflow_add-pc3 c = omega (arith, c.rate-rate.ensures, rate_below c.args.y)

pub overflow_add-pc3-2 : goal.overflow_add-pc3-2
overflow_add-pc3-2 c = omega (arith, c.rate-rate.ensures, rate_below c.args.y, c.stype-stype.ensures, stype_below c.args.y)

pub overflow_cast-result : goal.overflow_cast-result
overflow_cast-result c = omega (arith, c.rate-rate.ensures, rate_below c.args.y, c.stype-stype.ensures, stype_below c.args.y)

pub returns : goal.returns
returns c = search (vs_made, rules)
