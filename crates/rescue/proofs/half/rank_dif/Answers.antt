-- `rescue::half::rank_dif` meets its contract: even audio channels start in the second half. Assumes nothing.
use native.Mathlib.Omega.{arith}
use borrow.Author.Rules.{rules}
use Rattle.rescue.proofs.Halving.{q_is, q_small}
use Rattle.rescue.proofs.half.rank_dif.Goals as goal

pub overflow_mul-result : goal.overflow_mul-result
overflow_mul-result c = omega (arith, q_small _ c.args.i _ _ c.half.ensures c.requires)

pub overflow_add-result : goal.overflow_add-result
overflow_add-result c = omega (arith, q_small _ c.args.i _ _ c.half.ensures c.requires)

pub returns : goal.returns
returns c = search (q_is, rules)
