-- `replacer::rank_start` meets its contract. Assumes nothing.
use native.Mathlib.Omega.{arith}
use borrow.Author.Rules.{rules}
use Rattle.replacer.proofs.Ways.{rank_small, start_is}
use Rattle.replacer.proofs.rank_start.Goals as goal

pub overflow_mul-result : goal.overflow_mul-result
overflow_mul-result c = omega (arith, rank_small _ _ _ _ c.half.ensures c.requires)

pub overflow_add-result : goal.overflow_add-result
overflow_add-result c = omega (arith, rank_small _ _ _ _ c.half.ensures c.requires)

pub overflow_cast-result : goal.overflow_cast-result
overflow_cast-result c = omega (arith, rank_small _ _ _ _ c.half.ensures c.requires)

pub overflow_mul-result-2 : goal.overflow_mul-result-2
overflow_mul-result-2 c = omega (arith, rank_small _ _ _ _ c.half.ensures c.requires)

pub returns : goal.returns
returns c = search (start_is, rules)
