-- `rescue::half::rank_part` meets its contract: an audio channel's sequences follow those of the channels before. Assumes nothing.
use native.Mathlib.Omega.{arith}
use borrow.Author.Rules.{rules}
use Rattle.rescue.proofs.Halving.{rank_fits, rank_small, rank_cut}
use Rattle.rescue.proofs.half.rank_part.Goals as goal

pub overflow_mul-at : goal.overflow_mul-at
overflow_mul-at c = omega (arith, rank_small _ _ _ _ c.half.ensures c.args.frame.now.bytes.now c.requires)

pub overflow_add-at : goal.overflow_add-at
overflow_add-at c = omega (arith, rank_small _ _ _ _ c.half.ensures c.args.frame.now.bytes.now c.requires)

pub overflow_cast-at : goal.overflow_cast-at
overflow_cast-at c = omega (arith, rank_small _ _ _ _ c.half.ensures c.args.frame.now.bytes.now c.requires)

pub overflow_mul-at-2 : goal.overflow_mul-at-2
overflow_mul-at-2 c = omega (arith, rank_small _ _ _ _ c.half.ensures c.args.frame.now.bytes.now c.requires)

pub overflow_add-result : goal.overflow_add-result
overflow_add-result c = omega (arith, rank_small _ _ _ _ c.half.ensures c.args.frame.now.bytes.now c.requires)

pub slice_bounds-result-end : goal.slice_bounds-result-end
slice_bounds-result-end c = search (rank_fits, rules)

pub returns : goal.returns
returns c = search (rank_cut, rules)
