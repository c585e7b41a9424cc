-- `writer::sequence::write_vauxes` meets its contract: the three blocks are as their writer leaves them. Assumes nothing.
use borrow.Author.Rules.{rules}
use Rattle.rules_packs.proofs.Vaux.{vaux_length}
use Rattle.writer.specs.Blocks.{first_blocks}
use Rattle.writer.proofs.Whole.{block_wide, vaux_left}
use Rattle.writer.proofs.sequence.write_vauxes.Goals as goal

pub returns : goal.returns
unfolding first_blocks
returns c = c.write_blocks.ensures _ (block_wide _ _ _ _ (vaux_length _ _ _)) (λ p q k hk long e. search (vaux_left, rules))
