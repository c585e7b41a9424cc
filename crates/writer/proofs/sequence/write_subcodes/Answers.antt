-- `writer::sequence::write_subcodes` meets its contract: both blocks are as their writer leaves them. Assumes nothing.
use borrow.Author.Rules.{rules}
use Rattle.rules_packs.proofs.Subcode.{subcode_length}
use Rattle.writer.specs.Blocks.{first_blocks}
use Rattle.writer.proofs.Whole.{block_wide, subcode_left}
use Rattle.writer.proofs.sequence.write_subcodes.Goals as goal

pub returns : goal.returns
unfolding first_blocks
returns c = c.write_blocks.ensures _ (block_wide _ _ _ _ (subcode_length _ _)) (λ p q k hk long e. search (subcode_left, rules))
