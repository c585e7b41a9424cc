-- `writer::sequence::write_videos` meets its contract: the fifteen blocks are as their writer leaves them. Assumes nothing.
use borrow.Author.Rules.{rules}
use Rattle.writer.specs.Blocks.{video_blocks}
use Rattle.writer.proofs.Whole.{videos_wide, video_left}
use Rattle.writer.proofs.sequence.write_videos.Goals as goal

pub returns : goal.returns
unfolding video_blocks
returns c = c.write_blocks.ensures _ (videos_wide _ _ _ _ _) (λ p q k hk long e. search (video_left, rules))
