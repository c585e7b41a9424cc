-- `blocks::video::put_video` meets its contract: the block, or the part as it was. Assumes nothing.
use borrow.Author.Rules.{rules}
use Rattle.blocks.proofs.Fitting.{stays, fills, video_asked}
use Rattle.blocks.proofs.video.put_video.Goals as goal

pub write_video-requires : goal.write_video-requires
write_video-requires c = search (video_asked, rules)

pub returns-then-fits : goal.returns-then-fits
returns-then-fits c = search (fills, rules)

pub returns-else-fits : goal.returns-else-fits
returns-else-fits c = search (stays, rules)
