-- `blocks::video::video_fits` meets its contract: by the system's numbers. Assumes nothing.
use borrow.Author.Rules.{rules}
use Rattle.blocks.proofs.Fitting.{video_fit}
use Rattle.blocks.proofs.video.video_fits.Goals as goal

pub returns : goal.returns
returns c = search (video_fit, rules)
