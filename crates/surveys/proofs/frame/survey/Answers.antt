-- `surveys::frame::survey` meets its contract: one lemma for each way out. Assumes nothing.
use borrow.Author.Rules.{rules}
use Rattle.surveys.proofs.Ways.{frame_stopped, frame_surveyed}
use Rattle.surveys.proofs.frame.survey.Goals as goal

pub returns-in-Err : goal.returns-in-Err
returns-in-Err c = search (frame_stopped, c.in-Err.ensures.said, rules)

pub returns : goal.returns
returns c = search (frame_surveyed, c.in-Ok.ensures.known, rules)
