-- `writer::call::write_frame` meets its contract: a refusal, or the frame. Assumes nothing.
use borrow.Author.Rules.{rules}
use Rattle.writer.proofs.Whole.{write_stops, frame_asked, counts_asked, sounds_asked, pictures_asked, frame_left}
use Rattle.writer.proofs.call.write_frame.Goals as goal

pub returns-in-Err : goal.returns-in-Err
returns-in-Err c = search (write_stops, c.in-Err.ensures.said, rules)

pub invariant_of-material-clause-counts : goal.invariant_of-material-clause-counts
invariant_of-material-clause-counts c = search (counts_asked, c.in-Ok.ensures.said, c.in-Ok.ensures.known, rules)

pub invariant_of-material-clause-sounds : goal.invariant_of-material-clause-sounds
invariant_of-material-clause-sounds c = search (sounds_asked, c.in-Ok.ensures.said, c.in-Ok.ensures.known, rules)

pub invariant_of-material-clause-pictures : goal.invariant_of-material-clause-pictures
invariant_of-material-clause-pictures c = search (pictures_asked, c.in-Ok.ensures.said, c.in-Ok.ensures.known, rules)

pub fill_frame-requires : goal.fill_frame-requires
fill_frame-requires c = search (frame_asked, c.in-Ok.ensures.said, c.in-Ok.ensures.known, rules)

pub returns : goal.returns
returns c = search (frame_left, c.in-Ok.ensures.said, c.in-Ok.ensures.known, rules)
