-- `replacer::replace_audio` meets its contract: a refusal, or the replaced frame. Assumes nothing.
use borrow.Author.Rules.{rules}
use Rattle.replacer.proofs.Whole.{replace_stops, channel_some, frame_asked, frame_left}
use Rattle.replacer.proofs.replace_audio.Goals as goal

pub returns-in-Err : goal.returns-in-Err
returns-in-Err c = search (replace_stops, c.in-Err.ensures.said, rules)

pub overflow_sub-audio : goal.overflow_sub-audio
overflow_sub-audio c = search (channel_some, c.in-Ok.ensures.said, c.in-Ok.ensures.known, rules)

pub replace_channel-requires : goal.replace_channel-requires
replace_channel-requires c = search (frame_asked, c.in-Ok.ensures.said, c.in-Ok.ensures.known, rules)

pub returns : goal.returns
returns c = search (frame_left, c.in-Ok.ensures.said, c.in-Ok.ensures.known, rules)
