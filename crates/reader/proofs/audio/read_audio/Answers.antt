-- `reader::audio::read_audio` meets its contract: one lemma for each way out; no block of a checked frame is lost. Assumes nothing.
use borrow.Author.Rules.{rules}
use Rattle.reader.proofs.Ways.{audio_stops, audio_ends, prefix_lent, audio_heard}
use Rattle.reader.proofs.audio.read_audio.Goals as goal

pub returns-in-Err : goal.returns-in-Err
returns-in-Err c = search (audio_stops, c.in-Err.ensures.said, rules)

pub slice_bounds-hear-end : goal.slice_bounds-hear-end
slice_bounds-hear-end c = search (audio_ends, c.in-Ok.ensures.said, c.in-Ok.ensures.known, rules)

pub slice_bounds-hear-end-2 : goal.slice_bounds-hear-end-2
slice_bounds-hear-end-2 c = search (prefix_lent, audio_ends, c.in-Ok.ensures.said, c.in-Ok.ensures.known, rules)

pub returns : goal.returns
returns c = search (audio_heard, c.in-Ok.ensures.said, c.in-Ok.ensures.known, rules)
