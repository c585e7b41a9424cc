-- `rescue::half::samples_of` meets its contract: nothing, or the audio channel. Assumes nothing.
use borrow.Author.Rules.{rules}
use Rattle.rescue.proofs.Halving.{frame_whole, left_alone, audio_some, room_fits, half_asked, samples_left_lem}
use Rattle.rescue.proofs.half.samples_of.Goals as goal

pub returns-then-not-samples_fit : goal.returns-then-not-samples_fit
returns-then-not-samples_fit c = search (left_alone, rules)

pub overflow_sub-audio : goal.overflow_sub-audio
overflow_sub-audio c = search (audio_some, rules)

pub invariant_of-whole : goal.invariant_of-whole
invariant_of-whole c = record { whole = search (frame_whole, rules) }

pub take_half-requires : goal.take_half-requires
take_half-requires c = record { half_asked = search (half_asked, rules); samples_len_bound = search (room_fits, rules) }

pub returns : goal.returns
returns c = search (samples_left_lem, rules)
