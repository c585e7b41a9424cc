-- `writer::frame::fill_frame` meets its contract: the first DIF channels are written, and the rest is as it was. Assumes nothing.
use borrow.Author.Rules.{rules}
use Rattle.writer.proofs.Whole.{size_fits, start_fits, end_fits, channel_within, channel_part_asked, frame_none, frame_turn, frame_done}
use Rattle.writer.proofs.frame.fill_frame.Goals as goal

pub overflow_mul-size : goal.overflow_mul-size
overflow_mul-size c = search (size_fits, rules)

pub loop-h-init : goal.loop-h-init
loop-h-init c = frame_none _ _ _

pub overflow_mul-at : goal.overflow_mul-at
overflow_mul-at c = search (start_fits, rules)

pub overflow_add-to : goal.overflow_add-to
overflow_add-to c = search (end_fits, rules)

pub slice_bounds-write_channel-end : goal.slice_bounds-write_channel-end
slice_bounds-write_channel-end c = search (channel_within, rules)

pub write_channel-requires : goal.write_channel-requires
write_channel-requires c = search (channel_part_asked, rules)

pub loop-h-preserved : goal.loop-h-preserved
loop-h-preserved c = search (frame_turn, rules)

pub returns : goal.returns
returns c = search (frame_done, rules)
