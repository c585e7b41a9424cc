-- `writer::frame::write_channel` meets its contract: the first sequences are written, and the rest is as it was. Assumes nothing.
use borrow.Author.Rules.{rules}
use Rattle.base.proofs.Filling.{filled_none}
use Rattle.writer.proofs.Whole.{sequence_asked, channel_turn, channel_done}
use Rattle.writer.proofs.frame.write_channel.Goals as goal

pub loop-q-init : goal.loop-q-init
loop-q-init c = filled_none 12000 _ _

pub write_sequence-requires : goal.write_sequence-requires
write_sequence-requires c = search (sequence_asked, rules)

pub loop-q-preserved : goal.loop-q-preserved
loop-q-preserved c = search (channel_turn, rules)

pub returns : goal.returns
returns c = search (channel_done, rules)
