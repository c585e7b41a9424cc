-- `judges::every::every_sequence` meets its contract: the loop has judged the DIF channels below h. Assumes nothing.
use Rattle.std.proofs.Common.{rules}
use Rattle.judges.proofs.Turns.{channel_turn, channels_done}
use Rattle.judges.proofs.every.every_sequence.Goals as goal

pub loop-h-preserved : goal.loop-h-preserved
loop-h-preserved c = search (channel_turn, rules)

pub returns : goal.returns
returns c = search (channels_done, rules)
