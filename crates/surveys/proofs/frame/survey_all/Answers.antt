-- `surveys::frame::survey_all` meets its contract: the loop has noted the faults of the DIF channels below h. Assumes nothing.
use borrow.Author.Rules.{rules}
use Rattle.fault_list.proofs.Listing.{in_start}
use Rattle.surveys.proofs.Channels.{channel_asked, channel_turn, channels_done}
use Rattle.surveys.proofs.frame.survey_all.Goals as goal

pub loop-h-init : goal.loop-h-init
loop-h-init c = in_start _ _

pub survey_channel-requires : goal.survey_channel-requires
survey_channel-requires c = search (channel_asked, rules)

pub loop-h-preserved : goal.loop-h-preserved
loop-h-preserved c = search (channel_turn, rules)

pub returns : goal.returns
returns c = search (channels_done, rules)
