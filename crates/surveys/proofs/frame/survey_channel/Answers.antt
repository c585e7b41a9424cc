-- `surveys::frame::survey_channel` meets its contract: the loop has noted the faults of the sequences below q. Assumes nothing.
use borrow.Author.Rules.{rules}
use Rattle.fault_list.proofs.Listing.{in_start}
use Rattle.surveys.proofs.Channels.{part_asked, part_turn, parts_done}
use Rattle.surveys.proofs.frame.survey_channel.Goals as goal

pub loop-q-init : goal.loop-q-init
loop-q-init c = (search rules, in_start _ _)

pub part_of-requires : goal.part_of-requires
part_of-requires c = search (part_asked, rules)

pub loop-q-preserved : goal.loop-q-preserved
loop-q-preserved c = (search rules, search (part_turn, rules))

pub returns : goal.returns
returns c = search (parts_done, rules)
