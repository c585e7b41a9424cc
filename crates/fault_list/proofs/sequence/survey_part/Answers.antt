-- `fault_list::sequence::survey_part` meets its contract: the loop has noted the faults of the places below p. Assumes nothing.
use borrow.Author.Rules.{rules}
use Rattle.judged_bits.proofs.Clear.{place_asked}
use Rattle.fault_list.proofs.Listing.{in_start}
use Rattle.fault_list.proofs.Noting.{block_few, place_turn, places_done}
use Rattle.fault_list.proofs.sequence.survey_part.Goals as goal

pub loop-p-init : goal.loop-p-init
loop-p-init c = in_start _ _

pub survey_block-requires : goal.survey_block-requires
survey_block-requires c = search (place_asked, block_few, rules)

pub loop-p-preserved : goal.loop-p-preserved
loop-p-preserved c = search (place_turn, rules)

pub returns : goal.returns
returns c = search (places_done, rules)
