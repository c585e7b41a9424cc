-- `rescue::half::salvage_half` meets its contract: of the sequences below rank r the samples are taken and the faults noted. Assumes nothing.
use borrow.Author.Rules.{rules}
use Rattle.fault_list.proofs.Listing.{in_start, in_turn}
use Rattle.rescue.proofs.Halving.{rank_asked, rank_few, half_none, half_turn, half_salvaged}
use Rattle.rescue.proofs.half.salvage_half.Goals as goal

pub loop-r-init : goal.loop-r-init
loop-r-init c = (half_none _ _ _, in_start _ _, search rules)

pub survey_rank-requires : goal.survey_rank-requires
survey_rank-requires c = search (rank_asked, rank_few, rules)

pub take_rank-requires : goal.take_rank-requires
take_rank-requires c = search (rank_asked, rules)

pub loop-r-preserved : goal.loop-r-preserved
loop-r-preserved c = (search (half_turn, rules), search (in_turn, rules), search rules)

pub returns : goal.returns
returns c = search (half_salvaged, rules)
