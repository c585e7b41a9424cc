-- `surveys::frame::part_of` meets its contract: the sequences follow each other. Assumes nothing.
use borrow.Author.Rules.{rules}
use Rattle.surveys.proofs.Channels.{part_fits, part_cut}
use Rattle.surveys.proofs.frame.part_of.Goals as goal

pub slice_bounds-result-end : goal.slice_bounds-result-end
slice_bounds-result-end c = search (part_fits, rules)

pub returns : goal.returns
returns c = search (part_cut, rules)
