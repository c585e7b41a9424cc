-- `writer::sequence::write_banks` meets its contract: bank by bank, each from its place on. Assumes nothing.
use borrow.Author.Rules.{rules}
use Rattle.writer.proofs.Whole.{from_none, bank_ends, bank_asked, banks_turn, banks_done}
use Rattle.writer.proofs.sequence.write_banks.Goals as goal

pub loop-a-init : goal.loop-a-init
loop-a-init c = from_none 480 1280 _ _

pub slice_bounds-write_bank-end : goal.slice_bounds-write_bank-end
slice_bounds-write_bank-end c = search (bank_ends, rules)

pub write_bank-requires : goal.write_bank-requires
write_bank-requires c = search (bank_asked, rules)

pub loop-a-preserved : goal.loop-a-preserved
loop-a-preserved c = search (banks_turn, rules)

pub returns : goal.returns
returns c = search (banks_done, rules)
