-- `writer::sequence::write_sequence` meets its contract: the six blocks, then the nine banks. Assumes nothing.
use borrow.Author.Rules.{rules}
use Rattle.writer.proofs.Whole.{channel_asked, samples_asked, bank_turns, sequence_done}
use Rattle.writer.proofs.sequence.write_sequence.Goals as goal

pub audio_at-c-requires : goal.audio_at-c-requires
audio_at-c-requires c = search (channel_asked, rules)

pub samples_of-requires : goal.samples_of-requires
samples_of-requires c = search (samples_asked, rules)

pub invariant_of-bank-clause-turns : goal.invariant_of-bank-clause-turns
invariant_of-bank-clause-turns c = search (bank_turns, rules)

pub returns : goal.returns
returns c = search (sequence_done, rules)
