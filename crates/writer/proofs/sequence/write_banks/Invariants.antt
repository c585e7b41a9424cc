use Rattle.writer.proofs.Whole.{FilledFrom, bank_at}
use Rattle.writer.proofs.sequence.write_banks.Given as goal

abbrev pub invariant-loop-a : goal.invariant-loop-a
invariant-loop-a l = FilledFrom 480 1280 (bank_at l.bank.system l.dif.channel l.dif.sequence l.bank.source l.bank.asc l.bank.samples.now l.bank.macroblocks.now) l.a l.initial.part l.part
