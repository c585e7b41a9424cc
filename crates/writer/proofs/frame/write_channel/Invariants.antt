use Rattle.base.proofs.Filling.{Filled}
use Rattle.rules_writes.specs.Written.{material_of, written_sequence}
use Rattle.writer.proofs.frame.write_channel.Given as goal

abbrev pub invariant-loop-q : goal.invariant-loop-q
invariant-loop-q l = Filled 12000 (written_sequence l.m.system (material_of l.m.repeated l.m.count l.m.sound.now l.m.macroblocks.now) l.h) l.q l.initial.part l.part
