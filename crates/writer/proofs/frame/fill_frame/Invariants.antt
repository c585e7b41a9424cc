use Prim.Native.Nat.{◌*◌}
use Rattle.base.proofs.Filling.{Filled}
use Rattle.rules_format.specs.Systems.{sequences_of}
use Rattle.rules_writes.specs.Written.{material_of, written_channel}
use Rattle.writer.proofs.frame.fill_frame.Given as goal

abbrev pub invariant-loop-h : goal.invariant-loop-h
invariant-loop-h l = Filled (sequences_of l.m.system * 12000) (written_channel l.m.system (material_of l.m.repeated l.m.count l.m.sound.now l.m.macroblocks.now)) l.h l.initial.frame l.frame
