-- `reader::video::slot_start` meets its contract: the sum is the start, and 77 bytes end in the frame. Assumes nothing.
use Rattle.std.proofs.Common.{rules, arith}
use Rattle.rules_format.proofs.Systems.{sequences_le}
use Rattle.reader.proofs.Ways.{slot_small, start_is}
use Rattle.reader.proofs.video.slot_start.Goals as goal

pub overflow_add-result : goal.overflow_add-result
overflow_add-result c = omega (arith, slot_small _ _ _ _ c.requires _ c.place_in-p.ensures _ c.start.ensures, sequences_le c.args.y)

pub overflow_add-result-2 : goal.overflow_add-result-2
overflow_add-result-2 c = omega (arith, slot_small _ _ _ _ c.requires _ c.place_in-p.ensures _ c.start.ensures, sequences_le c.args.y)

pub returns : goal.returns
returns c = search (start_is, rules)
