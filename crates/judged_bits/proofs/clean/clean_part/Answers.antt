-- `judged_bits::clean::clean_part` meets its contract: the flag says whether each place below p is clear, and where it holds none of them has a fault.
-- Assumes nothing.
use mathlib.Core.Path.{◌≡◌, refl}
use mathlib.Core.Bool.{not, ◌||◌}
use lib.Dec.{eqb}
use lib.ListN.{take, drop}
use Prim.Native.Nat.{◌+◌, ◌*◌, ◌-◌}
use borrow.Author.Rules.{rules}
use Rattle.judged_bits.specs.Clean.{is_named}
use Rattle.rules_format.specs.Ids.{block_answer}
use Rattle.judged_bits.proofs.Clear.{clean_start, bits_fit, clean_named, clean_places, clear_turn, clear_places, clear_length, clear_channel, clear_sequence, named_asked, named_unasked}
use Rattle.judged_bits.proofs.clean.clean_part.Goals.{then-not-this, else-not-this, then-part-ne-SEQUENCE-via-then-part-ne-SEQUENCE, then-part-ne-SEQUENCE-via-else-part-ne-SEQUENCE+then-dif-ge-CHANNELS, then-part-ne-SEQUENCE-via-else-part-ne-SEQUENCE+else-dif-ge-CHANNELS+then-dif-ge16}
use Rattle.judged_bits.proofs.clean.clean_part.Goals as goal

pub returns-then-part-ne-SEQUENCE-clause-is : goal.returns-then-part-ne-SEQUENCE-clause-is
returns-then-part-ne-SEQUENCE-clause-is g c =
    elim c.then-part-ne-SEQUENCE.branch [
      | then-part-ne-SEQUENCE-via-then-part-ne-SEQUENCE w ↦ search (clear_length, rules)
      | then-part-ne-SEQUENCE-via-else-part-ne-SEQUENCE+then-dif-ge-CHANNELS w ↦ search (clear_channel, rules)
      | then-part-ne-SEQUENCE-via-else-part-ne-SEQUENCE+else-dif-ge-CHANNELS+then-dif-ge16 w ↦ search (clear_sequence, rules)
    ]

pub loop-p-init : goal.loop-p-init
loop-p-init g c = (refl, clean_start _)

pub overflow_add-good : goal.overflow_add-good
overflow_add-good g c = search (bits_fit, rules)

pub loop-p-preserved : goal.loop-p-preserved
loop-p-preserved g c =
    let p = c.loop-p.p in
    let named : c.if-not-this.named ≡ (not (not (eqb g.row.ASK 0)) || is_named (block_answer (take (p * 80 + 80 - p * 80) (drop (p * 80) c.args.part.now)))) =
    elim c.if-not-this.branch [ then-not-this w ↦ named_unasked _ _ _ w.if-not-this.true w.named-is | else-not-this w ↦ named_asked _ _ _ w.if-not-this.false _ w.read_block.ensures _ w.is_named-named.ensures w.named-is ]
    in
    (search (clear_turn, named, rules), search (clean_named, rules))

pub returns-clause-is : goal.returns-clause-is
returns-clause-is g c = search (clear_places, rules)

pub returns-clause-clean : goal.returns-clause-clean
returns-clause-clean g c = search (clean_places, rules)
