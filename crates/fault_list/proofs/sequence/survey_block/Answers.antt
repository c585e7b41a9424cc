-- `fault_list::sequence::survey_block` meets its contract: the judged bits are the place's, or the fault is 0, or it is noted. Assumes nothing.
use mathlib.Core.Path.{refl}
use native.Mathlib.Omega.{arith}
use borrow.Author.Rules.{rules}
use Rattle.judged_bits.proofs.Clear.{bits_below}
use Rattle.fault_list.proofs.Noting.{bits_clean, fault_clean, fault_noted}
use Rattle.fault_list.proofs.sequence.survey_block.Goals as goal

pub overflow_add-printed : goal.overflow_add-printed
overflow_add-printed c = omega (arith, bits_below c.requires.block_asked)

pub returns-then-judged-printed : goal.returns-then-judged-printed
returns-then-judged-printed c = record { lent = refl; noted = search (bits_clean, rules) }

pub returns-in_default : goal.returns-in_default
returns-in_default c = record { lent = refl; noted = search (fault_clean, rules) }

pub returns : goal.returns
returns c = record { lent = c.note.ensures.lent; noted = search (fault_noted, rules) }
