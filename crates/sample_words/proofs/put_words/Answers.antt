-- `sample_words::put_words` meets its contract: the first words are written, and t is the next sample. Assumes nothing.
use native.Mathlib.Omega.{arith}
use borrow.Author.Rules.{rules}
use Rattle.base.proofs.Filling.{filled_none}
use Rattle.sample_words.proofs.Ways.{sample_within, sample_next, sample_fits, word_for_below, word_put, last_put, last_past}
use Rattle.sample_words.proofs.put_words.Goals as goal

pub loop-w-init : goal.loop-w-init
loop-w-init c = (filled_none 2 _ _, omega arith)

pub offset_bounds-samples-t : goal.offset_bounds-samples-t
offset_bounds-samples-t c = search (sample_within, rules)

pub bounds-samples-t : goal.bounds-samples-t
bounds-samples-t c = search (sample_within, rules)

pub put_word-requires : goal.put_word-requires
put_word-requires c = search (word_for_below, rules)

pub overflow_add-t : goal.overflow_add-t
overflow_add-t c = search (sample_fits, rules)

pub loop-w-preserved : goal.loop-w-preserved
loop-w-preserved c = (search (word_put, sample_within, rules), search (sample_next, rules))

pub put_word-requires-then-t-samples : goal.put_word-requires-then-t-samples
put_word-requires-then-t-samples c = search (word_for_below, rules)

pub returns-then-t-samples : goal.returns-then-t-samples
returns-then-t-samples c = search (last_put, rules)

pub returns-else-t-samples : goal.returns-else-t-samples
returns-else-t-samples c = search (last_past, rules)
