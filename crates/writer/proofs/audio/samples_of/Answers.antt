-- `writer::audio::samples_of` meets its contract: the part is within the sound. Assumes nothing.
use borrow.Author.Rules.{rules}
use Rattle.writer.proofs.Whole.{samples_lent, samples_within, samples_fit, samples_end_fits, samples_bytes_fit}
use Rattle.writer.proofs.audio.samples_of.Goals as goal

pub overflow_mul-at : goal.overflow_mul-at
overflow_mul-at c = search (samples_fit, rules)

pub overflow_add-to : goal.overflow_add-to
overflow_add-to c = search (samples_end_fits, rules)

pub offset_bounds-sound-at : goal.offset_bounds-sound-at
offset_bounds-sound-at c = search (samples_bytes_fit, rules)

pub slice_bounds-result-end : goal.slice_bounds-result-end
slice_bounds-result-end c = search (samples_within, rules)

pub returns : goal.returns
returns c = search (samples_lent, rules)
