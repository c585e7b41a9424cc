-- `rescue::call::salvage_all` meets its contract: the first audio channels are taken and their faults noted, and the rest is as it was. Assumes nothing.
use mathlib.Core.Path.{refl}
use borrow.Author.Rules.{rules}
use Rattle.fault_list.proofs.Listing.{in_start}
use Rattle.rescue.proofs.Whole.{all_none, end_fits, start_fits, bytes_fit, half_within, half_room, half_filled, half_asked, half_noted, all_salvaged}
use Rattle.rescue.proofs.call.salvage_all.Goals as goal

pub loop-i-init : goal.loop-i-init
loop-i-init c = (all_none _ _ c.positions-size.result _, in_start _ _, refl)

pub overflow_mul-at : goal.overflow_mul-at
overflow_mul-at c = search (start_fits, rules)

pub overflow_add-to : goal.overflow_add-to
overflow_add-to c = search (end_fits, rules)

pub offset_bounds-samples-at : goal.offset_bounds-samples-at
offset_bounds-samples-at c = search (bytes_fit, rules)

pub slice_bounds-salvage_half-end : goal.slice_bounds-salvage_half-end
slice_bounds-salvage_half-end c = search (half_within, rules)

pub salvage_half-requires : goal.salvage_half-requires
salvage_half-requires c = record { half_asked = search (half_asked, rules); samples_len_bound = search (half_room, rules) }

pub loop-i-preserved : goal.loop-i-preserved
loop-i-preserved c = (search (half_filled, rules), search (half_noted, rules), search rules)

pub returns : goal.returns
returns c = search (all_salvaged, rules)
