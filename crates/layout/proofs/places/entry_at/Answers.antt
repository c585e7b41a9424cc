-- `layout::places::entry_at` meets its contract: a lemma for each section. Assumes nothing.
use borrow.Author.Rules.{rules}
use Rattle.layout.proofs.Placing.{entry_none, entry_header, entry_subcode, entry_vaux, entry_audio, entry_video}
use Rattle.layout.proofs.places.entry_at.Goals as goal

pub returns-then-at-ge-PLACES : goal.returns-then-at-ge-PLACES
returns-then-at-ge-PLACES c = search (entry_none, rules)

pub returns-then-at-lt1 : goal.returns-then-at-lt1
returns-then-at-lt1 c = search (entry_header, rules)

pub returns-then-at-lt3 : goal.returns-then-at-lt3
returns-then-at-lt3 c = search (entry_subcode, rules)

pub returns-then-at-lt6 : goal.returns-then-at-lt6
returns-then-at-lt6 c = search (entry_vaux, rules)

pub returns-then-i-eq0 : goal.returns-then-i-eq0
returns-then-i-eq0 c = search (entry_audio, rules)

pub returns : goal.returns
returns c = search (entry_video, rules)
