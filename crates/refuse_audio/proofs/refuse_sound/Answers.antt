-- `refuse_audio::refuse_sound` meets its contract: one lemma for each row. Assumes nothing.
use borrow.Author.Rules.{rules}
use Rattle.refuse_audio.proofs.Ways.{sound_23, sound_24, sound_25, sound_0}
use Rattle.refuse_audio.proofs.refuse_sound.Goals as goal

pub returns-then-not-every_sequence : goal.returns-then-not-every_sequence
returns-then-not-every_sequence c = search (sound_23, rules)

pub returns-then-not-every_in_half : goal.returns-then-not-every_in_half
returns-then-not-every_in_half c = search (sound_24, rules)

pub returns-then-not-as_agree : goal.returns-then-not-as_agree
returns-then-not-as_agree c = search (sound_25, rules)

pub returns : goal.returns
returns c = search (sound_0, rules)
