-- `blocks::audio::put_audio` meets its contract: the block, or the part as it was. Assumes nothing.
use borrow.Author.Rules.{rules}
use Rattle.blocks.proofs.Fitting.{audio_stays, audio_fills, audio_asked}
use Rattle.blocks.proofs.audio.put_audio.Goals as goal

pub write_audio-requires : goal.write_audio-requires
write_audio-requires c = search (audio_asked, rules)

pub returns-then-fits : goal.returns-then-fits
returns-then-fits c = search (audio_fills, rules)

pub returns-else-fits : goal.returns-else-fits
returns-else-fits c = search (audio_stays, rules)
