-- `blocks::audio::write_audio` meets its contract: the ID, the pack and the words. Assumes nothing.
use borrow.Author.Rules.{rules}
use Rattle.blocks.proofs.Ways.{words_asked, audio_done}
use Rattle.blocks.proofs.audio.write_audio.Goals as goal

pub put_words-requires : goal.put_words-requires
put_words-requires c = search (words_asked, rules)

pub returns : goal.returns
returns c = search (audio_done, rules)
