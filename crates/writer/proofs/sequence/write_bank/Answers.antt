-- `writer::sequence::write_bank` meets its contract: the audio block, then the video blocks behind it. Assumes nothing.
use borrow.Author.Rules.{rules}
use Rattle.writer.proofs.Whole.{videos_asked, bank_done}
use Rattle.writer.proofs.sequence.write_bank.Goals as goal

pub write_videos-requires : goal.write_videos-requires
write_videos-requires c = search (videos_asked, rules)

pub returns : goal.returns
returns c = search (bank_done, rules)
