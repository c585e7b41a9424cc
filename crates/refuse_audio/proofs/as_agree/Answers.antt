-- `refuse_audio::as_agree` meets its contract: by the first AS. Assumes nothing.
use borrow.Author.Rules.{rules}
use Rattle.refuse_audio.proofs.Ways.{agree_way}
use Rattle.refuse_audio.proofs.as_agree.Goals as goal

pub returns : goal.returns
returns c = search (agree_way, rules)
