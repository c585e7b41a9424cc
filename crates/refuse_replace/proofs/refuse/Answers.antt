-- `refuse_replace::refuse` meets its contract: one lemma for each way out. Assumes nothing.
use borrow.Author.Rules.{rules}
use Rattle.layout.proofs.Saying.{passed_on}
use Rattle.refuse_replace.proofs.Ways.{replace_stops, replace_no_channel, replace_check_stops, replace_sound_stops, replace_through}
use Rattle.refuse_replace.proofs.refuse.Goals as goal

pub returns-in_err-y-clause-said : goal.returns-in_err-y-clause-said
returns-in_err-y-clause-said c = passed_on _ _ c.from_residual.ensures.1 (replace_stops _ _ _ _ _ c.in_err-y.ensures.said)

pub returns-then-not-within-clause-said : goal.returns-then-not-within-clause-said
returns-then-not-within-clause-said c = search (replace_no_channel, c.in_ok-y.ensures.known, rules)

pub returns-in_err-refuse_known-clause-said : goal.returns-in_err-refuse_known-clause-said
returns-in_err-refuse_known-clause-said c =
    passed_on _ _ c.from_residual-in_err-refuse_known.ensures.1
    (search (replace_check_stops, c.in_ok-y.ensures.known, c.in_err-refuse_known.ensures, rules))

pub returns-in_err-refuse_sound-clause-said : goal.returns-in_err-refuse_sound-clause-said
returns-in_err-refuse_sound-clause-said c =
    passed_on _ _ c.from_residual-in_err-refuse_sound.ensures.1
    (search (replace_sound_stops, c.in_ok-y.ensures.known, c.in_ok-refuse_known.ensures, c.in_err-refuse_sound.ensures, rules))

pub returns-in_err-refuse_list-clause-said : goal.returns-in_err-refuse_list-clause-said
returns-in_err-refuse_list-clause-said c =
    passed_on _ _ c.from_residual-in_err-refuse_list.ensures.1
    (search (replace_through, c.in_ok-y.ensures.known, c.in_ok-refuse_known.ensures, c.in_ok-refuse_sound.ensures, c.in_err-refuse_list.ensures, rules))

pub returns-clause-said : goal.returns-clause-said
returns-clause-said c = search (replace_through, c.in_ok-y.ensures.known, c.in_ok-refuse_known.ensures, c.in_ok-refuse_sound.ensures, c.in_ok-refuse_list.ensures, rules)
