-- `refuse_audio::refuse` meets its contract: one lemma for each way out. Assumes nothing.
use borrow.Author.Rules.{rules}
use Rattle.layout.proofs.Saying.{passed_on}
use Rattle.refuse_audio.proofs.Ways.{audio_stops, audio_no_channel, audio_no_room, audio_check_stops, audio_through}
use Rattle.refuse_audio.proofs.refuse.Goals as goal

pub returns-in_err-y-clause-said : goal.returns-in_err-y-clause-said
returns-in_err-y-clause-said c = passed_on _ _ c.from_residual.ensures.1 (audio_stops _ _ _ _ _ c.in_err-y.ensures.said)

pub returns-then-not-within-clause-said : goal.returns-then-not-within-clause-said
returns-then-not-within-clause-said c = search (audio_no_channel, c.in_ok-y.ensures.known, rules)

pub returns-then-not-room-clause-said : goal.returns-then-not-room-clause-said
returns-then-not-room-clause-said c = search (audio_no_room, c.in_ok-y.ensures.known, rules)

pub returns-in_err-refuse_known-clause-said : goal.returns-in_err-refuse_known-clause-said
returns-in_err-refuse_known-clause-said c =
    passed_on _ _ c.from_residual-in_err-refuse_known.ensures.1
    (search (audio_check_stops, c.in_ok-y.ensures.known, c.in_err-refuse_known.ensures, rules))

pub returns-in_err-refuse_sound-clause-said : goal.returns-in_err-refuse_sound-clause-said
returns-in_err-refuse_sound-clause-said c =
    passed_on _ _ c.from_residual-in_err-refuse_sound.ensures.1
    (search (audio_through, c.in_ok-y.ensures.known, c.in_ok-refuse_known.ensures, c.in_err-refuse_sound.ensures, rules))

pub returns-clause-said : goal.returns-clause-said
returns-clause-said c = search (audio_through, c.in_ok-y.ensures.known, c.in_ok-refuse_known.ensures, c.in_ok-refuse_sound.ensures, rules)
