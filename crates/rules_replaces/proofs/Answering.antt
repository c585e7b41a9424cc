-- The workshop of the first demand, of this call: one outcome, the number that its table gives, and a refusal that writes nothing. Assumes nothing.
use mathlib.Core.Path.{sym, ◌∙◌}
use Rattle.promises.specs.Demand1.{ReplaceAnswers}
use Rattle.promises.proofs.Answering.{answers}
use Rattle.rules_replaces.specs.Replace.{Replaced}
use Rattle.rules_replaces.proofs.Replace.{replace_audio_one, replace_refused}
use Rattle.rules_replaces.proofs.Refusals.{replace_exactly}

pub replace_answers : ReplaceAnswers Replaced
replace_answers k frame c samples =
    answers (replace_audio_one k frame c samples) (replace_exactly k frame c samples) (λ o m. m.answer) (λ o m d. replace_refused m d)
    (λ o o' d e q q' i. (e i, (q ∙ sym q') i))
