-- The workshop of the first demand, of the writer: it has one outcome, the number that its table gives, and a refusal that writes nothing. Assumes nothing.
use mathlib.Core.Path.{sym, ◌∙◌}
use lib.ListN.{length}
use Rattle.promises.specs.Demand1.{WriteAnswers}
use Rattle.rules_writes.proofs.Write.{write_frame_one, write_refused}
use Rattle.rules_writes.proofs.Refusals.{write_exactly}
use Rattle.promises.proofs.Answering.{answers}
use Rattle.rules_writes.specs.Write.{Wrote}

pub write_answers : WriteAnswers Wrote
write_answers k l frame =
    answers (write_frame_one k l frame) (write_exactly k l (length frame)) (λ o m. m.answer) (λ o m d. write_refused m d) (λ o o' d e q q' i. (e i, (q ∙ sym q') i))
