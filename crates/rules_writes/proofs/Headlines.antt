-- What an edit of this crate's definitions is refused by: what the promises ask of the writer. Assumes nothing.
use Rattle.std.specs.Prelude.{Some}
use mathlib.Core.Path.{◌≡◌}
use mathlib.Core.List.{List}
use Prim.Native.Nat.{ℕ}
use lib.IntN.{ℤ}
use Rattle.promises.specs.Contents.{Contents}
use Rattle.rules_writes.specs.Write.{Wrote, contents_of, Takes, write_number}
use Rattle.paper.specs.declared.System.{System}
use Rattle.rules_format.specs.Systems.{system_of}
use Rattle.rules_writes.proofs.Write.{taken_takes, takes_taken, contents_are}
use Rattle.promises.specs.Demand2.{LaidOut}
use Rattle.promises.specs.Demand1.{WriteAnswers}
use Rattle.rules_writes.proofs.Answering
use Rattle.rules_writes.proofs.Form.{frame_laid}

-- what is lent, by the writer's parameters in their order
pub contents : (count : ℕ) (sound : List ℤ) (macroblocks time group : List ℕ)
    → contents_of count sound macroblocks time group
    ≡ record { count = count; sound = sound; macroblocks = macroblocks; time_code = time; binary_group = group }
contents = contents_are

-- ---- 1: one outcome, the number of document 01's table, a refusal that writes nothing

pub write_answers : WriteAnswers Wrote
write_answers = Answering.write_answers

-- ---- 2: every byte of a written frame

pub frame_laid_out : {k : ℕ} {l : Contents} {frame f : List ℕ} → Wrote k l frame 0 f → LaidOut k l f
frame_laid_out = frame_laid

-- what is taken, in clauses
pub takes : (k : ℕ) (y : System) → system_of k ≡ Some y → (l : Contents) (size : ℕ)
    → (write_number k l size ≡ 0 → Takes y l size) × (Takes y l size → write_number k l size ≡ 0)
takes k y known l size = (taken_takes k l size y known, takes_taken k l size y known)
