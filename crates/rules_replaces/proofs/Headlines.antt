-- What an edit of this crate's definitions is refused by: what the promises ask of the call. Assumes nothing.
use Rattle.std.specs.Prelude.{Some}
use mathlib.Core.Path.{◌≡◌}
use mathlib.Core.List.{List}
use Prim.Native.Nat.{ℕ}
use lib.IntN.{ℤ}
use Rattle.paper.specs.declared.System.{System}
use Rattle.rules_format.specs.Systems.{system_of}
use Rattle.promises.specs.Demand1.{ReplaceAnswers}
use Rattle.promises.specs.Commentary.{Exchanged}
use Rattle.rules_replaces.specs.Replace.{replace_number, Replaced, Takes}
use Rattle.rules_replaces.proofs.Replace.{taken_takes, takes_taken}
use Rattle.rules_replaces.proofs.Answering
use Rattle.rules_replaces.proofs.Replacing.{replaces}

-- ---- 1: one outcome, the number of document 01's table, a refusal that writes nothing

pub replace_answers : ReplaceAnswers Replaced
replace_answers = Answering.replace_answers

-- ---- every byte of the frame after

pub exchanges : {k : ℕ} {f : List ℕ} {c : ℕ} {samples : List ℤ} {g : List ℕ} → Replaced k f c samples 0 g → Exchanged k f c samples g
exchanges = replaces

-- what is taken, in clauses
pub takes : (k : ℕ) (y : System) → system_of k ≡ Some y → (f : List ℕ) (c : ℕ) (samples : List ℤ)
    → (replace_number k f c samples ≡ 0 → Takes y f c samples) × (Takes y f c samples → replace_number k f c samples ≡ 0)
takes k y known f c samples = (taken_takes k f c samples y known, takes_taken k f c samples y known)
