-- What a call owes follows from its number: the form of every proof of the first demand. Assumes nothing.
use mathlib.Core.Path.{◌≡◌, sym, ap, ◌∙◌, subst}
use mathlib.Core.Logic.{◌≢◌}
use Prim.Native.Nat.{ℕ}
use Rattle.base.specs.Calls.{ExactlyOne}
use Rattle.promises.specs.Refusals.{Table}
use Rattle.promises.specs.Demand1.{Answers}
use Rattle.promises.proofs.Tables.{Exactly}

-- ---- two calls on one input: a number, and a part

pub pair_one : {A B : Type 0} {P : A → Type 0} {Q : B → Type 0} → ExactlyOne A P → ExactlyOne B Q → ExactlyOne (A × B) (λ o. P o.0 × Q o.1)
pair_one p q = record {
  outcome = (p.outcome, q.outcome);
  meets = (p.meets, q.meets);
  only = λ o m i. (p.only o.0 m.0 i, q.only o.1 m.1 i);
}

-- ---- what a call owes

-- a call that answers the number of its contract answers what its table gives, and the table gives no other
pub answers : {Outcome : Type 0} {Meets : Outcome → Type 0} {answered : Outcome → ℕ} {table : Table} {Quiet : Outcome → Type 0} {due : ℕ} → ExactlyOne Outcome Meets
    → Exactly table due → ((o : Outcome) → Meets o → answered o ≡ due) → ((o : Outcome) → Meets o → answered o ≢ 0 → Quiet o)
    → ((o o' : Outcome) → answered o ≢ 0 → answered o ≡ answered o' → Quiet o → Quiet o' → o ≡ o') → Answers Outcome Meets answered table Quiet
answers {table = table} one exactly is quiet told = record {
  one = one;
  numbered = λ o m. subst table (sym (is o m)) exactly.gives;
  no_other = λ o m r given. exactly.only r given ∙ sym (is o m);
  refused = quiet;
  told = told;
}

-- what a refusal is by its number is told by its number
pub by_number : {Outcome : Type 0} (quiet : ℕ → Outcome) {r r' : ℕ} {o o' : Outcome} → r ≡ r' → o ≡ quiet r → o' ≡ quiet r' → o ≡ o'
by_number quiet e is is' = is ∙ ap quiet e ∙ sym is'
