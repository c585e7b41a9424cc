-- What `next_faults` is, and the ways out of `survey_next`: o is what `outside` answers. Assumes nothing.
use Rattle.std.specs.Prelude.{Some}
use mathlib.Core.Path.{◌≡◌, refl, sym, ap, ◌∙◌}
use mathlib.Core.List.{List, []}
use mathlib.Core.Bool.{Bool, true, false, not, ◌&&◌}
use Prim.Native.Nat.{ℕ, ◌≤◌, ◌<◌}
use native.Mathlib.Omega.{arith}
use lib.Dec.{eqb, ltb}
use lib.ListN.{length}
use borrow.Author.Tests.{eq-eqb, ne_eqb, lt-leb, lt-ltb, le-ltb}
use Rattle.base.proofs.Picks.{pick_true, pick_false}
use Rattle.paper.specs.declared.System.{System}
use Rattle.rules_format.specs.Systems.{sequences_of}
use Rattle.rules_surveys.specs.FaultLists.{sequence_faults}
use Rattle.rules_surveys.specs.Noting.{Noted}
use Rattle.rules_surveys.specs.Survey.{outside_sequences}
use Rattle.rules_format.proofs.Systems.{sequences_le}
use Rattle.rules_surveys.proofs.Records.{noted_none}
use Rattle.rules_surveys.proofs.Calls.{inside_means}
use Rattle.judged_bits.specs.Clean.{PartAsked, Clean}
use Rattle.fault_list.specs.Asked.{next_faults}

module _ (y : System) (h q : ℕ) (part : List ℕ) (t : ℕ) (o : Bool) (eo : o ≡ outside_sequences (Some y) h q) where
  pub none_outside : o ≡ true → next_faults y h q part t ≡ []
  unfolding next_faults
  none_outside e = pick_false _ _ (ap (λ (b : Bool). not b && (eqb (length part) 12000 && ltb t 8000)) (sym eo ∙ e))

  module _ (f : o ≡ false) where
    inside : not (outside_sequences (Some y) h q) ≡ true
    inside = ap not (sym eo ∙ f)

    pub none_length : (length part ≡ 12000 → ⊥) → next_faults y h q part t ≡ []
    unfolding next_faults
    none_length d = pick_false _ _ (rw (inside, ne_eqb _ _ d) refl)

    module _ (e : length part ≡ 12000) where
      none_full : 8000 ≤ t → next_faults y h q part t ≡ []
      unfolding next_faults
      none_full l = pick_false _ _ (rw (inside, eq-eqb _ _ e, le-ltb t 8000 l) refl)

      pub all_next : t < 8000 → next_faults y h q part t ≡ sequence_faults part h q
      unfolding next_faults
      all_next l = pick_true _ _ (rw (inside, eq-eqb _ _ e, lt-ltb t 8000 l) refl)

module _ (y : System) (h q : ℕ) (part list : List ℕ) (t : ℕ) (o : Bool) (eo : o ≡ outside_sequences (Some y) h q) where
  noted : next_faults y h q part t ≡ [] → Noted list t (next_faults y h q part t) list t
  noted e = rw e (noted_none list t)

  pub next_outside : o ≡ true → Noted list t (next_faults y h q part t) list t
  next_outside e = noted (none_outside y h q part t o eo e)

  module _ (f : o ≡ false) where
    pub next_wrong_length : (length part ≡ 12000 → ⊥) → Noted list t (next_faults y h q part t) list t
    next_wrong_length d = noted (none_length y h q part t o eo f d)

    module _ (e : length part ≡ 12000) where
      pub next_full : 8000 ≤ t → Noted list t (next_faults y h q part t) list t
      next_full l = noted (none_full y h q part t o eo f e l)

      pub next_clean : t < 8000 → (r : Bool) → Clean r (sequence_faults part h q) → r ≡ true → Noted list t (next_faults y h q part t) list t
      next_clean l r c s = noted (all_next y h q part t o eo f e l ∙ c.none s)

      pub next_surveyed : t < 8000 → (list' : List ℕ) (r : ℕ) → Noted list t (sequence_faults part h q) list' r → Noted list t (next_faults y h q part t) list' r
      next_surveyed l list' r n = rw (all_next y h q part t o eo f e l) n

-- a sequence of the system, after few faults
pub next_inside : (y : System) (h q : ℕ) (part : List ℕ) (t : ℕ) → h < 4 → q < sequences_of y → length part ≡ 12000 → t < 8000 → next_faults y h q part t ≡ sequence_faults part h q
unfolding next_faults
next_inside y h q part t hh hq e l = rw (lt-leb _ _ hh, lt-leb _ _ hq, eq-eqb _ _ e, lt-ltb t 8000 l) (pick_true _ _ refl)

-- what is asked of the sequence
pub next_asked : (y : System) (h q : ℕ) (part : List ℕ) (o : Bool) → o ≡ outside_sequences (Some y) h q → o ≡ false → length part ≡ 12000 → PartAsked part h q
next_asked y h q part o eo f e =
    let i = inside_means y h q (sym eo ∙ f) in
    record { whole = e; sequence = record { channel = i.0; sequence = omega (arith, i.1, sequences_le y) } }
