-- Laws of a block's fault. Assumes nothing.
use mathlib.Core.Path.{◌≡◌, refl, ap}
use mathlib.Core.Bool.{true, false}
use mathlib.Core.List.{List, ◌++◌}
use mathlib.Core.Logic.{◌⊎◌, inl, inr}
use Prim.Native.Nat.{ℕ, ◌≤◌, ◌<◌}
use native.Mathlib.Omega.{arith}
use lib.ListN.{length, take}
use lib.Seq.{length-take-le}
use borrow.Author.Tests.{eq-eqb, ne_eqb, eqb-true, eqb-false, not-false}
use Rattle.base.specs.Calls.{first_of}
use Rattle.base.specs.Pick.{pick}
use Rattle.base.proofs.Picks.{first_zero, pick_either}
use Rattle.paper.specs.declared.BlockNumber.{BlockNumber}
use Rattle.paper.specs.declared.Entry.{Entry}
use Rattle.paper.specs.declared.BlockId.{BlockId}
use Rattle.paper.specs.declared.Spare.{Spare}
use Rattle.paper.specs.declared.IdAnswer.{IdAnswer}
use Rattle.paper.specs.declared.IdAnswer.TheVariants.{Named, Reserved, WrongLength}
use Rattle.rules_format.specs.Places.{code_of, place, entry_at}
use Rattle.rules_format.specs.Ids.{block_answer, id_bytes, id_at}
use Rattle.rules_format.specs.Faults.{misnamed, fault_of, fault_at, NamesPlace, names}
use Rattle.rules_format.proofs.Places.{code_one, number_below}
use Rattle.rules_format.proofs.Ids.{answer_written, answer_long}

-- no fault, or one of 11 to 15
abbrev pub FaultNumber : ℕ → Type 0
FaultNumber k = (k ≡ 0) ⊎ ((10 < k) × (k < 16))

-- ---- misnamed: 0 exactly when section, channel, Dseq and DBN are all the place's

module _ (b : BlockId) (h q : ℕ) (e : Entry) where
  misnamed_zero : misnamed b h q e ≡ 0 → (b.section ≡ e.section) × (b.channel ≡ h) × (b.dseq ≡ q) × (b.dbn ≡ e.number)
  unfolding misnamed
  misnamed_zero z =
      let s = first_zero _ _ _ z in
      let c = first_zero _ _ _ s.1 in
      let d = first_zero _ _ _ c.1 in
      let n = first_zero _ _ _ d.1 in
      let k : b.dbn.0 ≡ e.number.0 = eqb-true _ _ (not-false _ n.0) in
      (code_one _ _ (eqb-true _ _ (not-false _ s.0)), eqb-true _ _ (not-false _ c.0), eqb-true _ _ (not-false _ d.0), λ i. record { 0 = k i })

  pub misnamed_none : b.section ≡ e.section → b.channel ≡ h → b.dseq ≡ q → b.dbn ≡ e.number → misnamed b h q e ≡ 0
  unfolding misnamed first_of pick
  misnamed_none s c d n = rw (eq-eqb _ _ (ap code_of s), eq-eqb _ _ c, eq-eqb _ _ d, eq-eqb _ _ (ap (λ (k : BlockNumber). k.0) n)) refl

  misnamed_within : FaultNumber (misnamed b h q e)
  unfolding misnamed first_of
  misnamed_within =
      pick_either FaultNumber _ (inr (omega arith, omega arith))
      (pick_either FaultNumber _ (inr (omega arith, omega arith))
      (pick_either FaultNumber _ (inr (omega arith, omega arith))
      (pick_either FaultNumber _ (inr (omega arith, omega arith))
      (inl refl))))

-- ---- fault_of

-- the spare bits are not asked
pub fault_named : (b : BlockId) (s : Spare) (h q : ℕ) (e : Entry) → fault_of (Named b s) h q e ≡ misnamed b h q e
unfolding fault_of
fault_named b s h q e = refl

-- ---- fault_at

-- "A block names its place when section, channel, Dseq and DBN all do."
pub fault_names : (block : List ℕ) (h q p : ℕ) → fault_at block h q p ≡ 0 → NamesPlace block h q p
unfolding fault_at fault_of
fault_names block h q p z = by_answer (block_answer block) refl z
  where
    by_answer : (a : IdAnswer) → block_answer block ≡ a → fault_of a h q (entry_at (place p)) ≡ 0 → NamesPlace block h q p
    by_answer (Named b s) e f =
        let m = misnamed_zero b h q (entry_at (place p)) f in
        record { id = b; spare = s; named = e; section = m.0; channel = m.1; dseq = m.2; dbn = m.3 }
    by_answer Reserved e f = absurd (omega arith)
    by_answer WrongLength e f = absurd (omega arith)

pub names_fault : (block : List ℕ) (h q p : ℕ) → NamesPlace block h q p → fault_at block h q p ≡ 0
unfolding fault_at fault_of
names_fault block h q p n =
    rw n.named (misnamed_none n.id h q (entry_at (place p)) n.section n.channel n.dseq n.dbn)

-- and so what `names` says
pub names_place : (block : List ℕ) (h q p : ℕ) → names block h q p ≡ true → NamesPlace block h q p
names_place block h q p e = fault_names block h q p (eqb-true _ _ e)

pub names_none : (block : List ℕ) (h q p : ℕ) → names block h q p ≡ false → NamesPlace block h q p → ⊥
names_none block h q p e n = eqb-false _ _ e (names_fault block h q p n)

-- "reserved section"; "section, channel, Dseq, DBN not the place's", the lowest number first
pub fault_11 : (block : List ℕ) (h q p : ℕ) → block_answer block ≡ Reserved → fault_at block h q p ≡ 11
unfolding fault_at fault_of
fault_11 block h q p e = rw e refl

module _ (block : List ℕ) (h q p : ℕ) (b : BlockId) (s : Spare) (named : block_answer block ≡ Named b s) where
  pub fault_12 : (b.section ≡ (entry_at (place p)).section → ⊥) → fault_at block h q p ≡ 12
  unfolding fault_at fault_of misnamed first_of pick
  fault_12 d = rw (named, ne_eqb _ _ (λ e. d (code_one _ _ e))) refl

  module _ (section : b.section ≡ (entry_at (place p)).section) where
    pub fault_13 : (b.channel ≡ h → ⊥) → fault_at block h q p ≡ 13
    unfolding fault_at fault_of misnamed first_of pick
    fault_13 d = rw (named, eq-eqb _ _ (ap code_of section), ne_eqb _ _ d) refl

    module _ (channel : b.channel ≡ h) where
      pub fault_14 : (b.dseq ≡ q → ⊥) → fault_at block h q p ≡ 14
      unfolding fault_at fault_of misnamed first_of pick
      fault_14 d = rw (named, eq-eqb _ _ (ap code_of section), eq-eqb _ _ channel, ne_eqb _ _ d) refl

      pub fault_15 : b.dseq ≡ q → (b.dbn.0 ≡ (entry_at (place p)).number.0 → ⊥) → fault_at block h q p ≡ 15
      unfolding fault_at fault_of misnamed first_of pick
      fault_15 dseq d = rw (named, eq-eqb _ _ (ap code_of section), eq-eqb _ _ channel, eq-eqb _ _ dseq, ne_eqb _ _ d) refl

-- none, or one of 11 to 15
pub fault_within : (block : List ℕ) (h q p : ℕ) → 3 ≤ length block → FaultNumber (fault_at block h q p)
unfolding fault_at fault_of
fault_within block h q p long = by_answer (block_answer block) refl
  where
    by_answer : (a : IdAnswer) → block_answer block ≡ a → FaultNumber (fault_of a h q (entry_at (place p)))
    by_answer (Named b s) e = misnamed_within b h q (entry_at (place p))
    by_answer Reserved e = inr (omega arith, omega arith)
    by_answer WrongLength e = absurd (answer_long (take 3 block) (length-take-le 3 block long) e)

-- a block that begins with the ID of its place names it
pub written_names : (rest : List ℕ) (h q p : ℕ) → h < 4 → q < 16 → p < 150 → fault_at (id_bytes (id_at h q (place p)) ++ rest) h q p ≡ 0
unfolding id_bytes id_at
written_names rest h q p hh hq hp =
    names_fault _ h q p
    (record {
      id = id_at h q (place p);
      spare = record { arbitrary = 15; reserved = 7 };
      named = answer_written (id_at h q (place p)) hh hq (omega (arith, number_below p hp));
      section = refl;
      channel = refl;
      dseq = refl;
      dbn = refl;
    })
