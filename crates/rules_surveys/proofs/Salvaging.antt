-- The workshop of the third demand: what salvage gives of any frame, position by position, in document 01's numbers and bytes. Assumes nothing.
use mathlib.Core.Path.{◌≡◌, refl, sym, ap, ◌∙◌}
use mathlib.Core.List.{List}
use Prim.Native.Nat.{ℕ, ◌+◌, ◌-◌, ◌*◌, ◌<◌}
use native.Mathlib.Omega.{arith}
use borrow.Author.Tests.{eq-eqb, ne_eqb}
use lib.Dec.{eqb}
use lib.IntN.{ℤ, pos}
use lib.ListN.{length, get_or}
use Rattle.paper.specs.declared.System.{System}
use Rattle.paper.specs.declared.Survey.{Survey}
use Rattle.rules_format.specs.Systems.{sequences_of, positions_of}
use Rattle.rules_format.specs.Reading.{sound_named}
use Rattle.rules_surveys.specs.Salvage.{salvage_number, salvaged, Salvaged}
use Rattle.paper.specs.Paper
use Rattle.promises.specs.Demand3.{fault_for, PositionOut, SalvageOut}
use Rattle.rules_surveys.proofs.Salvage.{salvaged_length, position_named, position_lost, salvage_taken, salvage_zero, salvage_1}
use Rattle.rules_surveys.proofs.Answering.{survey_number_lem}
use Rattle.rules_format.proofs.Paper.{columns, by_system}
use Rattle.rules_format.proofs.Numbers.{sound_named_lem, sound_within, sound_heard}
use Rattle.rules_surveys.proofs.Listing.{block_fault}

-- ---- sound_named: by the fault of the position's block

sound_fault : (y : System) (g : List ℕ) (c t : ℕ) → length g ≡ 48000 * sequences_of y → 0 < c → c < 9
    → sound_named y g c t ≡ eqb (fault_for (sequences_of y) g c t) 0
sound_fault y g c t whole c1 c8 =
    sound_named_lem y g c t
    ∙ ap (λ (x : ℕ). eqb x 0) (block_fault g (Paper.sound_index (sequences_of y) c t) _ _ _ (omega (arith, whole, sound_within y g c t c1 c8)))

-- ---- salvage

module _ (y : System) (g : List ℕ) (whole : length g ≡ 48000 * sequences_of y) (c t : ℕ) (c1 : 0 < c) (c8 : c < 9) (ht : t < positions_of y) where
  pub position_out : PositionOut (sequences_of y) g c t (get_or (salvaged y g) ((c - 1) * positions_of y + t) (pos 0))
  position_out =
      let by = sound_fault y g c t whole c1 c8 in
      record {
        unnamed = λ d. position_lost y g c t c1 c8 ht (by ∙ ne_eqb _ _ d);
        renamed = λ e. position_named y g c t c1 c8 ht (by ∙ eq-eqb _ _ e) ∙ sound_heard y g c t ht;
      }

pub salvage_out : (k : ℕ) {g : List ℕ} {samples samples' : List ℤ} {list list' : List ℕ} {r : Survey} → Salvaged k g samples list r samples' list' → r.number ≡ 0
    → SalvageOut k g samples'
salvage_out k {g} {samples} rescued z =
    let zero : salvage_number k g (length samples) ≡ 0 = sym (survey_number_lem rescued.survey) ∙ z in
    by_system k
    (λ none. absurd (omega (arith, zero, salvage_1 k g (length samples) none)))
    (λ y known.
    let col = columns k y known in
    let left = salvage_taken rescued y known zero in
    record {
      size = ap length left ∙ salvaged_length y g ∙ rw col.positions_is refl;
      position = λ c t c1 c8 ht.
          rw (col.sequences_is, col.positions_is, left)
          (position_out y g (salvage_zero k g (length samples) y known zero).0 c t c1 c8 (omega (arith, ht, col.positions_is)));
    })
