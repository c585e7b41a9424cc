-- The refusal table of the call, in document 01's numbers and bytes, gives exactly the number that its contract has. Assumes nothing.
use Rattle.std.specs.Prelude.{Some}
use mathlib.Core.Path.{◌≡◌, sym, ◌∙◌}
use mathlib.Core.List.{List, [], ◌∷◌, ◌++◌}
use mathlib.Core.Bool.{not}
use Prim.Native.Nat.{ℕ}
use lib.Dec.{eqb}
use lib.IntN.{ℤ}
use lib.ListN.{length}
use borrow.Author.Tests.{eq-eqb, eqb-true}
use Rattle.base.specs.Calls.{first_of, ◌when◌}
use Rattle.base.proofs.Cases.{clash}
use Rattle.paper.specs.declared.System.{System}
use Rattle.rules_format.specs.Systems.{system_of, rows_in, frame_bytes}
use Rattle.rules_reads.specs.Check.{check_rows}
use Rattle.rules_reads.specs.Audio.{count_for, is_marked, is_audio, audio_rows}
use Rattle.rules_replaces.specs.Replace.{replace_rows, replace_number}
use Rattle.promises.specs.Refusals.{none, count_stored, mode_stored, list_table, replace_table}
use Rattle.promises.proofs.Tables.{Exactly, exactly_none, row_exactly, row_differs, row_system, row_length, row_outside}
use Rattle.rules_reads.proofs.GroundsAudio.{count_first, mode_first}
use Rattle.rules_reads.proofs.Refusals.{checked_exactly, row_audio, sounded_exactly}

-- ---- 29, 31, 33

rows_exactly : (k : ℕ) (y : System) → system_of k ≡ Some y → (f : List ℕ) (c : ℕ) (samples : List ℤ)
    → Exactly (list_table (count_stored k f c) samples (mode_stored k f c)) (first_of (replace_rows y f c samples))
unfolding replace_rows
rows_exactly k y known f c samples =
    let mode = mode_first k y known f c in
    row_differs 29 (length samples) (count_for y f c) (count_stored k f c) _ _ (sym (count_first k y known f c)) (λ counted.
    row_outside samples _ _ (λ sampled.
    row_exactly 33 (is_marked y f c) none []
    (λ e. sym mode ∙ eqb-true _ _ e)
    (λ e m. clash (eq-eqb _ _ (mode ∙ m)) e)
    (λ e. exactly_none)))

-- ---- replace_audio

pub replace_exactly : (k : ℕ) (f : List ℕ) (c : ℕ) (samples : List ℤ) → Exactly (replace_table k f c samples) (replace_number k f c samples)
unfolding replace_number
replace_exactly k f c samples =
    row_system k _
    (λ s.
    2 when not (eqb (length f) (frame_bytes s))
    ∷ 3 when not (is_audio c)
    ∷ rows_in s (λ (y : System). check_rows y f ++ (audio_rows y f c ++ replace_rows y f c samples)))
    (λ y known.
    row_length k y known (length f) _ _ (λ whole.
    row_audio c _ _
    (checked_exactly k y known f whole _ _ (sounded_exactly k y known f c _ _ (rows_exactly k y known f c samples)))))
