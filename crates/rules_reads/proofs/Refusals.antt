-- Each call's refusal table, in document 01's numbers and bytes, gives exactly the number that the call's contract has. Assumes nothing.
use Rattle.std.specs.Prelude.{Some}
use mathlib.Core.Path.{◌≡◌, subst}
use mathlib.Core.Bool.{true, false, not}
use mathlib.Core.List.{List, [], ◌∷◌, ◌++◌, append-nil}
use mathlib.Core.Logic.{◌⊎◌, inl, inr, ⊎_elim}
use Prim.Native.Nat.{ℕ, ◌+◌, ◌*◌, ◌<◌}
use native.Mathlib.Omega.{arith}
use lib.Dec.{eqb, ltb}
use lib.ListN.{length}
use borrow.Author.Tests.{ltb-true, ltb-false, lt-ltb, not-true, not-false}
use Rattle.base.specs.Calls.{Refusal, first_of, ◌when◌}
use Rattle.base.proofs.Cases.{by_lt, clash}
use Rattle.base.proofs.Picks.{both_held, both_hold}
use Rattle.paper.specs.declared.System.{System}
use Rattle.rules_format.specs.Systems.{sequences_of, positions_of, macroblocks_of, system_of, positions_in, passes, rows_in, frame_bytes}
use Rattle.rules_reads.specs.Check.{every_sequence, dsf_agrees, vs_agrees, unflagged, fault_in, check_rows, check_number}
use Rattle.rules_reads.specs.Audio.{is_audio, audio_rows, audio_number}
use Rattle.rules_reads.specs.Macroblock.{picture_rows, macroblock_number}
use Rattle.rules_reads.specs.Time.{time_rows, time_number}
use Rattle.paper.specs.Paper.{sequences, positions}
use Rattle.promises.specs.Refusals.{Table, ◌if◌, ◌else◌, none, FirstFault, SomeInFrame, WrongDsf, Flagged, checked, sounded, check_table, audio_table, macroblock_table}
use Rattle.promises.specs.Refusals.{time_table, VsDisagrees}
use Rattle.rules_format.proofs.Paper.{columns}
use Rattle.promises.proofs.Tables.{Exactly, exactly_none, row_exactly, row_differs, row_fault, row_system, row_length}
use Rattle.rules_reads.proofs.Grounds.{fault_given, fault_only, every_exactly, dsf_wrong, dsf_right, flag_wrong, flag_right, vs_disagrees, vs_agreed}
use Rattle.rules_reads.proofs.GroundsAudio.{row_24, row_25}
use Rattle.rules_reads.proofs.GroundsTime.{row_26, row_27}

-- ---- the rows of every strict read

pub checked_exactly : (k : ℕ) (y : System) → system_of k ≡ Some y → (f : List ℕ) → length f ≡ 48000 * sequences_of y → (table : Table) (rows : List Refusal)
    → Exactly table (first_of rows) → Exactly (checked k f table) (first_of (check_rows y f ++ rows))
unfolding check_rows
checked_exactly k y known f whole table rows rest =
    row_fault (FirstFault (sequences k) f) _ (fault_in y f) _ (fault_given k y known f whole) (fault_only k y known f whole) (λ clean.
    every_exactly k y known f 21 (WrongDsf k f) (dsf_agrees y) _ _ (dsf_wrong k y known f) (dsf_right k y known f) (λ dsf.
    every_exactly k y known f 22 (VsDisagrees k f) (vs_agrees y) table rows (vs_disagrees k y known f) (vs_agreed k y known f) (λ vs. rest)))

-- 23
row_23 : (k : ℕ) (y : System) → system_of k ≡ Some y → (f : List ℕ) (i : ℕ) → i < 4 → (table : Table) (rows : List Refusal) → Exactly table (first_of rows)
    → Exactly (23 if SomeInFrame (sequences k) (Flagged (4 + i) (sequences k) f) else table) (first_of (23 when not (every_sequence y f (unflagged i)) ∷ rows))
row_23 k y known f i hi table rows rest =
    every_exactly k y known f 23 (Flagged (4 + i) (sequences k) f) (unflagged i) table rows
    (λ h q. flag_wrong k y known f i h q hi) (λ h q. flag_right k y known f i h q hi) (λ e. rest)

-- ---- check_frame

pub check_exactly : (k : ℕ) (f : List ℕ) → Exactly (check_table k f) (check_number k f)
unfolding check_number
check_exactly k f =
    row_system k _ (λ s. 2 when not (eqb (length f) (frame_bytes s)) ∷ rows_in s (λ (y : System). check_rows y f))
    (λ y known.
    row_length k y known (length f) _ _ (λ whole.
    subst (λ (rows : List Refusal). Exactly (checked k f none) (first_of rows)) (append-nil (check_rows y f)) (checked_exactly k y known f whole none [] exactly_none)))

-- ---- read_audio

audio_means : (c : ℕ) → not (is_audio c) ≡ true → (c ≡ 0) ⊎ (8 < c)
audio_means c e =
    by_lt 0 c
    (λ above. by_lt c 9 (λ below. absurd (clash (both_hold (lt-ltb 0 c above) (lt-ltb c 9 below)) (not-true _ e))) (λ g. inr g))
    (λ g. inl (omega arith))

audio_not : (c : ℕ) → not (is_audio c) ≡ false → (c ≡ 0) ⊎ (8 < c) → ⊥
audio_not c e =
    let two = both_held (ltb 0 c) (ltb c 9) (not-false _ e) in
    ⊎_elim (λ z. omega (arith, z, ltb-true 0 c two.0)) (λ l. omega (arith, l, ltb-true c 9 two.1))

-- 3, of an audio channel
pub row_audio : (c : ℕ) (table : Table) (rows : List Refusal) → Exactly table (first_of rows)
    → Exactly (3 if ((c ≡ 0) ⊎ (8 < c)) else table) (first_of (3 when not (is_audio c) ∷ rows))
row_audio c table rows rest = row_exactly 3 (not (is_audio c)) table rows (audio_means c) (audio_not c) (λ channel. rest)

-- 23 to 25
pub sounded_exactly : (k : ℕ) (y : System) → system_of k ≡ Some y → (f : List ℕ) (c : ℕ) (table : Table) (rows : List Refusal) → Exactly table (first_of rows)
    → Exactly (sounded k f c table) (first_of (audio_rows y f c ++ rows))
unfolding audio_rows
sounded_exactly k y known f c table rows rest =
    row_23 k y known f 1 (omega arith) _ _ (row_24 k y known f c _ _ (λ kept. row_25 k y known f c table rows rest))

pub audio_exactly : (k : ℕ) (f : List ℕ) (c room : ℕ) → Exactly (audio_table k f c room) (audio_number k f c room)
unfolding audio_number
audio_exactly k f c room =
    row_system k _
    (λ s.
    2 when not (eqb (length f) (frame_bytes s))
    ∷ 3 when not (is_audio c)
    ∷ 4 when not (eqb room (positions_in s))
    ∷ rows_in s (λ (y : System). check_rows y f ++ audio_rows y f c))
    (λ y known.
    row_length k y known (length f) _ _ (λ whole.
    row_audio c _ _ (
    row_differs 4 room (positions_of y) (positions k) _ _ (columns k y known).positions_is (λ fits.
    checked_exactly k y known f whole _ (audio_rows y f c)
    (subst (λ (rows : List Refusal). Exactly (sounded k f c none) (first_of rows)) (append-nil (audio_rows y f c)) (sounded_exactly k y known f c none [] exactly_none))))))

-- ---- macroblock_number, macroblock, macroblock_at

pub macroblock_exactly : (k : ℕ) (f : List ℕ) (b : ℕ) → Exactly (macroblock_table k f b) (macroblock_number k f b)
unfolding macroblock_number picture_rows
macroblock_exactly k f b =
    row_system k _
    (λ s.
    2 when not (eqb (length f) (frame_bytes s))
    ∷ 3 when not (passes (λ (y : System). ltb b (macroblocks_of y)) s)
    ∷ rows_in s (λ (y : System). check_rows y f ++ picture_rows y f))
    (λ y known.
    let m = (columns k y known).macroblocks_is in
    row_length k y known (length f) _ _ (λ whole.
    row_exactly 3 (not (ltb b (macroblocks_of y))) _ _
    (λ e. let l = ltb-false b (macroblocks_of y) (not-true _ e) in omega (arith, l, m))
    (λ e l. omega (arith, l, m, ltb-true b (macroblocks_of y) (not-false _ e)))
    (λ inside. checked_exactly k y known f whole _ (picture_rows y f) (row_23 k y known f 2 (omega arith) none [] exactly_none))))

-- ---- read_time

pub time_exactly : (k : ℕ) (f : List ℕ) → Exactly (time_table k f) (time_number k f)
unfolding time_number time_rows
time_exactly k f =
    row_system k _ (λ s. 2 when not (eqb (length f) (frame_bytes s)) ∷ rows_in s (λ (y : System). check_rows y f ++ time_rows y f))
    (λ y known.
    row_length k y known (length f) _ _ (λ whole.
    checked_exactly k y known f whole _ (time_rows y f)
    (row_23 k y known f 3 (omega arith) _ _ (row_26 k y known f _ _ (λ right. row_27 k y known f none [] (λ same. exactly_none))))))
