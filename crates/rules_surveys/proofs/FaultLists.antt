-- Laws of the list of all faults. Assumes nothing.
use mathlib.Core.Path.{◌≡◌, refl, sym, ap, ◌∙◌}
use mathlib.Core.List.{List, [], ◌∷◌}
use Prim.Native.Nat.{ℕ, zero, suc, ◌+◌, ◌*◌, ◌/◌, ◌%◌, ◌≤◌}
use native.Mathlib.Nat.{div-add-mod}
use native.Mathlib.Omega.{arith}
use lib.ListN.{length, take, drop, length-append}
use Rattle.base.specs.Pick.{pick}
use Rattle.base.specs.Run.{run}
use Rattle.base.proofs.Cases.{by_bool}
use Rattle.base.proofs.Runs.{run_length_le, run_same, run_runs}
use Rattle.paper.specs.declared.System.{System}
use Rattle.rules_format.specs.Systems.{sequences_of}
use Rattle.rules_format.specs.Blocks.{start_of, block_at, sequence_at, block_in}
use Rattle.rules_format.specs.Faults.{names}
use Rattle.rules_surveys.specs.FaultLists.{block_faults, place_faults, sequence_faults, part_faults, channel_faults, frame_faults, record_of, unnamed, failing}
use Rattle.rules_format.specs.Stream.{blocks_in, named}
use Rattle.rules_format.proofs.Systems.{sequences_some, sequences_le}
use Rattle.rules_format.proofs.Blocks.{block_in_sequence}

-- ---- frame_faults: the blocks that do not name their place, in stream order, and all of them

pub faults_stream : (y : System) (frame : List ℕ) → frame_faults y frame ≡ unnamed y frame (blocks_in y)
unfolding frame_faults channel_faults sequence_faults block_faults unnamed block_at
faults_stream y frame =
    let n = sequences_of y in
    let of_frame : (h q : ℕ) → run (place_faults (sequence_at y frame h q) h q) 150 ≡ run (λ (p : ℕ). block_faults (block_at y frame h q p) h q p) 150 =
    λ h q. run_same _ _ 150 (λ p l. ap (λ (b : List ℕ). block_faults b h q p) (block_in_sequence y frame h q p l)) in
    run_same _ _ 4 (λ h _. run_same _ _ n (λ q _. of_frame h q))
    ∙ sym (
    run_same _ _ (150 * (n * 4)) (λ j l.
    let e : j * 80 ≡ start_of y (j / 150 / n) (j / 150 % n) (j % 150) = omega (arith, div-add-mod (j / 150) n) in
    rw e refl)
    ∙ run_runs (λ (r p : ℕ). block_faults (block_at y frame (r / n) (r % n) p) (r / n) (r % n) p) 150 (n * 4) (omega arith)
    ∙ run_runs (λ (h q : ℕ). run (λ (p : ℕ). block_faults (block_at y frame h q p) h q p) 150) n 4 (sequences_some y))

unnamed_length : (y : System) (frame : List ℕ) (m : ℕ) → length (unnamed y frame m) ≡ failing (named y frame) m
unfolding unnamed failing run pick
unnamed_length y frame zero = refl
unnamed_length y frame (suc m) =
    length-append (unnamed y frame m) (pick (named y frame m) [] (record_of y frame m ∷ []))
    ∙ by_bool (named y frame m)
    (λ e. rw e (omega (arith, unnamed_length y frame m)))
    (λ e. rw e (omega (arith, unnamed_length y frame m)))

pub faults_total : (y : System) (frame : List ℕ) → length (frame_faults y frame) ≡ failing (named y frame) (blocks_in y)
faults_total y frame = ap length (faults_stream y frame) ∙ unnamed_length y frame (blocks_in y)

-- they go by the system's sequences alone
pub faults_sequences : (y z : System) (frame : List ℕ) → sequences_of y ≡ sequences_of z → frame_faults y frame ≡ frame_faults z frame
unfolding frame_faults channel_faults sequence_at
faults_sequences y z frame e =
    run_same (channel_faults y frame) (channel_faults z frame) 4 (λ h _.
    ap (λ (n : ℕ). run (λ (q : ℕ). sequence_faults (take 12000 (drop ((n * h + q) * 12000) frame)) h q) n) e)

-- ---- how many faults there can be

pub block_faults_le : (block : List ℕ) (h q p : ℕ) → length (block_faults block h q p) ≤ 1
unfolding block_faults pick
block_faults_le block h q p = by_bool (names block h q p) (λ e. rw e (omega arith)) (λ e. rw e (omega arith))

-- of the places below p
pub places_le : (sequence : List ℕ) (h q p : ℕ) → length (run (place_faults sequence h q) p) ≤ p
places_le sequence h q p = omega (arith, run_length_le (place_faults sequence h q) 1 p (λ j. block_faults_le (block_in sequence j) h q j))

pub sequence_faults_le : (sequence : List ℕ) (h q : ℕ) → length (sequence_faults sequence h q) ≤ 150
unfolding sequence_faults
sequence_faults_le sequence h q = places_le sequence h q 150

-- of the sequences below q
pub parts_le : (y : System) (frame : List ℕ) (h q : ℕ) → length (run (part_faults y frame h) q) ≤ 150 * q
parts_le y frame h q = omega (arith, run_length_le (part_faults y frame h) 150 q (λ j. sequence_faults_le (sequence_at y frame h j) h j))

channel_faults_le : (y : System) (frame : List ℕ) (h : ℕ) → length (channel_faults y frame h) ≤ 1800
unfolding channel_faults
channel_faults_le y frame h = omega (arith, parts_le y frame h (sequences_of y), sequences_le y)

-- of the DIF channels below h
pub channels_le : (y : System) (frame : List ℕ) (h : ℕ) → length (run (channel_faults y frame) h) ≤ 1800 * h
channels_le y frame h = omega (arith, run_length_le (channel_faults y frame) 1800 h (channel_faults_le y frame))
