-- The workshop of the fault list: what a survey of a frame or of a sequence lists, in document 01's numbers. Assumes nothing.
use Rattle.std.specs.Prelude.{Some}
use mathlib.Core.Path.{◌≡◌, refl, sym, ap, ◌∙◌}
use mathlib.Core.List.{List, [], ◌++◌, append-nil}
use Prim.Native.Nat.{ℕ, ◌+◌, ◌*◌, ◌/◌, ◌%◌, ◌≤◌, ◌<◌, min}
use native.Mathlib.Nat.{zero-add, mul-add-div, mul-add-mod_self_left, div-eq_of_lt, mod-eq_of_lt}
use native.Mathlib.Omega.{arith}
use lib.Dec.{eqb}
use lib.IntN.{ℤ}
use lib.ListN.{length, get_or, take, drop}
use lib.Seq.{get_or-take, get_or-drop}
use Rattle.base.specs.Pick.{pick}
use Rattle.base.proofs.Cases.{by_bool, by_eq}
use Rattle.base.proofs.Parts.{length_part}
use Rattle.base.proofs.Runs.{run_same}
use Rattle.paper.specs.declared.System.{System}
use Rattle.paper.specs.declared.Fault.{Fault}
use Rattle.paper.specs.declared.Survey.{Survey}
use Rattle.rules_format.specs.Systems.{sequences_of}
use Rattle.rules_format.specs.Places.{place}
use Rattle.rules_format.specs.Blocks.{block_in}
use Rattle.rules_format.specs.Faults.{fault_at}
use Rattle.rules_surveys.specs.FaultLists.{block_faults, sequence_faults, frame_faults, unnamed}
use Rattle.rules_surveys.specs.Records.{numbers, width, flat, kept, after}
use Rattle.rules_surveys.specs.Survey.{outside_sequences, survey_number, sequence_number, Surveyed, FrameSurveyed, SequenceSurveyed}
use Rattle.rules_surveys.specs.Salvage.{salvage_number, Salvaged}
use Rattle.paper.specs.Paper.{sequences, fault, records}
use Rattle.promises.specs.Demand3.{Listed}
use Rattle.rules_format.proofs.Systems.{sequences_some}
use Rattle.rules_surveys.proofs.FaultLists.{faults_stream}
use Rattle.rules_surveys.proofs.Records.{flat_length, flat_run, kept_length, kept_flat}
use Rattle.rules_surveys.proofs.Calls.{survey_taken, survey_1, survey_2, sequence_1, sequence_3, sequence_4, inside_means}
use Rattle.rules_surveys.proofs.Salvage.{salvage_1, salvage_surveys}
use Rattle.rules_surveys.proofs.Answering.{survey_number_lem}
use Rattle.rules_format.proofs.Paper.{columns, by_system, fault_is}
use Rattle.promises.proofs.One.{listed_one}

-- ---- block_faults: the record of block j of the bytes, as it stands at place p of sequence q of DIF channel h

module _ (bytes : List ℕ) (j h q p : ℕ) (room : j * 80 + 80 ≤ length bytes) where
  abbrev block : List ℕ
  block = take 80 (drop (j * 80) bytes)

  abbrev found : ℕ
  found = fault (get_or bytes (j * 80) 0) (get_or bytes (j * 80 + 1) 0) (get_or bytes (j * 80 + 2) 0) h q p

  byte_is : (i : ℕ) → i < 80 → get_or block i 0 ≡ get_or bytes (j * 80 + i) 0
  byte_is i l = get_or-take 80 (drop (j * 80) bytes) i 0 l ∙ get_or-drop (j * 80) bytes i 0

  pub block_fault : fault_at block h q p ≡ found
  block_fault =
      let e : j * 80 + 0 ≡ j * 80 = omega arith in
      let first = byte_is 0 (omega arith) ∙ ap (λ (a : ℕ). get_or bytes a 0) e in
      fault_is block h q p (omega (arith, length_part (j * 80) 80 bytes room)) ∙ rw (first, byte_is 1 (omega arith), byte_is 2 (omega arith)) refl

  block_record : flat (block_faults block h q p) ≡ pick (eqb found 0) [] (numbers (record { channel = h; sequence = q; place = place p; fault = found }))
  unfolding block_faults flat pick
  block_record = rw block_fault (by_bool (eqb found 0) (λ e. rw e refl) (λ e. rw e (append-nil _)))

-- ---- records

module _ (y : System) where
  abbrev n : ℕ
  n = sequences_of y

  -- of a frame
  pub frame_records : (f : List ℕ) → length f ≡ 48000 * n → flat (frame_faults y f) ≡ records n f 0 (600 * n)
  unfolding unnamed block_faults numbers records
  frame_records f whole =
      let m : 600 * n ≡ 150 * (n * 4) = omega arith in
      rw m
      (ap flat (faults_stream y f)
      ∙ flat_run _ (150 * (n * 4))
      ∙ run_same _ _ (150 * (n * 4)) (λ j l. rw zero-add (block_record f j (j / 150 / n) (j / 150 % n) (j % 150) (omega (arith, whole, l)))))

  -- of sequence q of DIF channel h, whose first block is number (n h + q) 150 of the stream
  module _ (h q : ℕ) (hq : q < n) where
    pub sequence_records : (s : List ℕ) → length s ≡ 12000 → flat (sequence_faults s h q) ≡ records n s ((n * h + q) * 150) 150
    unfolding sequence_faults block_in numbers records
    sequence_records s whole =
        flat_run _ 150
        ∙ run_same _ _ 150 (λ j l.
        let part : ((n * h + q) * 150 + j) / 150 ≡ n * h + q = omega arith in
        let place : ((n * h + q) * 150 + j) % 150 ≡ j = omega arith in
        let channel : (n * h + q) / n ≡ h = mul-add-div (sequences_some y) h q ∙ ap (λ (x : ℕ). h + x) (div-eq_of_lt hq) ∙ omega arith in
        let dseq : (n * h + q) % n ≡ q = mul-add-mod_self_left n h q ∙ mod-eq_of_lt hq in
        block_record s j h q j (omega (arith, whole, l)) ∙ rw (part, place, channel, dseq) refl)

-- ---- Listed: the list of a survey that went through

lists : {number : ℕ} {fs : List Fault} {list list' : List ℕ} {r : Survey} {n first m : ℕ} {bytes : List ℕ} → Surveyed number fs list r list' → number ≡ 0
    → flat fs ≡ records n bytes first m → Listed n bytes first m list r list'
unfolding after
lists {number} {fs} {list} {list'} {r} {n} {first} {m} {bytes} s zero is =
    let taken = survey_taken s zero in
    let held : r.kept ≡ length (kept list fs) = ap (λ (x : Survey). x.kept) taken.0 in
    let total : r.total ≡ length fs = ap (λ (x : Survey). x.total) taken.0 in
    record {
      listed = taken.1 ∙ rw (held, ← is) (ap (λ (l : List ℕ). l ++ drop (width * length (kept list fs)) list) (kept_flat list fs));
      kept = held ∙ kept_length list fs ∙ ap (min (length list / width)) (sym total);
      total = omega (arith, total, flat_length fs, ap length is);
    }

-- of a frame
pub survey_listed : (k : ℕ) {frame list list' : List ℕ} {r : Survey} → FrameSurveyed k frame list r list' → r.number ≡ 0
    → Listed (sequences k) frame 0 (600 * sequences k) list r list'
survey_listed k {frame} s z =
    let zero : survey_number k (length frame) ≡ 0 = sym (survey_number_lem s) ∙ z in
    by_system k
    (λ none. absurd (omega (arith, zero, survey_1 k (length frame) none)))
    (λ y known.
    by_eq (length frame) (48000 * sequences_of y)
    (λ whole. rw (columns k y known).sequences_is (lists (rw known at s) zero (frame_records y frame whole)))
    (λ d. absurd (omega (arith, zero, survey_2 k (length frame) y known d))))

-- of one sequence
pub sequence_listed : (k h q : ℕ) {sequence list list' : List ℕ} {r : Survey} → SequenceSurveyed k h q sequence list r list' → r.number ≡ 0
    → Listed (sequences k) sequence ((sequences k * h + q) * 150) 150 list r list'
sequence_listed k h q {sequence} s z =
    let zero : sequence_number k h q (length sequence) ≡ 0 = sym (survey_number_lem s) ∙ z in
    by_system k
    (λ none. absurd (omega (arith, zero, sequence_1 k h q (length sequence) none)))
    (λ y known.
    by_bool (outside_sequences (Some y) h q)
    (λ o. absurd (omega (arith, zero, sequence_3 k h q (length sequence) y known o)))
    (λ o.
    by_eq (length sequence) 12000
    (λ whole. rw (columns k y known).sequences_is (lists s zero (sequence_records y h q (inside_means y h q o).1 sequence whole)))
    (λ d. absurd (omega (arith, zero, sequence_4 k h q (length sequence) y known o d)))))

-- and beside the samples
pub salvage_listed : (k : ℕ) {frame : List ℕ} {samples samples' : List ℤ} {list list' : List ℕ} {r : Survey}
    → Salvaged k frame samples list r samples' list' → r.number ≡ 0 → Listed (sequences k) frame 0 (600 * sequences k) list r list'
salvage_listed k {frame} {samples} s z =
    let zero : salvage_number k frame (length samples) ≡ 0 = sym (survey_number_lem s.survey) ∙ z in
    by_system k
    (λ none. absurd (omega (arith, zero, salvage_1 k frame (length samples) none)))
    (λ y known. survey_listed k (salvage_surveys s y known zero) z)

-- "Salvage and survey give the same list, total and kept for the same frame."
pub same_listed : (k : ℕ) {frame : List ℕ} {samples samples' : List ℤ} {list list₁ list₂ : List ℕ} {r r' : Survey}
    → Salvaged k frame samples list r samples' list₁ → FrameSurveyed k frame list r' list₂ → r.number ≡ 0 → r'.number ≡ 0 → (r ≡ r') × (list₁ ≡ list₂)
same_listed k s s' z z' = listed_one (salvage_listed k s z) (survey_listed k s' z') (z ∙ sym z')
