-- The frame check: conditions on sequences, the first fault, the rows of refusals and the call. Assumes nothing.
use Rattle.std.specs.Prelude.{Some, None}
use mathlib.Core.Path.{◌≡◌, refl, sym, ap, ◌∙◌}
use mathlib.Core.Bool.{Bool, true, false, not}
use mathlib.Core.List.{List, [], ◌∷◌, ◌++◌}
use Prim.Native.Nat.{ℕ, zero, suc, ◌+◌, ◌*◌, ◌/◌, ◌%◌, ◌≤◌, ◌<◌}
use native.Mathlib.Nat.{zero-add, not-suc-le-zero, mul-add-div, mul-add-mod_self_left, div-eq_of_lt, mod-eq_of_lt}
use native.Mathlib.Omega.{arith}
use lib.Dec.{eqb}
use lib.ListN.{length}
use borrow.Author.Tests.{eq-eqb, ne_eqb, eqb-false, not-true}
use Rattle.base.specs.Calls.{Refusal, first_of, ExactlyOne}
use Rattle.base.specs.Pick.{pick}
use Rattle.base.specs.Run.{run}
use Rattle.base.proofs.Below.{below_means, below_when, below_fails, below_some}
use Rattle.base.proofs.Cases.{by_bool, by_eq}
use Rattle.base.proofs.Picks.{pick_true, pick_false}
use Rattle.paper.specs.declared.System.{System}
use Rattle.paper.specs.declared.Section.{Section}
use Rattle.paper.specs.declared.Section.TheVariants.{Header}
use Rattle.paper.specs.declared.Fault.{Fault}
use Rattle.rules_format.specs.Systems.{sequences_of, system_of}
use Rattle.rules_format.specs.Places.{blocks_of, place_in}
use Rattle.rules_format.specs.Blocks.{block_at, sequence_at, block_in}
use Rattle.rules_packs.specs.Header.{dsf_ok, flagged}
use Rattle.rules_packs.specs.Vaux.{vs_ok}
use Rattle.rules_format.specs.Faults.{fault_at, names}
use Rattle.rules_surveys.specs.FaultLists.{frame_faults, record_of, unnamed}
use Rattle.rules_format.specs.Stream.{blocks_in, nth_block, channel_at, dseq_at, place_at, named}
use Rattle.rules_reads.specs.Check.{every_from, every_sequence, header_in, vs_in, dsf_agrees, vs_agrees, unflagged, first_fault, fault_in, check_rows}
use Rattle.rules_reads.specs.Check.{check_number, Checked}
use Rattle.rules_format.proofs.Systems.{sequences_some}
use Rattle.rules_format.proofs.Places.{place_in_below}
use Rattle.rules_format.proofs.Blocks.{before_channel, block_in_sequence}
use Rattle.rules_surveys.proofs.FaultLists.{faults_stream}

-- ---- every_from, every_sequence: each sequence passes

module _ (y : System) (frame : List ℕ) (test : ℕ → List ℕ → Bool) where
  module _ (h q k : ℕ) where
    pub from_means : every_from y frame h q k test ≡ true → (r : ℕ) → r < k → test (q + r) (sequence_at y frame h (q + r)) ≡ true
    unfolding every_from
    from_means e = below_means _ k e

    pub from_when : ((r : ℕ) → r < k → test (q + r) (sequence_at y frame h (q + r)) ≡ true) → every_from y frame h q k test ≡ true
    unfolding every_from
    from_when e = below_when _ k e

    pub from_fails : (r : ℕ) → r < k → test (q + r) (sequence_at y frame h (q + r)) ≡ false → every_from y frame h q k test ≡ false
    unfolding every_from
    from_fails r l e = below_fails _ k r l e

  pub every_means : every_sequence y frame test ≡ true → (h q : ℕ) → h < 4 → q < sequences_of y → test q (sequence_at y frame h q) ≡ true
  unfolding every_sequence
  every_means e h q hh hq =
      let all = below_means (λ (i : ℕ). every_from y frame i 0 (sequences_of y) test) 4 e h hh in
      simp zero-add at (from_means h 0 (sequences_of y) all q hq)

  pub every_when : ((h q : ℕ) → h < 4 → q < sequences_of y → test q (sequence_at y frame h q) ≡ true) → every_sequence y frame test ≡ true
  unfolding every_sequence
  every_when e = below_when _ 4 (λ h hh. from_when h 0 (sequences_of y) (λ r l. rw zero-add (e h r hh l)))

  -- one sequence is enough
  pub every_fails : (h q : ℕ) → h < 4 → q < sequences_of y → test q (sequence_at y frame h q) ≡ false → every_sequence y frame test ≡ false
  unfolding every_sequence
  every_fails h q hh hq e = below_fails (λ (i : ℕ). every_from y frame i 0 (sequences_of y) test) 4 h hh (from_fails h 0 (sequences_of y) q hq (rw zero-add e))

  -- and where not all pass, there is one
  pub from_some : {P : Type 0} (h q k : ℕ) → every_from y frame h q k test ≡ false → ((r : ℕ) → r < k → test (q + r) (sequence_at y frame h (q + r)) ≡ false → P) → P
  unfolding every_from
  from_some h q k e one = below_some _ k e one

  pub every_some : {P : Type 0} → every_sequence y frame test ≡ false → ((h q : ℕ) → h < 4 → q < sequences_of y → test q (sequence_at y frame h q) ≡ false → P) → P
  unfolding every_sequence
  every_some e one =
      below_some (λ (i : ℕ). every_from y frame i 0 (sequences_of y) test) 4 e (λ h hh d.
      from_some h 0 (sequences_of y) d (λ r l g. one h r hh l (simp zero-add at g)))

-- ---- what a sequence says is what its blocks say

-- the block of number k of a section, in a sequence of a frame
pub section_block : (y : System) (frame : List ℕ) (h q : ℕ) (s : Section) (k : ℕ) → k < blocks_of s → block_in (sequence_at y frame h q) (place_in s k) ≡ block_at y frame h q (place_in s k)
section_block y frame h q s k hk = block_in_sequence y frame h q (place_in s k) (place_in_below s k hk)

-- a VS is judged where its own header's TF2 is 0, and only there
pub vs_judged : (y : System) (q : ℕ) (part : List ℕ) → flagged 2 (header_in part) ≡ false → vs_agrees y q part ≡ vs_ok y (vs_in q part)
vs_judged y q part e = rw e refl

pub vs_unjudged : (y : System) (q : ℕ) (part : List ℕ) → flagged 2 (header_in part) ≡ true → vs_agrees y q part ≡ true
vs_unjudged y q part e = rw e refl

module _ (y : System) (frame : List ℕ) (h q : ℕ) (hh : h < 4) (hq : q < sequences_of y) where
  header_in_lem : header_in (sequence_at y frame h q) ≡ block_at y frame h q (place_in Header 0)
  header_in_lem = section_block y frame h q Header 0 (omega arith)

  -- not 21: every header's DSF agrees
  pub dsf_each : every_sequence y frame (dsf_agrees y) ≡ true → dsf_ok y (block_at y frame h q (place_in Header 0)) ≡ true
  dsf_each e = ap (dsf_ok y) (sym header_in_lem) ∙ every_means y frame (dsf_agrees y) e h q hh hq

  -- not 22: every VS agrees whose header's TF2 is 0
  pub vs_each : every_sequence y frame (vs_agrees y) ≡ true → flagged 2 (block_at y frame h q (place_in Header 0)) ≡ false → vs_ok y (vs_in q (sequence_at y frame h q)) ≡ true
  vs_each e t = sym (vs_judged y q (sequence_at y frame h q) (ap (flagged 2) header_in_lem ∙ t)) ∙ every_means y frame (vs_agrees y) e h q hh hq

  -- 23: one header that sets the flag is enough
  pub flag_some : (k : ℕ) → flagged k (block_at y frame h q (place_in Header 0)) ≡ true → every_sequence y frame (unflagged k) ≡ false
  flag_some k e = every_fails y frame (unflagged k) h q hh hq (ap not (ap (flagged k) header_in_lem ∙ e))

  pub flag_each : (k : ℕ) → every_sequence y frame (unflagged k) ≡ true → flagged k (block_at y frame h q (place_in Header 0)) ≡ false
  flag_each k e = ap (flagged k) (sym header_in_lem) ∙ not-true _ (every_means y frame (unflagged k) e h q hh hq)

-- ---- first_fault: "the first faulty block in stream order"

-- what came first stays first
first_keeps : (fs gs : List Fault) (k : ℕ) → first_fault fs ≡ k → (k ≡ 0 → ⊥) → first_fault (fs ++ gs) ≡ k
unfolding first_fault
first_keeps [] gs k e d = absurd (d (sym e))
first_keeps (f ∷ fs) gs k e d = e

module _ (y : System) (frame : List ℕ) where
  -- the block's fault, where it does not name its place
  fault_some : (j : ℕ) → named y frame j ≡ false → (record_of y frame j).fault ≡ 0 → ⊥
  fault_some j e = eqb-false _ _ e

  -- blocks that name their place leave no record
  pub unnamed_none : (m : ℕ) → ((j : ℕ) → j < m → named y frame j ≡ true) → unnamed y frame m ≡ []
  unfolding unnamed run
  unnamed_none zero h = refl
  unnamed_none (suc m) h =
      let before = unnamed_none m (λ j l. h j (omega arith)) in
      let here = pick_true [] (record_of y frame m ∷ []) (h m (omega arith)) in
      rw (before, here)

  unnamed_first : (m j : ℕ) → j < m → ((i : ℕ) → i < j → named y frame i ≡ true) → named y frame j ≡ false → first_fault (unnamed y frame m) ≡ (record_of y frame j).fault
  unfolding unnamed run first_fault
  unnamed_first zero j l h e = absurd (not-suc-le-zero l)
  unnamed_first (suc m) j l h e =
      by_eq j m
      (λ s.
      let before = unnamed_none m (λ i b. h i (omega (arith, s))) in
      let here = pick_false [] (record_of y frame m ∷ []) (rw s at e) in
      rw (before, here, s))
      (λ d. first_keeps (unnamed y frame m) _ _ (unnamed_first m j (omega (arith, d)) h e) (fault_some j e))

  -- where none came first, all name their place
  unnamed_all : (m n : ℕ) → first_fault (unnamed y frame m) ≡ 0 → n ≤ m → (j : ℕ) → j < n → named y frame j ≡ true
  unnamed_all m zero z l j h = absurd (not-suc-le-zero h)
  unnamed_all m (suc n) z l j h =
      let below_n : (i : ℕ) → i < n → named y frame i ≡ true = unnamed_all m n z (omega arith) in
      by_eq j n
      (λ s.
      rw s (by_bool (named y frame n) (λ e. e)
      (λ e. absurd (fault_some n e (sym (unnamed_first m n (omega arith) below_n e) ∙ z)))))
      (λ d. below_n j (omega (arith, d)))

  -- block j of the stream is the first that does not name its place
  pub fault_first : (j : ℕ) → j < blocks_in y → ((i : ℕ) → i < j → named y frame i ≡ true) → named y frame j ≡ false
      → fault_in y frame ≡ fault_at (nth_block frame j) (channel_at y j) (dseq_at y j) (place_at j)
  fault_first j l h e = ap first_fault (faults_stream y frame) ∙ unnamed_first (blocks_in y) j l h e

  pub fault_none : frame_faults y frame ≡ [] → fault_in y frame ≡ 0
  unfolding first_fault
  fault_none e = ap first_fault e

  -- 0 says that every block names its place
  pub fault_zero : fault_in y frame ≡ 0 → (h q p : ℕ) → h < 4 → q < sequences_of y → p < 150 → names (block_at y frame h q p) h q p ≡ true
  unfolding block_at
  fault_zero z h q p hh hq hp =
      let n = sequences_of y in
      let j = (n * h + q) * 150 + p in
      let row : j / 150 ≡ n * h + q = omega arith in
      let place : j % 150 ≡ p = omega arith in
      let channel : (n * h + q) / n ≡ h = mul-add-div (sequences_some y) h q ∙ ap (λ (x : ℕ). h + x) (div-eq_of_lt hq) ∙ omega arith in
      let dseq : (n * h + q) % n ≡ q = mul-add-mod_self_left n h q ∙ mod-eq_of_lt hq in
      let within : j < blocks_in y = omega (arith, before_channel n h hh) in
      let all : named y frame j ≡ true = unnamed_all (blocks_in y) (blocks_in y) (sym (ap first_fault (faults_stream y frame)) ∙ z) (omega arith) j within in
      rw (row, place, channel, dseq) at all

-- ---- check_rows: each number exactly when its row is the first that holds

module _ (y : System) (frame : List ℕ) where
  pub rows_fault : (fault_in y frame ≡ 0 → ⊥) → first_of (check_rows y frame) ≡ fault_in y frame
  unfolding check_rows first_of pick
  rows_fault d = rw (ne_eqb _ 0 d) refl

  module _ (clean : fault_in y frame ≡ 0) where
    pub rows_21 : every_sequence y frame (dsf_agrees y) ≡ false → first_of (check_rows y frame) ≡ 21
    unfolding check_rows first_of pick
    rows_21 e = rw (eq-eqb _ 0 clean, e) refl

    module _ (dsf : every_sequence y frame (dsf_agrees y) ≡ true) where
      pub rows_22 : every_sequence y frame (vs_agrees y) ≡ false → first_of (check_rows y frame) ≡ 22
      unfolding check_rows first_of pick
      rows_22 e = rw (eq-eqb _ 0 clean, dsf, e) refl

      module _ (vs : every_sequence y frame (vs_agrees y) ≡ true) where
        pub rows_0 : first_of (check_rows y frame) ≡ 0
        unfolding check_rows first_of pick
        rows_0 = rw (eq-eqb _ 0 clean, dsf, vs) refl

        rows_more : (more : List Refusal) → first_of (check_rows y frame ++ more) ≡ first_of more
        unfolding check_rows first_of pick
        rows_more more = rw (eq-eqb _ 0 clean, dsf, vs) refl

  -- 0 says that no row holds, and then the rows that follow decide
  pub rows_mean : first_of (check_rows y frame) ≡ 0 → (fault_in y frame ≡ 0) × (every_sequence y frame (dsf_agrees y) ≡ true) × (every_sequence y frame (vs_agrees y) ≡ true)
  rows_mean z =
      by_eq (fault_in y frame) 0
      (λ clean.
      by_bool (every_sequence y frame (dsf_agrees y))
      (λ dsf.
      by_bool (every_sequence y frame (vs_agrees y))
      (λ vs. (clean, dsf, vs))
      (λ e. absurd (omega (arith, z, rows_22 clean dsf e))))
      (λ e. absurd (omega (arith, z, rows_21 clean e))))
      (λ d. absurd (d (sym (rows_fault d) ∙ z)))

  pub rows_on : (more : List Refusal) → first_of (check_rows y frame) ≡ 0 → first_of (check_rows y frame ++ more) ≡ first_of more
  rows_on more z = let m = rows_mean z in rows_more m.0 m.1 m.2 more

-- ---- check_frame

pub check_frame_one : (k : ℕ) (frame : List ℕ) → ExactlyOne ℕ (Checked k frame)
check_frame_one k frame = record { outcome = check_number k frame; meets = record { answer = refl }; only = λ o m. m.answer }

module _ (k : ℕ) (frame : List ℕ) where
  pub check_1 : system_of k ≡ None → 1 ≡ check_number k frame
  unfolding check_number first_of pick
  check_1 e = rw e refl

  module _ (y : System) (known : system_of k ≡ Some y) where
    pub check_2 : eqb (length frame) (48000 * sequences_of y) ≡ false → 2 ≡ check_number k frame
    unfolding check_number first_of pick
    check_2 e = rw (known, e) refl

    -- else what the frame itself says
    pub check_rows_lem : eqb (length frame) (48000 * sequences_of y) ≡ true → first_of (check_rows y frame) ≡ check_number k frame
    unfolding check_number first_of pick
    check_rows_lem e = rw (known, e) refl

    -- what is in order passes
    pub check_0 : length frame ≡ 48000 * sequences_of y → fault_in y frame ≡ 0 → every_sequence y frame (dsf_agrees y) ≡ true → every_sequence y frame (vs_agrees y) ≡ true
        → check_number k frame ≡ 0
    check_0 e clean dsf vs = sym (check_rows_lem (eq-eqb _ _ e)) ∙ rows_0 y frame clean dsf vs
