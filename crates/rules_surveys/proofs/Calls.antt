-- Every public call: one answer and one content of each lent buffer, for every input; a refusal writes nothing; what is in order is taken.
-- Assumes nothing.
use Rattle.std.specs.Prelude.{Option, Some, None}
use mathlib.Core.Path.{◌≡◌, refl, sym, ap, ◌∙◌}
use mathlib.Core.Bool.{true, false, ◌||◌}
use mathlib.Core.List.{List, []}
use Prim.Native.Nat.{ℕ, suc, ◌+◌, ◌*◌, ◌/◌, ◌≤◌, ◌<◌, min}
use native.Mathlib.Omega.{arith}
use lib.Dec.{eqb, leb}
use lib.ListN.{length, take, drop}
use borrow.Author.Tests.{eq-eqb, ne_eqb, lt-leb, le-leb, leb-false}
use Rattle.base.specs.Calls.{first_of, ExactlyOne}
use Rattle.base.specs.Pick.{pick}
use Rattle.base.proofs.Cases.{by_bool, by_lt, by_eq}
use Rattle.base.proofs.Picks.{pick_true, pick_false, neither}
use Rattle.paper.specs.declared.System.{System}
use Rattle.paper.specs.declared.Place.{Place}
use Rattle.paper.specs.declared.Part.{Part}
use Rattle.paper.specs.declared.IdValues.{IdValues}
use Rattle.paper.specs.declared.IdAnswer.{IdAnswer}
use Rattle.paper.specs.declared.Fault.{Fault}
use Rattle.paper.specs.declared.Survey.{Survey}
use Rattle.rules_format.specs.Systems.{sequences_of, system_of}
use Rattle.rules_format.specs.Ids.{section_bits, dseq_bits, fsc_bit, fsp_bit, dbn_byte, arbitrary_bits, reserved_bits, channel_of, named_by, spare_in, id_answer}
use Rattle.rules_format.specs.Ids.{id_refusal, id_values}
use Rattle.rules_format.specs.Blocks.{start_of, block_at, no_part, bytes_of}
use Rattle.rules_format.specs.Faults.{fault_at}
use Rattle.rules_surveys.specs.Records.{width, kept, after}
use Rattle.rules_surveys.specs.Noting.{Noted}
use Rattle.rules_surveys.specs.ReadId.{id_number, id_says, IdRead, IdSaid}
use Rattle.rules_surveys.specs.Survey.{outside_sequences, survey_number, sequence_number, refusal, survey_answer, survey_left, Surveyed, FrameSurveyed}
use Rattle.rules_surveys.specs.Survey.{SequenceSurveyed}
use Rattle.rules_surveys.specs.View.{view_number, viewed_block, view_part, viewed_start, view_at, ViewNumbered, Viewed, ViewLies}
use Rattle.rules_format.proofs.Places.{code_section}
use Rattle.rules_format.proofs.Blocks.{start_within, block_length, part_taken, part_number, part_refused, part_bytes, part_within}
use Rattle.rules_surveys.proofs.Records.{kept_length, more_after}
use Rattle.rules_format.proofs.Ids.{read_id_0, read_id_11, read_id_4}

-- ---- read_id

module _ (id : List ℕ) where
  -- the same in the paper's numbers: a refusal answers its number, otherwise zeros
  pub read_id_says_4 : (length id ≡ 3 → ⊥) → id_values (id_answer id) ≡ id_refusal 4
  read_id_says_4 d = ap id_values (read_id_4 id d)

  pub read_id_says_11 : length id ≡ 3 → 5 ≤ section_bits id → id_values (id_answer id) ≡ id_refusal 11
  read_id_says_11 e r = ap id_values (read_id_11 id e r)

  pub read_id_says_0 : length id ≡ 3 → section_bits id < 5
      → id_values (id_answer id) ≡ record {
        number = 0;
        section = section_bits id;
        channel = channel_of (fsc_bit id) (fsp_bit id);
        dseq = dseq_bits id;
        dbn = dbn_byte id;
        arbitrary = arbitrary_bits id;
        reserved = reserved_bits id;
      }
  unfolding named_by spare_in
  read_id_says_0 e s = ap id_values (read_id_0 id e s) ∙ rw (code_section (section_bits id) s) refl

  -- and at once, by the refusal table
  read_id_says : id_values (id_answer id) ≡ id_says id
  unfolding id_says id_number first_of pick
  read_id_says =
      by_eq (length id) 3
      (λ three.
      by_lt (section_bits id) 5
      (λ named. read_id_says_0 three named ∙ rw (eq-eqb _ _ three, lt-leb _ _ named) refl)
      (λ reserved. read_id_says_11 three reserved ∙ rw (eq-eqb _ _ three, le-leb _ _ reserved) refl))
      (λ other. read_id_says_4 other ∙ rw (ne_eqb _ _ other) refl)

  -- whoever answers so answers the paper's number and values
  pub id_read : (r : IdAnswer) → r ≡ id_answer id → IdRead id r
  id_read r e = record { answer = e; says = ap id_values e ∙ read_id_says }

  pub read_id_one : ExactlyOne IdAnswer (IdRead id)
  read_id_one = record { outcome = id_answer id; meets = id_read (id_answer id) refl; only = λ o m. m.answer }

  pub id_said_one : ExactlyOne IdValues (IdSaid id)
  id_said_one = record { outcome = id_says id; meets = record { answer = refl }; only = λ o m. m.answer }

-- ---- survey and survey_sequence

survey_one : (number : ℕ) (fs : List Fault) (list : List ℕ) → ExactlyOne (Survey × List ℕ) (λ o. Surveyed number fs list o.0 o.1)
survey_one number fs list = record {
  outcome = (survey_answer number fs list, survey_left number fs list);
  meets = record { answer = refl; left = refl };
  only = λ o m i. (m.answer i, m.left i);
}

pub survey_frame_one : (k : ℕ) (frame list : List ℕ) → ExactlyOne (Survey × List ℕ) (λ o. FrameSurveyed k frame list o.0 o.1)
survey_frame_one k frame list = survey_one _ _ list

pub survey_sequence_one : (k h q : ℕ) (part list : List ℕ) → ExactlyOne (Survey × List ℕ) (λ o. SequenceSurveyed k h q part list o.0 o.1)
survey_sequence_one k h q part list = survey_one _ _ list

module _ {number : ℕ} {fs : List Fault} {list list' : List ℕ} {r : Survey} (s : Surveyed number fs list r list') where
  -- a refusal answers its number and zeros, and leaves the list as it came
  pub survey_refused : (number ≡ 0 → ⊥) → (r ≡ refusal number) × (list' ≡ list)
  unfolding survey_answer survey_left
  survey_refused d = (s.answer ∙ pick_false _ _ (ne_eqb _ _ d), s.left ∙ pick_false _ _ (ne_eqb _ _ d))

  pub survey_taken : number ≡ 0 → (r ≡ record { number = 0; total = length fs; kept = length (kept list fs) }) × (list' ≡ after list fs)
  unfolding survey_answer survey_left
  survey_taken z = (s.answer ∙ pick_true _ _ (eq-eqb _ _ z), s.left ∙ pick_true _ _ (eq-eqb _ _ z))

-- a survey that went through: its total, what it kept and what it left; and as the code leaves it
module _ (number : ℕ) (fs : List Fault) (list list' : List ℕ) (t b : ℕ) (z : number ≡ 0) where
  pub survey_given : t ≡ length fs → b ≡ length (kept list fs) → list' ≡ after list fs → Surveyed number fs list (record { number = 0; total = t; kept = b }) list'
  unfolding survey_answer survey_left pick
  survey_given total held left = record { answer = rw (eq-eqb number 0 z, total, held) refl; left = rw (eq-eqb number 0 z) left }

  pub survey_done : Noted list 0 fs list' t → b ≡ min (length list / width) t → Surveyed number fs list (record { number = 0; total = t; kept = b }) list'
  survey_done n e =
      let total : t ≡ length fs = omega (arith, n.total) in
      survey_given total (e ∙ ap (min (length list / width)) total ∙ sym (kept_length list fs)) (n.left ∙ more_after list fs)

-- a refusal, as the code leaves it
pub survey_stopped : (number : ℕ) (fs : List Fault) (list : List ℕ) (k : ℕ) (r : Survey) → number ≡ suc k → r ≡ refusal (suc k) → Surveyed number fs list r list
unfolding survey_answer survey_left pick
survey_stopped number fs list k r e er =
    let d : eqb number 0 ≡ false = ne_eqb number 0 (λ z. omega arith) in
    record { answer = rw (d, e) er; left = rw d refl }

-- the number of a frame's survey
module _ (k size : ℕ) where
  pub survey_1 : system_of k ≡ None → survey_number k size ≡ 1
  unfolding survey_number first_of pick
  survey_1 e = rw e refl

  module _ (y : System) (known : system_of k ≡ Some y) where
    pub survey_0 : size ≡ 48000 * sequences_of y → survey_number k size ≡ 0
    unfolding survey_number first_of pick
    survey_0 e = rw (known, eq-eqb _ _ e) refl

    pub survey_2 : (size ≡ 48000 * sequences_of y → ⊥) → survey_number k size ≡ 2
    unfolding survey_number first_of pick
    survey_2 d = rw (known, ne_eqb _ _ d) refl

-- the number of a sequence's survey
module _ (k h q size : ℕ) where
  pub sequence_1 : system_of k ≡ None → sequence_number k h q size ≡ 1
  unfolding sequence_number first_of pick
  sequence_1 e = rw e refl

  module _ (y : System) (known : system_of k ≡ Some y) where
    pub sequence_3 : outside_sequences (Some y) h q ≡ true → sequence_number k h q size ≡ 3
    unfolding sequence_number first_of pick
    sequence_3 o = rw (known, o) refl

    module _ (inside : outside_sequences (Some y) h q ≡ false) where
      pub sequence_4 : (size ≡ 12000 → ⊥) → sequence_number k h q size ≡ 4
      unfolding sequence_number first_of pick
      sequence_4 d = rw (known, inside, ne_eqb _ _ d) refl

      pub sequence_0 : size ≡ 12000 → sequence_number k h q size ≡ 0
      unfolding sequence_number first_of pick
      sequence_0 e = rw (known, inside, eq-eqb _ _ e) refl

-- ---- outside_sequences

pub inside_means : (y : System) (h q : ℕ) → outside_sequences (Some y) h q ≡ false → (h < 4) × (q < sequences_of y)
inside_means y h q o = let both = neither (leb 4 h) (leb (sequences_of y) q) o in (leb-false _ _ both.0, leb-false _ _ both.1)

pub inside_when : (y : System) (h q : ℕ) → h < 4 → q < sequences_of y → outside_sequences (Some y) h q ≡ false
inside_when y h q hh hq = rw (lt-leb _ _ hh, lt-leb _ _ hq) refl

-- ---- view_number and view

pub view_number_one : (k : ℕ) (frame : List ℕ) (h q : ℕ) (p : Place) → ExactlyOne ℕ (ViewNumbered k frame h q p)
view_number_one k frame h q p = record { outcome = view_number k frame h q p; meets = record { answer = refl }; only = λ o m. m.answer }

pub view_one : (k : ℕ) (frame : List ℕ) (h q : ℕ) (p : Place) → ExactlyOne (List ℕ) (Viewed k frame h q p)
view_one k frame h q p = record { outcome = view_part k frame h q p; meets = record { answer = refl }; only = λ o m. m.answer }

module _ (k : ℕ) (frame : List ℕ) (h q : ℕ) (p : Place) where
  pub view_1 : system_of k ≡ None → view_number k frame h q p ≡ 1
  unfolding view_number first_of pick
  view_1 e = rw e refl

  -- the part is empty where the number is a refusal
  pub view_refused : (view_number k frame h q p ≡ 0 → ⊥) → view_part k frame h q p ≡ []
  unfolding view_part
  view_refused d = pick_false _ _ (ne_eqb _ _ d)

  module _ (y : System) (known : system_of k ≡ Some y) where
    pub view_2 : (length frame ≡ 48000 * sequences_of y → ⊥) → view_number k frame h q p ≡ 2
    unfolding view_number first_of pick
    view_2 d = rw (known, ne_eqb _ _ d) refl

    pub view_taken : view_number k frame h q p ≡ 0 → view_part k frame h q p ≡ block_at y frame h q p.0
    unfolding view_part
    view_taken z = pick_true _ _ (eq-eqb _ _ z) ∙ rw known refl

    module _ (whole : length frame ≡ 48000 * sequences_of y) where
      pub view_3 : (outside_sequences (Some y) h q || leb 150 p.0) ≡ true → view_number k frame h q p ≡ 3
      unfolding view_number first_of pick
      view_3 o = rw (known, eq-eqb _ _ whole, o) refl

      -- else the block's own fault, or 0
      pub view_fault : (outside_sequences (Some y) h q || leb 150 p.0) ≡ false → view_number k frame h q p ≡ fault_at (block_at y frame h q p.0) h q p.0
      unfolding view_number first_of pick
      view_fault o =
          let f = fault_at (block_at y frame h q p.0) h q p.0 in
          rw (known, eq-eqb _ _ whole, o) (by_eq f 0 (λ e. rw (eq-eqb f 0 e) (sym e)) (λ d. rw (ne_eqb f 0 d) refl))

    -- 0 says that the frame has its length, the place is in it, and its block names it
    pub view_zero : view_number k frame h q p ≡ 0
        → (length frame ≡ 48000 * sequences_of y) × (h < 4) × (q < sequences_of y) × (p.0 < 150) × (fault_at (block_at y frame h q p.0) h q p.0 ≡ 0)
    view_zero z =
        by_eq (length frame) (48000 * sequences_of y)
        (λ whole.
        by_bool (outside_sequences (Some y) h q || leb 150 p.0)
        (λ o. absurd (omega (arith, z, view_3 whole o)))
        (λ o.
        let both = neither (outside_sequences (Some y) h q) (leb 150 p.0) o in
        let i = inside_means y h q both.0 in
        (whole, i.0, i.1, leb-false _ _ both.1, sym (view_fault whole o) ∙ z)))
        (λ d. absurd (omega (arith, z, view_2 d)))

    -- and then the part is the block's 80 bytes
    pub view_length : view_number k frame h q p ≡ 0 → length (view_part k frame h q p) ≡ 80
    view_length z = let w = view_zero z in ap length (view_taken z) ∙ block_length y frame h q p.0 w.0 w.1 w.2 w.3

-- ---- view_at

module _ (k : ℕ) (frame : List ℕ) (h q : ℕ) (p : Place) where
  -- the bytes from the start on are the block
  start_block : view_number k frame h q p ≡ 0 → (s : Option System) → system_of k ≡ s → take 80 (drop (viewed_start s h q p.0) frame) ≡ viewed_block s frame h q p.0
  unfolding block_at
  start_block z (Some y) e = refl
  start_block z None e = absurd (omega (arith, z, view_1 k frame h q p e))

  start_fits : view_number k frame h q p ≡ 0 → (s : Option System) → system_of k ≡ s → viewed_start s h q p.0 + 80 ≤ length frame
  start_fits z (Some y) e = let w = view_zero k frame h q p y e z in omega (arith, w.0, start_within y h q p.0 w.1 w.2 w.3)
  start_fits z None e = absurd (omega (arith, z, view_1 k frame h q p e))

  pub view_lies : (r : Part) → r ≡ view_at k frame h q p → ViewLies k frame h q p r
  unfolding view_at view_part
  view_lies r e = record {
    answer = e;
    bytes = ap (bytes_of frame) e
        ∙ part_bytes (view_number k frame h q p) (viewed_start (system_of k) h q p.0) 80 frame (view_part k frame h q p)
        (λ z. start_block z (system_of k) refl ∙ sym (pick_true _ _ (eq-eqb _ _ z)))
        (view_refused k frame h q p);
  }

  -- the two ways to it
  pub view_lies_stopped : (n : ℕ) → n ≡ view_number k frame h q p → (n ≡ 0 → ⊥) → (r : Part) → r ≡ no_part n → ViewLies k frame h q p r
  unfolding view_at
  view_lies_stopped n en d r e = view_lies r (e ∙ ap no_part en ∙ sym (part_refused _ (viewed_start (system_of k) h q p.0) 80 (λ z. d (en ∙ z))))

  pub view_lies_found : (y : System) → system_of k ≡ Some y → view_number k frame h q p ≡ 0 → ViewLies k frame h q p (record { number = 0; start = start_of y h q p.0; length = 80 })
  unfolding view_at
  view_lies_found y known z = view_lies _ (sym (part_taken _ (viewed_start (system_of k) h q p.0) 80 z ∙ rw known refl))

  pub view_lies_one : ExactlyOne Part (ViewLies k frame h q p)
  view_lies_one = record { outcome = view_at k frame h q p; meets = view_lies (view_at k frame h q p) refl; only = λ o m. m.answer }

  pub view_lies_number : {r : Part} → ViewLies k frame h q p r → r.number ≡ view_number k frame h q p
  unfolding view_at
  view_lies_number m = ap (λ (r : Part). r.number) m.answer ∙ part_number (view_number k frame h q p) (viewed_start (system_of k) h q p.0) 80

  pub view_lies_refused : {r : Part} → ViewLies k frame h q p r → (view_number k frame h q p ≡ 0 → ⊥) → r ≡ no_part (view_number k frame h q p)
  unfolding view_at
  view_lies_refused m d = m.answer ∙ part_refused (view_number k frame h q p) (viewed_start (system_of k) h q p.0) 80 d

  pub view_lies_within : {r : Part} → ViewLies k frame h q p r → r.start + r.length ≤ length frame
  unfolding view_at
  view_lies_within m = rw m.answer (part_within (view_number k frame h q p) (viewed_start (system_of k) h q p.0) 80 frame (λ z. start_fits z (system_of k) refl))
