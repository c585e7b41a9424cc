-- Laws of blocks and sequences as parts of a frame. Assumes nothing.
use mathlib.Core.Path.{◌≡◌, sym, ap, ◌∙◌}
use mathlib.Core.List.{List, []}
use Prim.Native.Nat.{ℕ, ◌+◌, ◌*◌, ◌/◌, ◌%◌, ◌≤◌, ◌<◌}
use native.Mathlib.Nat.{mul-le-mul_left, mul_comm, div-add-mod', mod-lt, div-lt_iff_lt-mul}
use native.Mathlib.Omega.{arith}
use lib.ListN.{length, take, drop}
use borrow.Author.Tests.{eq-eqb, ne_eqb}
use Rattle.base.proofs.Cases.{by_eq}
use Rattle.base.proofs.Parts.{length_part, part_part, digit_one}
use Rattle.base.proofs.Picks.{pick_true, pick_false}
use Rattle.paper.specs.declared.System.{System}
use Rattle.paper.specs.declared.Part.{Part}
use Rattle.rules_format.specs.Systems.{sequences_of}
use Rattle.rules_format.specs.Blocks.{start_of, block_at, sequence_at, block_in, Holds, no_part, part_at, bytes_of}
use Rattle.rules_format.proofs.Systems.{sequences_some}

-- the sequences of the DIF channels before h
pub before_channel : (n h : ℕ) → h < 4 → n * h ≤ n * 3
before_channel n h l = mul-le-mul_left n (omega arith)

-- ---- start_of, Holds: blocks lie in the frame, do not overlap, and cover it

pub start_within : (y : System) (h q p : ℕ) → h < 4 → q < sequences_of y → p < 150 → start_of y h q p + 80 ≤ 48000 * sequences_of y
start_within y h q p hh hq hp = omega (arith, before_channel (sequences_of y) h hh)

pub holds_within : {y : System} {k h q p i : ℕ} → Holds y k h q p i → k < 48000 * sequences_of y
holds_within {y} {k} {h} {q} {p} {i} b = omega (arith, b.is, b.offset, start_within y h q p b.channel b.sequence b.place)

-- no byte is in two blocks
pub holds_one : {y : System} {k h q p i h' q' p' i' : ℕ} → Holds y k h q p i → Holds y k h' q' p' i' → (h ≡ h') × (q ≡ q') × (p ≡ p') × (i ≡ i')
holds_one {y} {k} {h} {q} {p} {i} {h'} {q'} {p'} {i'} a b =
    let n = sequences_of y in
    let bytes = digit_one 80 ((n * h + q) * 150 + p) ((n * h' + q') * 150 + p') i i' a.offset b.offset (sym a.is ∙ b.is) in
    let blocks = digit_one 150 (n * h + q) (n * h' + q') p p' a.place b.place bytes.0 in
    let swap : h * n + q ≡ h' * n + q' = omega (arith, mul_comm n h, mul_comm n h', blocks.0) in
    let parts = digit_one n h h' q q' a.sequence b.sequence swap in
    (parts.0, parts.1, blocks.1, bytes.1)

-- every byte is in one
pub holds_some : (y : System) (k : ℕ) → k < 48000 * sequences_of y
    → Holds y k (k / 80 / 150 / sequences_of y) (k / 80 / 150 % sequences_of y) (k / 80 % 150) (k % 80)
holds_some y k l =
    let n = sequences_of y in
    let some : 0 < n = sequences_some y in
    let block : k / 80 / 150 < 4 * n = omega arith in
    record {
      channel = (div-lt_iff_lt-mul some).1 block;
      sequence = mod-lt (k / 80 / 150) some;
      place = omega arith;
      offset = omega arith;
      is = omega (arith, div-add-mod' (k / 80 / 150) n, mul_comm n (k / 80 / 150 / n));
    }

-- ---- block_at, sequence_at

pub block_length : (y : System) (frame : List ℕ) (h q p : ℕ) → length frame ≡ 48000 * sequences_of y → h < 4 → q < sequences_of y → p < 150
    → length (block_at y frame h q p) ≡ 80
unfolding block_at
block_length y frame h q p e hh hq hp = length_part (start_of y h q p) 80 frame (omega (arith, e, start_within y h q p hh hq hp))

-- a block is a part of its sequence
pub block_in_sequence : (y : System) (frame : List ℕ) (h q p : ℕ) → p < 150 → block_in (sequence_at y frame h q) p ≡ block_at y frame h q p
unfolding block_in sequence_at block_at
block_in_sequence y frame h q p hp =
    let n = sequences_of y in
    let e : (n * h + q) * 12000 + p * 80 ≡ start_of y h q p = omega arith in
    part_part ((n * h + q) * 12000) 12000 (p * 80) 80 frame (omega arith) ∙ rw e

-- a sequence is a part of the frame
pub sequence_length : (y : System) (frame : List ℕ) (h q : ℕ) → length frame ≡ 48000 * sequences_of y → h < 4 → q < sequences_of y
    → length (sequence_at y frame h q) ≡ 12000
unfolding sequence_at
sequence_length y frame h q e hh hq = length_part ((sequences_of y * h + q) * 12000) 12000 frame (omega (arith, e, before_channel (sequences_of y) h hh))

-- ---- part_at

module _ (number start size : ℕ) where
  pub part_taken : number ≡ 0 → part_at number start size ≡ record { number = 0; start = start; length = size }
  unfolding part_at
  part_taken z = pick_true _ _ (eq-eqb _ 0 z)

  pub part_refused : (number ≡ 0 → ⊥) → part_at number start size ≡ no_part number
  unfolding part_at
  part_refused d = pick_false _ _ (ne_eqb _ 0 d)

  pub part_number : (part_at number start size).number ≡ number
  part_number = by_eq number 0 (λ z. ap (λ (r : Part). r.number) (part_taken z) ∙ sym z) (λ d. ap (λ (r : Part). r.number) (part_refused d))

  -- a refusal says no bytes
  pub part_bytes : (frame bytes : List ℕ) → (number ≡ 0 → take size (drop start frame) ≡ bytes) → ((number ≡ 0 → ⊥) → bytes ≡ []) → bytes_of frame (part_at number start size) ≡ bytes
  part_bytes frame bytes taken refused =
      by_eq number 0
      (λ z. ap (bytes_of frame) (part_taken z) ∙ taken z)
      (λ d. ap (bytes_of frame) (part_refused d) ∙ sym (refused d))

  -- and what it says lies in the frame
  pub part_within : (frame : List ℕ) → (number ≡ 0 → start + size ≤ length frame) → (part_at number start size).start + (part_at number start size).length ≤ length frame
  part_within frame within = by_eq number 0 (λ z. rw (part_taken z) (within z)) (λ d. rw (part_refused d) (omega arith))
