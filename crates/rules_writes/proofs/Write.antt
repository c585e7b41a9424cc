-- The call `write_frame`: one answer and one frame for every input, each refusal exactly when its row says, a refusal writes nothing,
-- what is in order is taken. Assumes nothing.
use Rattle.std.specs.Prelude.{Some, None}
use mathlib.Core.Path.{◌≡◌, refl, sym, ◌∙◌}
use mathlib.Core.Bool.{true, false}
use mathlib.Core.List.{List}
use Prim.Native.Nat.{ℕ, ◌*◌}
use lib.Dec.{eqb}
use lib.IntN.{ℤ}
use lib.ListN.{length}
use borrow.Author.Tests.{eq-eqb, ne_eqb, eqb-true, not-false}
use Rattle.base.specs.Calls.{first_of, ExactlyOne}
use Rattle.base.specs.Pick.{pick}
use Rattle.base.proofs.Picks.{pick_true, pick_false, first_zero, both_held, both_hold}
use Rattle.paper.specs.declared.System.{System}
use Rattle.rules_format.specs.Systems.{sequences_of, is_count, system_of}
use Rattle.rules_packs.specs.TimeCode.{time_pack, time_taken}
use Rattle.rules_format.specs.Samples.{all_in_range}
use Rattle.promises.specs.Contents.{Contents}
use Rattle.rules_writes.specs.Write.{contents_of, lengths_ok, write_number, written_frame, write_left, Wrote, Takes}

-- ---- contents_of: by the writer's parameters in their order

pub contents_are : (count : ℕ) (sound : List ℤ) (macroblocks time group : List ℕ)
    → contents_of count sound macroblocks time group
    ≡ record { count = count; sound = sound; macroblocks = macroblocks; time_code = time; binary_group = group }
contents_are count sound macroblocks time group = refl

-- ---- Wrote

pub write_frame_one : (k : ℕ) (l : Contents) (frame : List ℕ) → ExactlyOne (ℕ × List ℕ) (λ o. Wrote k l frame o.0 o.1)
write_frame_one k l frame = record {
  outcome = (write_number k l (length frame), write_left k l frame);
  meets = record { answer = refl; left = refl };
  only = λ o m i. (m.answer i, m.left i);
}

-- a refusal leaves the frame as it came
pub write_refused : {k : ℕ} {l : Contents} {frame frame' : List ℕ} {r : ℕ} → Wrote k l frame r frame' → (r ≡ 0 → ⊥) → frame' ≡ frame
unfolding write_left
write_refused {k} {l} {frame} w d = w.left ∙ pick_false _ _ (ne_eqb (write_number k l (length frame)) 0 (λ z. d (w.answer ∙ z)))

-- ---- write_number: each number exactly when its row is the first that holds

module _ (k : ℕ) (l : Contents) (size : ℕ) where
  pub write_1 : system_of k ≡ None → 1 ≡ write_number k l size
  unfolding write_number first_of pick
  write_1 e = rw e refl

  module _ (y : System) (known : system_of k ≡ Some y) where
    pub write_2 : eqb size (48000 * sequences_of y) ≡ false → 2 ≡ write_number k l size
    unfolding write_number first_of pick
    write_2 e = rw (known, e) refl

    module _ (whole : eqb size (48000 * sequences_of y) ≡ true) where
      pub write_3 : is_count y l.count ≡ false → 3 ≡ write_number k l size
      unfolding write_number first_of pick
      write_3 e = rw (known, whole, e) refl

      module _ (counted : is_count y l.count ≡ true) where
        pub write_4 : lengths_ok l y ≡ false → 4 ≡ write_number k l size
        unfolding write_number first_of pick
        write_4 e = rw (known, whole, counted, e) refl

        module _ (lengths : lengths_ok l y ≡ true) where
          pub write_31 : all_in_range l.sound ≡ false → 31 ≡ write_number k l size
          unfolding write_number first_of pick
          write_31 e = rw (known, whole, counted, lengths, e) refl

          module _ (sampled : all_in_range l.sound ≡ true) where
            pub write_32 : time_taken y (time_pack l.time_code) ≡ false → 32 ≡ write_number k l size
            unfolding write_number first_of pick
            write_32 e = rw (known, whole, counted, lengths, sampled, e) refl

            pub write_0 : time_taken y (time_pack l.time_code) ≡ true → 0 ≡ write_number k l size
            unfolding write_number first_of pick
            write_0 e = rw (known, whole, counted, lengths, sampled, e) refl

    -- ---- Takes: what is taken, and that it is

    pub taken_takes : write_number k l size ≡ 0 → Takes y l size
    unfolding write_number
    taken_takes z =
        let a = first_zero _ _ _ (rw known at z) in
        let b = first_zero _ _ _ a.1 in
        let c = first_zero _ _ _ b.1 in
        let d = first_zero _ _ _ c.1 in
        let e = first_zero _ _ _ d.1 in
        let f = first_zero _ _ _ e.1 in
        let last = both_held _ _ (not-false _ d.0) in
        let third = both_held _ _ last.0 in
        let two = both_held _ _ third.0 in
        record {
          frame = eqb-true _ _ (not-false _ b.0);
          counts = not-false _ c.0;
          sounds = eqb-true _ _ two.0;
          pictures = eqb-true _ _ two.1;
          times = eqb-true _ _ third.1;
          groups = eqb-true _ _ last.1;
          levels = not-false _ e.0;
          clock = not-false _ f.0;
        }

    pub takes_taken : Takes y l size → write_number k l size ≡ 0
    takes_taken t =
        let lengths : lengths_ok l y ≡ true =
        both_hold (both_hold (both_hold (eq-eqb _ _ t.sounds) (eq-eqb _ _ t.pictures)) (eq-eqb _ _ t.times)) (eq-eqb _ _ t.groups) in
        sym (write_0 (eq-eqb _ _ t.frame) t.counts lengths t.levels t.clock)

-- ---- write_left

-- a frame that was written is that of what was lent, which is in order
module _ (k : ℕ) (y : System) (known : system_of k ≡ Some y) (l : Contents) (frame : List ℕ) where
  pub write_takes : {frame' : List ℕ} → Wrote k l frame 0 frame' → Takes y l (length frame)
  write_takes w = taken_takes k l (length frame) y known (sym w.answer)

  pub write_taken : {r : ℕ} {frame' : List ℕ} → Takes y l (length frame) → Wrote k l frame r frame' → (r ≡ 0) × (frame' ≡ written_frame y l)
  unfolding write_left
  write_taken t w =
      let z = takes_taken k l (length frame) y known t in
      (w.answer ∙ z, w.left ∙ pick_true _ _ (eq-eqb _ _ z) ∙ rw known refl)

-- as the code leaves them
pub write_stopped : (k : ℕ) (l : Contents) (frame : List ℕ) (r : ℕ) → r ≡ write_number k l (length frame) → (r ≡ 0 → ⊥) → Wrote k l frame r frame
unfolding write_left
write_stopped k l frame r e d = record { answer = e; left = sym (pick_false _ _ (ne_eqb _ 0 (λ z. d (e ∙ z)))) }

pub write_done : (k : ℕ) (y : System) (l : Contents) (frame frame' : List ℕ) (r : ℕ) → system_of k ≡ Some y → r ≡ write_number k l (length frame) → r ≡ 0 → frame' ≡ written_frame y l
    → Wrote k l frame 0 frame'
unfolding write_left
write_done k y l frame frame' r known e z left =
    record { answer = sym z ∙ e; left = left ∙ sym (pick_true _ _ (eq-eqb _ 0 (sym e ∙ z)) ∙ rw known refl) }
