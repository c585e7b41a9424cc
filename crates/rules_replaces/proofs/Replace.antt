-- The call `replace_audio`: the replaced frame byte by byte, each refusal exactly when its row says, a refusal writes nothing. Assumes nothing.
use Rattle.std.specs.Prelude.{Some, None}
use mathlib.Core.Path.{◌≡◌, refl, sym, ap, ◌∙◌, subst}
use mathlib.Core.Bool.{true, false}
use mathlib.Core.List.{List, ◌++◌}
use mathlib.Core.Logic.{◌≢◌}
use Prim.Native.Nat.{ℕ, ◌+◌, ◌*◌, ◌/◌, ◌%◌, ◌≤◌, ◌<◌}
use native.Mathlib.Omega.{arith}
use lib.Dec.{eqb, ltb}
use lib.IntN.{ℤ, pos}
use lib.ListN.{length, get_or}
use lib.Seq.{ext_get_or}
use borrow.Author.Tests.{eq-eqb, ne_eqb, eqb-true, eqb-false, ltb-true, not-false}
use Rattle.base.specs.Calls.{first_of, ExactlyOne}
use Rattle.base.specs.Pick.{pick}
use Rattle.base.specs.Put.{put_at}
use Rattle.base.proofs.Below.{by_below}
use Rattle.base.proofs.Cases.{by_bool, by_eq, by_lt}
use Rattle.base.proofs.Picks.{pick_true, pick_false, both_held, first_zero, first_stops}
use Rattle.base.proofs.Puts.{put_length, put_before, put_here, put_after, turns_keep, turns_do}
use Rattle.paper.specs.declared.System.{System}
use Rattle.paper.specs.Paper.{sound_start}
use Rattle.rules_format.specs.Systems.{sequences_of, positions_of, is_count, system_of}
use Rattle.rules_format.specs.Samples.{all_in_range, word_for, bytes_of}
use Rattle.rules_reads.specs.Check.{check_rows}
use Rattle.rules_reads.specs.Audio.{count_for, is_marked, is_audio, audio_rows}
use Rattle.rules_replaces.specs.Replace.{word_start, put_sample, replaced, replace_rows, replace_number, replace_left, Replaced, Takes}
use Rattle.rules_format.proofs.Systems.{count_below}
use Rattle.rules_format.proofs.Blocks.{holds_within}
use Rattle.rules_format.proofs.Starts.{start_is, word_holds, start_one}
use Rattle.rules_reads.proofs.Check.{rows_on}
use Rattle.rules_reads.proofs.Audio.{audio_on, audio_mean, count_own}

-- ---- word_start: document 01's own formula

pub word_start_lem : (y : System) (c t : ℕ) → word_start y c t ≡ sound_start (sequences_of y) c t
word_start_lem y c t = sym (start_is y c t)

-- ---- put_sample, in any order: f is the frame before

module _ (y : System) (c : ℕ) (c1 : 0 < c) (c8 : c < 9) (samples : List ℤ) (f : List ℕ) (whole : length f ≡ 48000 * sequences_of y) where
  abbrev pub Long : List ℕ → Type 0
  Long x = length x ≡ length f

  -- sample t is in its place
  abbrev pub Done : ℕ → List ℕ → Type 0
  Done t x = (get_or x (word_start y c t) 0 ≡ word_for (get_or samples t (pos 0)) / 256) × (get_or x (word_start y c t + 1) 0 ≡ word_for (get_or samples t (pos 0)) % 256)

  -- byte i is none of theirs
  abbrev pub Apart : ℕ → Type 0
  Apart i = (t : ℕ) → t < length samples → (i ≢ word_start y c t) × (i ≢ word_start y c t + 1)

  module _ (u : ℕ) (hu : u < positions_of y) (x : List ℕ) (long : length x ≡ length f) where
    fits : word_start y c u + 2 ≤ length x
    fits = omega (arith, whole, long, word_start_lem y c u, holds_within (word_holds y c u 1 c8 hu (omega arith)))

    pub put_long : length (put_sample y c samples u x) ≡ length f
    unfolding put_sample
    put_long = put_length (word_start y c u) _ x fits ∙ long

    pub put_does : Done u (put_sample y c samples u x)
    unfolding put_sample
    put_does =
        let e : word_start y c u ≡ word_start y c u + 0 = omega arith in
        let bytes : List ℕ = bytes_of (word_for (get_or samples u (pos 0))) in (
          ap (λ (i : ℕ). get_or (put_at (word_start y c u) bytes x) i 0) e ∙ put_here (word_start y c u) bytes x fits 0 0 (omega arith),
          put_here (word_start y c u) bytes x fits 0 1 (omega arith),
        )

    -- another byte stays
    pub put_stays : (i : ℕ) → (i ≢ word_start y c u) × (i ≢ word_start y c u + 1) → get_or (put_sample y c samples u x) i 0 ≡ get_or x i 0
    unfolding put_sample
    put_stays i d =
        let bytes : List ℕ = bytes_of (word_for (get_or samples u (pos 0))) in
        by_lt i (word_start y c u)
        (λ l. put_before (word_start y c u) bytes x fits 0 i l)
        (λ g. put_after (word_start y c u) bytes x fits 0 i (omega (arith, d.0, d.1)))

    pub put_keeps : (t : ℕ) → t < positions_of y → Done t x → Done t (put_sample y c samples u x)
    put_keeps t ht done =
        by_eq t u
        (λ e. subst (λ (i : ℕ). Done i (put_sample y c samples u x)) (sym e) put_does)
        (λ d.
        let n : word_start y c t ≢ word_start y c u = λ e.
        d (start_one y c c t u c1 c8 c1 c8 ht hu (sym (word_start_lem y c t) ∙ e ∙ word_start_lem y c u)).1 in
        (put_stays (word_start y c t) (n, λ e. omega (arith, e)) ∙ done.0, put_stays (word_start y c t + 1) ((λ e. omega (arith, e)), λ e. n (omega (arith, e))) ∙ done.1))

  -- ---- replaced: sample after sample

  module _ (few : length samples < positions_of y) where
    pub replaced_long : Long (replaced y f c samples)
    unfolding replaced
    replaced_long = turns_keep (put_sample y c samples) Long _ f (λ i x h long. put_long i (omega (arith, h, few)) x long) refl

    replaced_keeps : (i : ℕ) → Apart i → Long (replaced y f c samples) × (get_or (replaced y f c samples) i 0 ≡ get_or f i 0)
    unfolding replaced
    replaced_keeps i n =
        turns_keep (put_sample y c samples) (λ (x : List ℕ). Long x × (get_or x i 0 ≡ get_or f i 0)) _ f
        (λ u x h p. (put_long u (omega (arith, h, few)) x p.0, put_stays u (omega (arith, h, few)) x p.0 i (n u (omega (arith, h))) ∙ p.1)) (refl, refl)

    pub replaced_stays : (i : ℕ) → Apart i → get_or (replaced y f c samples) i 0 ≡ get_or f i 0
    replaced_stays i n = (replaced_keeps i n).1

    pub replaced_does : (t : ℕ) → t < length samples → Done t (replaced y f c samples)
    unfolding replaced
    replaced_does t ht =
        turns_do (put_sample y c samples) Long (Done t) _ t f ht (λ i x h long. put_long i (omega (arith, h, few)) x long) refl
        (λ x long. put_does t (omega (arith, ht, few)) x long) (λ i x h long. put_keeps i (omega (arith, h, few)) x long t (omega (arith, ht, few)))

    -- in whatever order they are put in, the frame is one
    pub replaced_one : (x : List ℕ) → Long x → ((t : ℕ) → t < length samples → Done t x) → ((i : ℕ) → Apart i → get_or x i 0 ≡ get_or f i 0)
        → x ≡ replaced y f c samples
    replaced_one x long done else =
        ext_get_or 0 x (replaced y f c samples) (long ∙ sym replaced_long) (λ i b.
        by_below (λ (t : ℕ). eqb i (word_start y c t)) (length samples)
        (λ t h e. rw (eqb-true i (word_start y c t) e) ((done t h).0 ∙ sym (replaced_does t h).0))
        (λ high.
        by_below (λ (t : ℕ). eqb i (word_start y c t + 1)) (length samples)
        (λ t h e. rw (eqb-true i (word_start y c t + 1) e) ((done t h).1 ∙ sym (replaced_does t h).1))
        (λ low.
        let apart : Apart i = λ t h. (eqb-false i (word_start y c t) (high t h), eqb-false i (word_start y c t + 1) (low t h)) in
        else i apart ∙ sym (replaced_stays i apart))))

-- ---- replace_rows: each number exactly when its row is the first that holds

module _ (y : System) (frame : List ℕ) (c : ℕ) (samples : List ℤ) where
  pub replace_29 : eqb (length samples) (count_for y frame c) ≡ false → 29 ≡ first_of (replace_rows y frame c samples)
  unfolding replace_rows first_of pick
  replace_29 e = rw e refl

  module _ (counted : eqb (length samples) (count_for y frame c) ≡ true) where
    pub replace_31 : all_in_range samples ≡ false → 31 ≡ first_of (replace_rows y frame c samples)
    unfolding replace_rows first_of pick
    replace_31 e = rw (counted, e) refl

    module _ (sampled : all_in_range samples ≡ true) where
      pub replace_33 : is_marked y frame c ≡ true → 33 ≡ first_of (replace_rows y frame c samples)
      unfolding replace_rows first_of pick
      replace_33 e = rw (counted, sampled, e) refl

      pub replace_0 : is_marked y frame c ≡ false → 0 ≡ first_of (replace_rows y frame c samples)
      unfolding replace_rows first_of pick
      replace_0 e = rw (counted, sampled, e) refl

  -- 0 says that no row holds
  pub replace_mean : first_of (replace_rows y frame c samples) ≡ 0 → (length samples ≡ count_for y frame c) × (all_in_range samples ≡ true) × (is_marked y frame c ≡ false)
  unfolding replace_rows
  replace_mean z =
      let a = first_zero _ _ _ z in
      let b = first_zero _ _ _ a.1 in
      let d = first_zero _ _ _ b.1 in
      (eqb-true _ _ (not-false _ a.0), not-false _ b.0, d.0)

-- ---- replace_number

module _ (k : ℕ) (frame : List ℕ) (c : ℕ) (samples : List ℤ) where
  pub replace_1 : system_of k ≡ None → 1 ≡ replace_number k frame c samples
  unfolding replace_number first_of pick
  replace_1 e = rw e refl

  module _ (y : System) (known : system_of k ≡ Some y) where
    pub replace_2 : eqb (length frame) (48000 * sequences_of y) ≡ false → 2 ≡ replace_number k frame c samples
    unfolding replace_number first_of pick
    replace_2 e = rw (known, e) refl

    module _ (whole : eqb (length frame) (48000 * sequences_of y) ≡ true) where
      pub replace_3 : is_audio c ≡ false → 3 ≡ replace_number k frame c samples
      unfolding replace_number first_of pick
      replace_3 e = rw (known, whole, e) refl

      module _ (channel : is_audio c ≡ true) where
        all_rows : replace_number k frame c samples ≡ first_of (check_rows y frame ++ (audio_rows y frame c ++ replace_rows y frame c samples))
        unfolding replace_number first_of pick
        all_rows = rw (known, whole, channel) refl

        -- the frame check's refusals come first, then the audio read's, then the call's own
        pub replace_checked : (first_of (check_rows y frame) ≡ 0 → ⊥) → first_of (check_rows y frame) ≡ replace_number k frame c samples
        replace_checked d = sym (all_rows ∙ first_stops (check_rows y frame) (audio_rows y frame c ++ replace_rows y frame c samples) d)

        module _ (checked : first_of (check_rows y frame) ≡ 0) where
          on : replace_number k frame c samples ≡ first_of (audio_rows y frame c ++ replace_rows y frame c samples)
          on = all_rows ∙ rows_on y frame (audio_rows y frame c ++ replace_rows y frame c samples) checked

          pub replace_heard : (first_of (audio_rows y frame c) ≡ 0 → ⊥) → first_of (audio_rows y frame c) ≡ replace_number k frame c samples
          replace_heard d = sym (on ∙ first_stops (audio_rows y frame c) (replace_rows y frame c samples) d)

          pub replace_rows_lem : first_of (audio_rows y frame c) ≡ 0 → first_of (replace_rows y frame c samples) ≡ replace_number k frame c samples
          replace_rows_lem z = sym (on ∙ audio_on y frame c (replace_rows y frame c samples) z)

    -- 0 is given exactly for what the call takes
    pub takes_taken : Takes y frame c samples → replace_number k frame c samples ≡ 0
    takes_taken t =
        sym (replace_rows_lem (eq-eqb _ _ t.whole) t.channel t.checks t.hears)
        ∙ sym (replace_0 y frame c samples (eq-eqb _ _ t.counts) t.levels t.recorded)

    pub taken_takes : replace_number k frame c samples ≡ 0 → Takes y frame c samples
    taken_takes z =
        by_bool (eqb (length frame) (48000 * sequences_of y))
        (λ whole.
        by_bool (is_audio c)
        (λ channel.
        by_eq (first_of (check_rows y frame)) 0
        (λ checked.
        by_eq (first_of (audio_rows y frame c)) 0
        (λ heard.
        let own = replace_mean y frame c samples (replace_rows_lem whole channel checked heard ∙ z) in
        record { whole = eqb-true _ _ whole; channel = channel; checks = checked; hears = heard; counts = own.0; levels = own.1; recorded = own.2 })
        (λ d. absurd (d (replace_heard whole channel checked d ∙ z))))
        (λ d. absurd (d (replace_checked whole channel d ∙ z))))
        (λ e. absurd (omega (arith, z, replace_3 whole e))))
        (λ e. absurd (omega (arith, z, replace_2 e)))

-- ---- Takes

module _ {y : System} {f : List ℕ} {c : ℕ} {samples : List ℤ} (t : Takes y f c samples) where
  pub takes_above : 0 < c
  takes_above = ltb-true 0 c (both_held (ltb 0 c) (ltb c 9) t.channel).0

  pub takes_below : c < 9
  takes_below = ltb-true c 9 (both_held (ltb 0 c) (ltb c 9) t.channel).1

  -- as many samples as the system has of its own, fewer than its positions
  pub takes_own : is_count y (length samples) ≡ true
  takes_own = rw t.counts (count_own y f c (audio_mean y f c t.hears).1)

  pub takes_few : length samples < positions_of y
  takes_few = count_below y (length samples) takes_own

-- ---- replace_audio

pub replace_audio_one : (k : ℕ) (frame : List ℕ) (c : ℕ) (samples : List ℤ) → ExactlyOne (ℕ × List ℕ) (λ o. Replaced k frame c samples o.0 o.1)
replace_audio_one k frame c samples = record {
  outcome = (replace_number k frame c samples, replace_left k frame c samples);
  meets = record { answer = refl; left = refl };
  only = λ o m i. (m.answer i, m.left i);
}

-- a refusal leaves the frame as it came
pub replace_refused : {k : ℕ} {frame : List ℕ} {c : ℕ} {samples : List ℤ} {r : ℕ} {frame' : List ℕ} → Replaced k frame c samples r frame' → (r ≡ 0 → ⊥) → frame' ≡ frame
unfolding replace_left
replace_refused {k} {frame} {c} {samples} w d = w.left ∙ pick_false _ _ (ne_eqb (replace_number k frame c samples) 0 (λ z. d (w.answer ∙ z)))

pub replace_taken : {k : ℕ} {y : System} {frame : List ℕ} {c : ℕ} {samples : List ℤ} {frame' : List ℕ} → system_of k ≡ Some y → Replaced k frame c samples 0 frame'
    → (replace_number k frame c samples ≡ 0) × (frame' ≡ replaced y frame c samples)
unfolding replace_left
replace_taken known w = (sym w.answer, w.left ∙ pick_true _ _ (eq-eqb _ 0 (sym w.answer)) ∙ rw known refl)

-- as the code leaves them
pub replace_stopped : (k : ℕ) (frame : List ℕ) (c : ℕ) (samples : List ℤ) (r : ℕ) → r ≡ replace_number k frame c samples → (r ≡ 0 → ⊥) → Replaced k frame c samples r frame
unfolding replace_left
replace_stopped k frame c samples r e d = record { answer = e; left = sym (pick_false _ _ (ne_eqb _ 0 (λ z. d (e ∙ z)))) }

pub replace_done : (k : ℕ) (y : System) (frame frame' : List ℕ) (c : ℕ) (samples : List ℤ) (r : ℕ) → system_of k ≡ Some y → r ≡ replace_number k frame c samples → r ≡ 0 → frame' ≡ replaced y frame c samples
    → Replaced k frame c samples 0 frame'
unfolding replace_left
replace_done k y frame frame' c samples r known e z left =
    record { answer = sym z ∙ e; left = left ∙ sym (pick_true _ _ (eq-eqb _ 0 (sym e ∙ z)) ∙ rw known refl) }
