-- The workshop of "A new commentary channel in a finished frame", of this call: the bytes that it exchanges. Assumes nothing.
use Rattle.std.specs.Prelude.{Some}
use mathlib.Core.Path.{◌≡◌, sym, ap, ◌∙◌, subst}
use mathlib.Core.List.{List}
use Prim.Native.Nat.{ℕ, ◌+◌, ◌/◌, ◌%◌, ◌<◌}
use native.Mathlib.Omega.{arith}
use lib.IntN.{ℤ, pos}
use lib.ListN.{length, get_or}
use Rattle.paper.specs.declared.System.{System}
use Rattle.paper.specs.Paper.{sequences, sound_start, word_by}
use Rattle.promises.specs.Refusals.{count_stored}
use Rattle.promises.specs.Commentary.{Exchanged}
use Rattle.rules_format.specs.Systems.{system_of}
use Rattle.rules_format.specs.Samples.{word_for}
use Rattle.rules_replaces.specs.Replace.{word_start, replaced, Replaced, Takes}
use Rattle.rules_format.proofs.Paper.{columns, by_system}
use Rattle.rules_format.proofs.Samples.{word_is, all_in}
use Rattle.rules_reads.proofs.GroundsAudio.{count_first}
use Rattle.rules_replaces.proofs.Replace.{word_start_lem, takes_above, takes_below, takes_few, replace_1, taken_takes, replace_taken, replaced_long, replaced_does, replaced_stays}

-- ---- replace_audio, where it answers 0

pub by_replaced : {k : ℕ} {f : List ℕ} {c : ℕ} {samples : List ℤ} {g : List ℕ} {P : Type 0} → Replaced k f c samples 0 g
    → ((y : System) → system_of k ≡ Some y → Takes y f c samples → P) → P
by_replaced {k} {f} {c} {samples} call found =
    by_system k (λ none. absurd (omega (arith, call.answer, replace_1 k f c samples none)))
    (λ y known. found y known (taken_takes k f c samples y known (sym call.answer)))

module _ (k : ℕ) (y : System) (known : system_of k ≡ Some y) (f : List ℕ) (c : ℕ) (samples : List ℤ) (t : Takes y f c samples) where
  starts : (u : ℕ) → sound_start (sequences k) c u ≡ word_start y c u
  starts u = ap (λ (n : ℕ). sound_start n c u) (columns k y known).sequences_is ∙ sym (word_start_lem y c u)

  pub stored_count : length samples ≡ count_stored k f c
  stored_count = t.counts ∙ count_first k y known f c

  word : (u : ℕ) → u < length samples → word_for (get_or samples u (pos 0)) ≡ word_by (get_or samples u (pos 0))
  word u h = word_is _ (all_in samples u t.levels h)

  pub replaced_exchanged : Exchanged k f c samples (replaced y f c samples)
  replaced_exchanged =
      let c1 = takes_above t in
      let c8 = takes_below t in
      let few = takes_few t in
      record {
        count = stored_count;
        size = replaced_long y c c1 c8 samples f t.whole few;
        high = λ u h. rw (starts u) ((replaced_does y c c1 c8 samples f t.whole few u h).0 ∙ ap (λ (w : ℕ). w / 256) (word u h));
        low = λ u h. rw (starts u) ((replaced_does y c c1 c8 samples f t.whole few u h).1 ∙ ap (λ (w : ℕ). w % 256) (word u h));
        other = λ i n.
            replaced_stays y c c1 c8 samples f t.whole few i (λ u h.
            let d = n u (omega (arith, h, stored_count)) in
            ((λ e. d.0 (e ∙ sym (starts u))), λ e. d.1 (e ∙ ap (λ (m : ℕ). m + 1) (sym (starts u)))));
      }

pub replaces : {k : ℕ} {f : List ℕ} {c : ℕ} {samples : List ℤ} {g : List ℕ} → Replaced k f c samples 0 g → Exchanged k f c samples g
replaces {k} {f} {c} {samples} call =
    by_replaced call (λ y known t. subst (Exchanged k f c samples) (sym (replace_taken known call).1) (replaced_exchanged k y known f c samples t))
