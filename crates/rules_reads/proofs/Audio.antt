-- The call `read_audio`: one answer and one content of the list for every input, each refusal exactly when its row says, a refusal
-- writes nothing, what is in order is heard. Assumes nothing.
use Rattle.std.specs.Prelude.{Some, None}
use mathlib.Core.Path.{◌≡◌, refl, sym, ap, ◌∙◌}
use mathlib.Core.Bool.{true, false}
use mathlib.Core.List.{List, ◌++◌}
use Prim.Native.Nat.{ℕ, ◌+◌, ◌*◌, ◌<◌}
use native.Mathlib.Nat.{add-zero}
use native.Mathlib.Omega.{arith}
use lib.Dec.{eqb}
use lib.IntN.{ℤ, pos}
use lib.ListN.{length, get_or, drop, get_or-append}
use lib.Seq.{get_or-append-add, get_or-drop}
use borrow.Author.Tests.{eq-eqb, ne_eqb, eqb-true, not-false}
use Rattle.base.specs.Calls.{Refusal, first_of, ExactlyOne}
use Rattle.base.specs.Pick.{pick}
use Rattle.base.specs.Run.{tab}
use Rattle.base.proofs.Cases.{by_bool, by_eq}
use Rattle.base.proofs.Picks.{pick_true, pick_false, first_zero, first_stops}
use Rattle.base.proofs.Runs.{length_tab, tab_at}
use Rattle.paper.specs.declared.System.{System}
use Rattle.paper.specs.declared.Sample.TheVariants.{Lost}
use Rattle.paper.specs.declared.AudioAnswer.{AudioAnswer}
use Rattle.rules_format.specs.Systems.{sequences_of, half_of, positions_of, is_count, system_of}
use Rattle.rules_format.specs.Blocks.{sequence_at}
use Rattle.rules_packs.specs.Aaux.{As, count_in}
use Rattle.rules_format.specs.Samples.{number_of}
use Rattle.rules_format.specs.Sound.{dif_of}
use Rattle.rules_reads.specs.Check.{every_sequence, unflagged, check_rows}
use Rattle.rules_format.specs.Reading.{read_sample}
use Rattle.rules_reads.specs.Audio.{first_of_half, every_in_half, as_in, as_keeps, first_as, count_for, is_marked, count_is, as_agree, is_audio}
use Rattle.rules_reads.specs.Audio.{audio_rows, audio_number, audio_answer, heard_sample, heard, audio_left, AudioRead}
use Rattle.rules_format.proofs.Systems.{half_cases, count_below}
use Rattle.rules_format.proofs.Sound.{half_some}
use Rattle.rules_packs.proofs.Aaux.{as_means}
use Rattle.rules_reads.proofs.Check.{from_means, rows_on}

-- ---- audio_rows: each number exactly when its row is the first that holds

module _ (y : System) (frame : List ℕ) (c : ℕ) where
  pub audio_23 : every_sequence y frame (unflagged 1) ≡ false → 23 ≡ first_of (audio_rows y frame c)
  unfolding audio_rows first_of pick
  audio_23 e = rw e refl

  module _ (valid : every_sequence y frame (unflagged 1) ≡ true) where
    pub audio_24 : every_in_half y frame c (as_keeps y c) ≡ false → 24 ≡ first_of (audio_rows y frame c)
    unfolding audio_rows first_of pick
    audio_24 e = rw (valid, e) refl

    module _ (kept : every_in_half y frame c (as_keeps y c) ≡ true) where
      pub audio_25 : as_agree y frame c ≡ false → 25 ≡ first_of (audio_rows y frame c)
      unfolding audio_rows first_of pick
      audio_25 e = rw (valid, kept, e) refl

      pub audio_0 : as_agree y frame c ≡ true → 0 ≡ first_of (audio_rows y frame c)
      unfolding audio_rows first_of pick
      audio_0 e = rw (valid, kept, e) refl

  -- 0 says that no row holds
  pub audio_mean : first_of (audio_rows y frame c) ≡ 0
      → (every_sequence y frame (unflagged 1) ≡ true) × (every_in_half y frame c (as_keeps y c) ≡ true) × (as_agree y frame c ≡ true)
  unfolding audio_rows
  audio_mean z =
      let a = first_zero _ _ _ z in
      let b = first_zero _ _ _ a.1 in
      let d = first_zero _ _ _ b.1 in
      (not-false _ a.0, not-false _ b.0, not-false _ d.0)

  -- and then the rows that follow decide
  pub audio_on : (more : List Refusal) → first_of (audio_rows y frame c) ≡ 0 → first_of (audio_rows y frame c ++ more) ≡ first_of more
  unfolding audio_rows first_of pick
  audio_on more z = let m = audio_mean z in rw (m.0, m.1, m.2) refl

  -- and the count that is answered is one of the system's own, below its positions
  pub count_own : every_in_half y frame c (as_keeps y c) ≡ true → is_count y (count_for y frame c) ≡ true
  unfolding first_as
  count_own e =
      let first = from_means y frame (as_keeps y c) _ _ _ e 0 (half_some _ (half_cases y)) in
      (as_means y c (as_in (first_of_half y c) (sequence_at y frame (dif_of c) (first_of_half y c))) (simp add-zero at first)).count

  -- not 24, not 25: every AS of the channel keeps the rules, and says the count that is answered
  module _ (r : ℕ) (hr : r < half_of y) where
    pub half_as : every_in_half y frame c (as_keeps y c) ≡ true → As y c (as_in (first_of_half y c + r) (sequence_at y frame (dif_of c) (first_of_half y c + r)))
    half_as e =
        as_means y c (as_in (first_of_half y c + r) (sequence_at y frame (dif_of c) (first_of_half y c + r)))
        (from_means y frame (as_keeps y c) (dif_of c) (first_of_half y c) (half_of y) e r hr)

    pub half_count : every_in_half y frame c (count_is (count_for y frame c)) ≡ true
        → count_in (as_in (first_of_half y c + r) (sequence_at y frame (dif_of c) (first_of_half y c + r))) ≡ count_for y frame c
    half_count e = eqb-true _ _ (from_means y frame (count_is (count_for y frame c)) (dif_of c) (first_of_half y c) (half_of y) e r hr)

-- ---- heard_sample

module _ (y : System) (frame : List ℕ) (c t : ℕ) where
  pub heard_marked : is_marked y frame c ≡ true → heard_sample y frame c t ≡ Lost
  unfolding heard_sample
  heard_marked e = pick_true _ _ e

  pub heard_recorded : is_marked y frame c ≡ false → heard_sample y frame c t ≡ read_sample y frame c t
  unfolding heard_sample
  heard_recorded e = pick_false _ _ e

-- ---- audio_number

module _ (k : ℕ) (frame : List ℕ) (c size : ℕ) where
  pub audio_1 : system_of k ≡ None → 1 ≡ audio_number k frame c size
  unfolding audio_number first_of pick
  audio_1 e = rw e refl

  module _ (y : System) (known : system_of k ≡ Some y) where
    pub audio_2 : eqb (length frame) (48000 * sequences_of y) ≡ false → 2 ≡ audio_number k frame c size
    unfolding audio_number first_of pick
    audio_2 e = rw (known, e) refl

    module _ (whole : eqb (length frame) (48000 * sequences_of y) ≡ true) where
      pub audio_3 : is_audio c ≡ false → 3 ≡ audio_number k frame c size
      unfolding audio_number first_of pick
      audio_3 e = rw (known, whole, e) refl

      module _ (channel : is_audio c ≡ true) where
        pub audio_4 : eqb size (positions_of y) ≡ false → 4 ≡ audio_number k frame c size
        unfolding audio_number first_of pick
        audio_4 e = rw (known, whole, channel, e) refl

        module _ (room : eqb size (positions_of y) ≡ true) where
          all_rows : audio_number k frame c size ≡ first_of (check_rows y frame ++ audio_rows y frame c)
          unfolding audio_number first_of pick
          all_rows = rw (known, whole, channel, room) refl

          -- the frame check's refusals come first, then the channel's own
          pub audio_checked : (first_of (check_rows y frame) ≡ 0 → ⊥) → first_of (check_rows y frame) ≡ audio_number k frame c size
          audio_checked d = sym (all_rows ∙ first_stops (check_rows y frame) (audio_rows y frame c) d)

          pub audio_rows_lem : first_of (check_rows y frame) ≡ 0 → first_of (audio_rows y frame c) ≡ audio_number k frame c size
          audio_rows_lem z = sym (all_rows ∙ rows_on y frame (audio_rows y frame c) z)

    -- 0 says that the frame has its length, the channel is one, the list has the positions, and no row holds
    pub audio_zero : audio_number k frame c size ≡ 0
        → (length frame ≡ 48000 * sequences_of y) × (is_audio c ≡ true) × (size ≡ positions_of y) × (first_of (check_rows y frame) ≡ 0) × (first_of (audio_rows y frame c) ≡ 0)
    audio_zero z =
        by_bool (eqb (length frame) (48000 * sequences_of y))
        (λ whole.
        by_bool (is_audio c)
        (λ channel.
        by_bool (eqb size (positions_of y))
        (λ room.
        by_eq (first_of (check_rows y frame)) 0
        (λ checked. (eqb-true _ _ whole, channel, eqb-true _ _ room, checked, audio_rows_lem whole channel room checked ∙ z))
        (λ d. absurd (d (audio_checked whole channel room d ∙ z))))
        (λ e. absurd (omega (arith, z, audio_4 whole channel e))))
        (λ e. absurd (omega (arith, z, audio_3 whole e))))
        (λ e. absurd (omega (arith, z, audio_2 e)))

-- ---- read_audio

pub read_audio_one : (k : ℕ) (frame : List ℕ) (c : ℕ) (list : List ℤ) → ExactlyOne (AudioAnswer × List ℤ) (λ o. AudioRead k frame c list o.0 o.1)
read_audio_one k frame c list = record {
  outcome = (audio_answer k frame c (length list), audio_left k frame c list);
  meets = record { answer = refl; left = refl };
  only = λ o m i. (m.answer i, m.left i);
}

module _ (k : ℕ) (frame : List ℕ) (c : ℕ) (list : List ℤ) where
  -- a refusal answers its number and a count of 0, and leaves the list as it came
  pub audio_refused : {r : AudioAnswer} {list' : List ℤ} → AudioRead k frame c list r list' → (audio_number k frame c (length list) ≡ 0 → ⊥)
      → (r ≡ record { number = audio_number k frame c (length list); count = 0 }) × (list' ≡ list)
  unfolding audio_answer audio_left
  audio_refused a d = (a.answer ∙ pick_false _ _ (ne_eqb _ 0 d), a.left ∙ pick_false _ _ (ne_eqb _ 0 d))

  -- the same as the code leaves it
  pub audio_stopped : (n : ℕ) (r : AudioAnswer) → n ≡ audio_number k frame c (length list) → (n ≡ 0 → ⊥) → r ≡ record { number = n; count = 0 } → AudioRead k frame c list r list
  unfolding audio_answer audio_left
  audio_stopped n r e d er = record {
    answer = er ∙ rw e refl ∙ sym (pick_false _ _ (ne_eqb _ 0 (λ z. d (e ∙ z))));
    left = sym (pick_false _ _ (ne_eqb _ 0 (λ z. d (e ∙ z))));
  }

  module _ (y : System) (known : system_of k ≡ Some y) (zero : audio_number k frame c (length list) ≡ 0) where
    pub audio_taken : {r : AudioAnswer} {list' : List ℤ} → AudioRead k frame c list r list'
        → (r ≡ record { number = 0; count = count_for y frame c })
        × (list' ≡ tab (λ (t : ℕ). number_of (heard_sample y frame c t)) (count_for y frame c) ++ drop (count_for y frame c) list)
    unfolding audio_answer audio_left heard
    audio_taken a = (a.answer ∙ pick_true _ _ (eq-eqb _ 0 zero) ∙ rw known refl, a.left ∙ pick_true _ _ (eq-eqb _ 0 zero) ∙ rw known refl)

    -- the same as the code leaves it
    pub audio_done : (r : AudioAnswer) (list' : List ℤ) → r ≡ record { number = 0; count = count_for y frame c }
        → list' ≡ tab (λ (t : ℕ). number_of (heard_sample y frame c t)) (count_for y frame c) ++ drop (count_for y frame c) list → AudioRead k frame c list r list'
    unfolding audio_answer audio_left heard
    audio_done r list' er el = record {
      answer = er ∙ sym (pick_true _ _ (eq-eqb _ 0 zero) ∙ rw known refl);
      left = el ∙ sym (pick_true _ _ (eq-eqb _ 0 zero) ∙ rw known refl);
    }

    -- its count fits the list
    pub audio_count : count_for y frame c < length list
    audio_count =
        let z = audio_zero k frame c (length list) y known zero in
        let m = audio_mean y frame c z.4 in
        omega (arith, z.2, count_below y (count_for y frame c) (count_own y frame c m.1))

    module _ {r : AudioAnswer} {list' : List ℤ} (a : AudioRead k frame c list r list') where
      -- a sample below the count is what the frame says of it
      pub audio_sample : (t : ℕ) → t < r.count → get_or list' t (pos 0) ≡ number_of (heard_sample y frame c t)
      audio_sample t h =
          let n = count_for y frame c in
          let g : ℕ → ℤ = λ i. number_of (heard_sample y frame c i) in
          let b : t < n = omega (arith, h, ap (λ (x : AudioAnswer). x.count) (audio_taken a).0) in
          ap (λ (l : List ℤ). get_or l t (pos 0)) (audio_taken a).1 ∙ get_or-append (tab g n) (drop n list) (pos 0) t (omega (arith, b, length_tab g n)) ∙ tab_at (pos 0) g t n b

      -- "entries from the count on untouched"
      pub audio_rest : (i : ℕ) → get_or list' (r.count + i) (pos 0) ≡ get_or list (r.count + i) (pos 0)
      audio_rest i =
          let n = count_for y frame c in
          let g : ℕ → ℤ = λ j. number_of (heard_sample y frame c j) in
          let e : r.count ≡ n = ap (λ (x : AudioAnswer). x.count) (audio_taken a).0 in
          rw e
          (ap (λ (l : List ℤ). get_or l (n + i) (pos 0)) (audio_taken a).1
          ∙ ap (λ (m : ℕ). get_or (tab g n ++ drop n list) (m + i) (pos 0)) (sym (length_tab g n))
          ∙ get_or-append-add (tab g n) (drop n list) i (pos 0) ∙ get_or-drop n list i (pos 0))
