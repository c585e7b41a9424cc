-- What the loop over the audio channels keeps, and the ways out of the call. Assumes nothing.
use mathlib.Core.Path.{◌≡◌, refl, sym, ap, ◌∙◌}
use mathlib.Core.Bool.{true}
use mathlib.Core.List.{List, ◌++◌}
use Prim.Native.Nat.{ℕ, ◌+◌, ◌*◌, ◌-◌, ◌≤◌, ◌<◌}
use native.Mathlib.Omega.{arith}
use lib.Dec.{eqb}
use lib.IntN.{ℤ}
use lib.ListN.{length, take, drop}
use mir.Syntax.{w64}
use mir.Val.{Fits}
use borrow.Author.Tests.{eq-eqb, ne_eqb}
use Rattle.base.specs.Calls.{first_of}
use Rattle.base.specs.Run.{run, tab, Wide}
use Rattle.base.proofs.Filling.{Filled, filled_none, filled_next, filled_end}
use Rattle.base.proofs.Parts.{range_part, length_part}
use Rattle.base.proofs.Picks.{pick_true, pick_false}
use Rattle.base.proofs.Runs.{end_within, length_tab}
use Rattle.paper.specs.declared.System.{System}
use Rattle.paper.specs.declared.Survey.{Survey}
use Rattle.rules_format.specs.Systems.{sequences_of, half_of, positions_of, in_system, system_of}
use Rattle.rules_surveys.specs.FaultLists.{frame_faults, faults_in}
use Rattle.rules_surveys.specs.Noting.{Noted}
use Rattle.rules_surveys.specs.Survey.{refusal}
use Rattle.rules_surveys.specs.Salvage.{salvaged_channel, salvaged, salvage_number, salvage_left, Salvaged}
use Rattle.rules_format.proofs.Systems.{half_cases, positions_le}
use Rattle.rules_surveys.proofs.Halves.{faults_halves, halves_le}
use Rattle.rules_surveys.proofs.Calls.{survey_done}
use Rattle.fault_list.specs.declared.list.FaultList.{FaultList}
use Rattle.fault_list.specs.Asked.{tallied}
use Rattle.fault_list.specs.Listed.{NotedIn}
use Rattle.fault_list.proofs.Listing.{in_turn, in_noted, in_size, refused_by}
use Rattle.sequence_samples.proofs.Between.{between_all}
use Rattle.rescue.specs.Taken.{held_sample, half_samples, half_faults}
use Rattle.rescue.specs.Asked.{HalfAsked, HalfSalvaged, FrameSalvaged, LentKnown}
use Rattle.paper.specs.declared.Cause.{Cause}
use Rattle.paper.specs.Causes.{cause_number}
use Rattle.layout.specs.Asked.{FrameKnown, frame_rows}
use Rattle.layout.proofs.Saying.{never_zero}
use Rattle.layout.proofs.Refusing.{frame_stops}
use Rattle.rules_surveys.proofs.Salvage.{salvage_4, salvage_0}

-- ---- salvage_all: audio channel i + 1, of n positions

channel_wide : (y : System) (frame : List ℕ) (n : ℕ) → n ≡ positions_of y → Wide n (half_samples y frame)
unfolding half_samples salvaged_channel
channel_wide y frame n en i = length_tab _ (positions_of y) ∙ sym en

pub all_none : (y : System) (frame : List ℕ) (n : ℕ) (l : List ℤ) → Filled n (half_samples y frame) 0 l l
all_none y frame n l = filled_none n _ l

module _ (y : System) (i n : ℕ) (en : n ≡ positions_of y) (hi : i < 8) where
  size_end : i * n + n ≤ 8 * n
  size_end = end_within n i 8 hi

  pub end_fits : Fits w64 (i * n + n)
  end_fits = omega (arith, size_end, positions_le y)

  pub start_fits : Fits w64 (i * n)
  start_fits = omega (arith, size_end, positions_le y)

  pub bytes_fit : Fits w64 (i * n * 4)
  bytes_fit = omega (arith, size_end, positions_le y)

  module _ (frame : List ℕ) (before now : List ℤ) (samples : length before ≡ 8 * positions_of y) (same : length now ≡ length before) where
    pub half_within : i * n + n ≤ length now
    half_within = omega (arith, size_end, samples)

    half_long : length (take (i * n + n - i * n) (drop (i * n) now)) ≡ positions_of y
    half_long = ap length (range_part (i * n) n now) ∙ length_part (i * n) n now half_within ∙ en

    pub half_room : length (take (i * n + n - i * n) (drop (i * n) now)) ≤ positions_of y
    half_room = omega (arith, half_long)

    pub half_filled : (ys : List ℤ) (list list' : FaultList) → Filled n (half_samples y frame) i before now
        → HalfSalvaged y frame i (take (i * n + n - i * n) (drop (i * n) now)) ys list list'
        → Filled n (half_samples y frame) (i + 1) before (take (i * n) now ++ (ys ++ drop (i * n + n - i * n) (drop (i * n) now)))
    unfolding half_samples salvaged_channel
    half_filled ys list list' f p =
        filled_next n _ (channel_wide y frame n en) i before now ys f
        (between_all (half_of y) _ _ ys (half_cases y) p.sound ∙ ap (tab (held_sample y frame (i + 1))) half_long)

  pub half_asked : (frame : List ℕ) (list list' : FaultList) → list.total ≡ 0 → NotedIn list (run (half_faults y frame) i) list' → HalfAsked i list'.total
  unfolding half_faults
  half_asked frame list list' z m = record { channel = hi; few = omega (arith, m.noted.total, z, halves_le y frame i) }

pub half_noted : (y : System) (frame : List ℕ) (i : ℕ) (part ys : List ℤ) (list list' list'' : FaultList) → NotedIn list (run (half_faults y frame) i) list' → HalfSalvaged y frame i part ys list' list''
    → NotedIn list (run (half_faults y frame) (i + 1)) list''
half_noted y frame i part ys list list' list'' m p = in_turn (half_faults y frame) i m p.noted

pub all_salvaged : (y : System) (frame : List ℕ) (n i : ℕ) (before now : List ℤ) (list list' : FaultList) → n ≡ positions_of y → length before ≡ 8 * positions_of y → i ≤ 8 → 8 ≤ i
    → Filled n (half_samples y frame) i before now → NotedIn list (run (half_faults y frame) i) list' → FrameSalvaged y frame now list list'
unfolding salvaged half_samples half_faults
all_salvaged y frame n i before now list list' en samples le ge f m =
    let e : i ≡ 8 = omega arith in
    record {
      sound = filled_end n _ i 8 before now f (samples ∙ ap (λ (j : ℕ). 8 * j) (sym en)) le ge;
      noted = rw (faults_halves y frame) (rw e at m);
    }

-- ---- the call

module _ (k : ℕ) (frame : List ℕ) (size : ℕ) where
  pub salvage_stops : (cause : Cause) → cause_number cause ≡ first_of (frame_rows k (length frame)) → cause_number cause ≡ salvage_number k frame size
  unfolding salvage_number
  salvage_stops cause e = frame_stops k (length frame) _ cause e

  module _ (y : System) (is : FrameKnown k (length frame) y) (m : ℕ) (em : m ≡ positions_of y) where
    whole : eqb (length frame) (48000 * sequences_of y) ≡ true
    whole = eq-eqb _ _ is.whole

    pub wrong_room : (size ≡ 8 * m → ⊥) → 4 ≡ salvage_number k frame size
    wrong_room d = salvage_4 k frame size y is.known whole (ne_eqb _ _ (λ z. d (z ∙ ap (λ (n : ℕ). 8 * n) (sym em))))

    pub right_room : size ≡ 8 * m → 0 ≡ salvage_number k frame size
    right_room e = salvage_0 k frame size y is.known whole (eq-eqb _ _ (e ∙ ap (λ (n : ℕ). 8 * n) em))

    pub lent_known : size ≡ 8 * m → LentKnown k frame size y
    lent_known e = record { lies = is; room = e ∙ ap (λ (n : ℕ). 8 * n) em }

module _ (k : ℕ) (frame : List ℕ) (samples : List ℤ) (list : List ℕ) where
  pub salvage_stopped : (cause : Cause) → cause_number cause ≡ salvage_number k frame (length samples) → (n : ℕ) → n ≡ cause_number cause → (r : Survey) → r ≡ refusal n
      → Salvaged k frame samples list r samples list
  unfolding salvage_left
  salvage_stopped cause e n en r er =
      let d : n ≡ 0 → ⊥ = λ z. never_zero cause (sym en ∙ z) in
      record {
        survey = refused_by _ _ list n r (sym (en ∙ e)) d er;
        left = sym (pick_false _ _ (ne_eqb (salvage_number k frame (length samples)) 0 (λ z. d (en ∙ e ∙ z))));
      }

  module _ (y : System) (is : LentKnown k frame (length samples) y) where
    pub salvage_done : (samples' : List ℤ) (list' : List ℕ) (old new : FaultList) (r : Survey) → 0 ≡ salvage_number k frame (length samples) → FrameSalvaged y frame samples' old new
        → old.numbers.now ≡ list → old.total ≡ 0 → (length list' ≡ length list) × (old.numbers.ghost_name ≡ new.numbers.ghost_name → list' ≡ new.numbers.now)
        → r ≡ tallied new.total (length new.numbers.now) → Salvaged k frame samples list r samples' list'
    unfolding salvage_left
    salvage_done samples' list' old new r taken p ea et back er' =
        let t = new.total in
        let nt : Noted list 0 (frame_faults y frame) list' t = rw et at (in_noted old new list list' p.noted ea back) in
        let er : r ≡ tallied t (length list) = er' ∙ ap (tallied t) (in_size old new list list' p.noted ea back) in
        let all : frame_faults y frame ≡ faults_in (system_of k) frame = rw is.lies.known refl in
        let sound : salvaged y frame ≡ in_system samples (λ (x : System). salvaged x frame) (system_of k) = rw is.lies.known refl in
        record {
          survey = rw er (survey_done _ _ list list' t _ (sym taken) (rw all at nt) refl);
          left = p.sound ∙ sound ∙ sym (pick_true _ _ (eq-eqb _ 0 (sym taken)));
        }
