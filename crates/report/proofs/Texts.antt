-- The lines one behind the other in a buffer. Assumes nothing.
use mathlib.Core.Path.{◌≡◌, refl, sym, ap, ◌∙◌}
use mathlib.Core.List.{List, [], ◌++◌, append_assoc, append-nil}
use Prim.Native.Nat.{ℕ, ◌+◌, ◌-◌, ◌≤◌, ◌<◌}
use native.Mathlib.Omega.{arith}
use lib.ListN.{length, take, drop, length-append, length-drop}
use lib.Seq.{take_at, drop_at, drop-drop}
use borrow.Author.Tests.{le-leb, lt-leb}
use Rattle.base.specs.Run.{run}
use Rattle.base.proofs.Picks.{pick_true, pick_false}
use Rattle.base.proofs.Parts.{rest_part, rest_past}
use Rattle.base.proofs.Runs.{run_more}
use Rattle.paper.specs.declared.Survey.{Survey}
use Rattle.report.specs.Printed.{line_at, in_room, Printed, text_in, Texted, Texting}

room_for : (size : ℕ) (text : List ℕ) → 64 ≤ size → in_room size text ≡ text
unfolding in_room
room_for size text l = pick_true _ _ (le-leb 64 size l)

-- the rest of a buffer behind a text is lent, and comes back with one line more
module _ (text line out₀ out ys : List ℕ) (at n : ℕ) (e : out ≡ text ++ drop (length text) out₀) (en : at ≡ length text) (room : at + 64 ≤ length out₀)
    (p : Printed line (take (length out - at) (drop at out)) ys n) where
  first : take at out ≡ text
  first = rw (e, en) (take_at text (drop (length text) out₀) (length text) refl)

  lent : take (length out - at) (drop at out) ≡ drop (length text) out₀
  lent = rest_part at out ∙ rw (e, en) (drop_at text (drop (length text) out₀) (length text) refl)

  fits : in_room (length (take (length out - at) (drop at out))) line ≡ line
  fits = room_for _ line (omega (arith, ap length lent, length-drop (length text) out₀, en))

  counted : n ≡ length line
  counted = rw fits at p.count

  back : ys ≡ line ++ drop (length text + length line) out₀
  back = rw fits at p.left ∙ ap (λ (k : List ℕ). line ++ drop (length line) k) lent ∙ ap (λ (k : List ℕ). line ++ k) (drop-drop (length line) (length text) out₀)

  behind : (take at out ++ (ys ++ drop (length out - at) (drop at out)) ≡ (text ++ line) ++ drop (length (text ++ line)) out₀) × (at + n ≡ length (text ++ line))
  behind =
      let long : length text + length line ≡ length (text ++ line) = sym (length-append text line) in (
        ap (λ (k : List ℕ). take at out ++ (ys ++ k)) (rest_past at out)
            ∙ ap (λ (k : List ℕ). take at out ++ k) (append-nil ys ∙ back)
            ∙ ap (λ (k : List ℕ). k ++ (line ++ drop (length text + length line) out₀)) first
            ∙ sym (append_assoc text line (drop (length text + length line) out₀))
            ∙ ap (λ (k : ℕ). (text ++ line) ++ drop k out₀) long,
        omega (arith, en, counted, long),
      )

module _ (s : Survey) (list out₀ : List ℕ) where
  pub text_narrow : length out₀ < 4160 → Texted s list out₀ out₀ 0
  unfolding text_in
  text_narrow l =
      let e : text_in s list (length out₀) ≡ [] = pick_false _ _ (lt-leb 4160 (length out₀) l) in
      record { left = rw e refl; count = rw e refl }

  pub text_start : Texting s list out₀ out₀ 0 0
  unfolding run
  text_start = record { left = refl; ends = refl; size = refl; small = omega arith; turns = omega arith }

  module _ (out : List ℕ) (at i : ℕ) (g : Texting s list out₀ out at i) (room : 4160 ≤ length out₀) where
    pub text_done : 65 ≤ i → Texted s list out₀ out at
    unfolding text_in
    text_done l =
        let i65 : i ≡ 65 = omega (arith, g.turns) in
        let e : text_in s list (length out₀) ≡ run (line_at s list) i = pick_true _ _ (le-leb 4160 (length out₀) room) ∙ ap (run (line_at s list)) (sym i65) in
        record { left = rw e g.left; count = rw e g.ends }

    module _ (l : i < 65) (ys : List ℕ) (n : ℕ) (p : Printed (line_at s list i) (take (length out - at) (drop at out)) ys n) where
      pub text_turn : length (take at out ++ (ys ++ drop (length out - at) (drop at out))) ≡ length out
          → Texting s list out₀ (take at out ++ (ys ++ drop (length out - at) (drop at out))) (at + n) (i + 1)
      text_turn es =
          let w = behind (run (line_at s list) i) (line_at s list i) out₀ out ys at n g.left g.ends (omega (arith, g.small)) p in
          record { left = rw (run_more (line_at s list) i) w.0; ends = rw (run_more (line_at s list) i) w.1; size = es ∙ g.size; small = omega (arith, g.small, p.small); turns = omega arith }
