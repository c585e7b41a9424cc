-- The calls `macroblock_number` and `macroblock`: one answer for every input, each refusal exactly when its row says, the part empty
-- exactly when the number is a refusal. Assumes nothing.
use Rattle.std.specs.Prelude.{Option, Some, None}
use mathlib.Core.Path.{◌≡◌, refl, sym, ap, ◌∙◌}
use mathlib.Core.Bool.{true, false}
use mathlib.Core.List.{List, [], ◌++◌}
use Prim.Native.Nat.{ℕ, ◌+◌, ◌*◌, ◌≤◌, ◌<◌}
use native.Mathlib.Omega.{arith}
use lib.Dec.{eqb, ltb}
use lib.ListN.{length, take, drop, length-drop}
use borrow.Author.Tests.{eq-eqb, ne_eqb, eqb-true, ltb-true}
use Rattle.base.specs.Calls.{first_of, ExactlyOne}
use Rattle.base.specs.Pick.{pick}
use Rattle.base.proofs.Cases.{by_bool, by_eq}
use Rattle.base.proofs.Parts.{drop_part}
use Rattle.base.proofs.Picks.{pick_true, pick_false, first_stops}
use Rattle.paper.specs.declared.System.{System}
use Rattle.paper.specs.declared.Part.{Part}
use Rattle.paper.specs.declared.Section.TheVariants.{Video}
use Rattle.paper.specs.declared.Slot.{Slot}
use Rattle.rules_format.specs.Systems.{sequences_of, macroblocks_of, in_system, system_of}
use Rattle.rules_format.specs.Places.{place_in}
use Rattle.rules_format.specs.Blocks.{start_of, block_at, no_part, bytes_of}
use Rattle.rules_picture.specs.Picture.{carried_in, carrier_of}
use Rattle.rules_reads.specs.Check.{every_sequence, unflagged, check_rows}
use Rattle.rules_reads.specs.Macroblock.{picture_rows, macroblock_number, slot_bytes, carrier_bytes, macroblock_part, slot_start, carrier_start}
use Rattle.rules_reads.specs.Macroblock.{macroblock_start, macroblock_at, MacroblockNumbered, MacroblockRead, MacroblockLies}
use Rattle.rules_format.proofs.Places.{place_in_below}
use Rattle.rules_format.proofs.Blocks.{start_within, block_length, part_taken, part_number, part_refused, part_bytes, part_within}
use Rattle.rules_picture.proofs.Picture.{carried_inside, carried_lies, carrier_one}
use Rattle.rules_reads.proofs.Check.{rows_on}

-- ---- picture_rows

module _ (y : System) (frame : List ℕ) where
  pub picture_23 : every_sequence y frame (unflagged 2) ≡ false → 23 ≡ first_of (picture_rows y frame)
  unfolding picture_rows first_of pick
  picture_23 e = rw e refl

  pub picture_0 : every_sequence y frame (unflagged 2) ≡ true → 0 ≡ first_of (picture_rows y frame)
  unfolding picture_rows first_of pick
  picture_0 e = rw e refl

-- ---- macroblock_number: each number exactly when its row is the first that holds

module _ (k : ℕ) (frame : List ℕ) (b : ℕ) where
  pub macroblock_1 : system_of k ≡ None → 1 ≡ macroblock_number k frame b
  unfolding macroblock_number first_of pick
  macroblock_1 e = rw e refl

  module _ (y : System) (known : system_of k ≡ Some y) where
    pub macroblock_2 : eqb (length frame) (48000 * sequences_of y) ≡ false → 2 ≡ macroblock_number k frame b
    unfolding macroblock_number first_of pick
    macroblock_2 e = rw (known, e) refl

    module _ (whole : eqb (length frame) (48000 * sequences_of y) ≡ true) where
      pub macroblock_3 : ltb b (macroblocks_of y) ≡ false → 3 ≡ macroblock_number k frame b
      unfolding macroblock_number first_of pick
      macroblock_3 e = rw (known, whole, e) refl

      module _ (within : ltb b (macroblocks_of y) ≡ true) where
        all_rows : macroblock_number k frame b ≡ first_of (check_rows y frame ++ picture_rows y frame)
        unfolding macroblock_number first_of pick
        all_rows = rw (known, whole, within) refl

        -- the frame check's refusals come first, then the picture's own
        pub macroblock_checked : (first_of (check_rows y frame) ≡ 0 → ⊥) → first_of (check_rows y frame) ≡ macroblock_number k frame b
        macroblock_checked d = sym (all_rows ∙ first_stops (check_rows y frame) (picture_rows y frame) d)

        pub macroblock_rows : first_of (check_rows y frame) ≡ 0 → first_of (picture_rows y frame) ≡ macroblock_number k frame b
        macroblock_rows z = sym (all_rows ∙ rows_on y frame (picture_rows y frame) z)

    -- 0 says that the frame has its length, the number is the system's, and no row holds
    pub macroblock_zero : macroblock_number k frame b ≡ 0
        → (length frame ≡ 48000 * sequences_of y) × (b < macroblocks_of y) × (first_of (check_rows y frame) ≡ 0) × (first_of (picture_rows y frame) ≡ 0)
    macroblock_zero z =
        by_bool (eqb (length frame) (48000 * sequences_of y))
        (λ whole.
        by_bool (ltb b (macroblocks_of y))
        (λ within.
        by_eq (first_of (check_rows y frame)) 0
        (λ checked. (eqb-true _ _ whole, ltb-true _ _ within, checked, macroblock_rows whole within checked ∙ z))
        (λ d. absurd (d (macroblock_checked whole within d ∙ z))))
        (λ e. absurd (omega (arith, z, macroblock_3 whole e))))
        (λ e. absurd (omega (arith, z, macroblock_2 e)))

-- ---- macroblock_number, macroblock

pub macroblock_number_one : (k : ℕ) (frame : List ℕ) (b : ℕ) → ExactlyOne ℕ (MacroblockNumbered k frame b)
macroblock_number_one k frame b = record { outcome = macroblock_number k frame b; meets = record { answer = refl }; only = λ o m. m.answer }

pub macroblock_one : (k : ℕ) (frame : List ℕ) (b : ℕ) → ExactlyOne (List ℕ) (MacroblockRead k frame b)
macroblock_one k frame b = record { outcome = macroblock_part k frame b; meets = record { answer = refl }; only = λ o m. m.answer }

module _ (k : ℕ) (frame : List ℕ) (b : ℕ) where
  -- the part is empty where the number is a refusal
  pub macroblock_refused : (macroblock_number k frame b ≡ 0 → ⊥) → macroblock_part k frame b ≡ []
  unfolding macroblock_part
  macroblock_refused d = pick_false _ _ (ne_eqb _ 0 d)

  module _ (y : System) (known : system_of k ≡ Some y) (zero : macroblock_number k frame b ≡ 0) where
    -- else the bytes behind the ID of the block that carries it
    pub macroblock_taken : (s : Slot) → carrier_of y b ≡ Some s → macroblock_part k frame b ≡ slot_bytes y frame s
    unfolding macroblock_part carrier_bytes
    macroblock_taken s e = pick_true _ _ (eq-eqb _ 0 zero) ∙ rw (known, e) refl

    -- which is the one slot that carries it
    pub macroblock_carried : (s : Slot) → carried_in y s ≡ Some b → macroblock_part k frame b ≡ slot_bytes y frame s
    macroblock_carried s e = macroblock_taken s (carried_lies y s b e).1

    -- and those bytes are 77
    pub macroblock_length : length (macroblock_part k frame b) ≡ 77
    unfolding slot_bytes
    macroblock_length =
        let z = macroblock_zero k frame b y known zero in
        let one = carrier_one y b z.1 in
        let s = one.outcome in
        let i = carried_inside y s b one.meets in
        let wide = block_length y frame s.channel s.sequence (place_in Video s.video.0) z.0 i.channel i.sequence (place_in_below Video s.video.0 i.video) in
        ap length (macroblock_carried s one.meets) ∙ length-drop 3 (block_at y frame s.channel s.sequence (place_in Video s.video.0)) ∙ omega (arith, wide)

-- ---- macroblock_at

-- the bytes from a slot's start on are the slot's
slot_start_bytes : (y : System) (frame : List ℕ) (s : Slot) → take 77 (drop (slot_start y s) frame) ≡ slot_bytes y frame s
unfolding slot_start slot_bytes block_at
slot_start_bytes y frame s = sym (drop_part (start_of y s.channel s.sequence (place_in Video s.video.0)) 3 77 frame)

module _ (k : ℕ) (frame : List ℕ) (b : ℕ) where
  module _ (zero : macroblock_number k frame b ≡ 0) where
    start_bytes : (s : Option System) → system_of k ≡ s → take 77 (drop (macroblock_start s b) frame) ≡ in_system [] (λ (y : System). carrier_bytes y frame (carrier_of y b)) s
    unfolding carrier_start carrier_bytes
    start_bytes None e = absurd (omega (arith, zero, macroblock_1 k frame b e))
    start_bytes (Some y) e =
        let z = macroblock_zero k frame b y e zero in
        let one = carrier_one y b z.1 in
        let lies = (carried_lies y one.outcome b one.meets).1 in
        rw lies (slot_start_bytes y frame one.outcome)

    start_fits : (s : Option System) → system_of k ≡ s → macroblock_start s b + 77 ≤ length frame
    unfolding carrier_start slot_start
    start_fits None e = absurd (omega (arith, zero, macroblock_1 k frame b e))
    start_fits (Some y) e =
        let z = macroblock_zero k frame b y e zero in
        let one = carrier_one y b z.1 in
        let s = one.outcome in
        let i = carried_inside y s b one.meets in
        let ends = start_within y s.channel s.sequence (place_in Video s.video.0) i.channel i.sequence (place_in_below Video s.video.0 i.video) in
        rw (carried_lies y s b one.meets).1 (omega (arith, z.0, ends))

  pub macroblock_lies : (r : Part) → r ≡ macroblock_at k frame b → MacroblockLies k frame b r
  unfolding macroblock_at macroblock_part
  macroblock_lies r e = record {
    answer = e;
    bytes = ap (bytes_of frame) e
        ∙ part_bytes (macroblock_number k frame b) (macroblock_start (system_of k) b) 77 frame (macroblock_part k frame b)
        (λ z. start_bytes z (system_of k) refl ∙ sym (pick_true _ _ (eq-eqb _ 0 z)))
        (macroblock_refused k frame b);
  }

  -- the two ways to it
  pub macroblock_lies_stopped : (n : ℕ) → n ≡ macroblock_number k frame b → (n ≡ 0 → ⊥) → (r : Part) → r ≡ no_part n → MacroblockLies k frame b r
  unfolding macroblock_at
  macroblock_lies_stopped n en d r e = macroblock_lies r (e ∙ ap no_part en ∙ sym (part_refused _ (macroblock_start (system_of k) b) 77 (λ z. d (en ∙ z))))

  pub macroblock_lies_found : (y : System) → system_of k ≡ Some y → macroblock_number k frame b ≡ 0 → (s : Slot) → carrier_of y b ≡ Some s
      → MacroblockLies k frame b (record { number = 0; start = slot_start y s; length = 77 })
  unfolding macroblock_at carrier_start
  macroblock_lies_found y known z s e = macroblock_lies _ (sym (part_taken _ (macroblock_start (system_of k) b) 77 z ∙ rw (known, e) refl))

  pub macroblock_lies_one : ExactlyOne Part (MacroblockLies k frame b)
  macroblock_lies_one = record { outcome = macroblock_at k frame b; meets = macroblock_lies (macroblock_at k frame b) refl; only = λ o m. m.answer }

  pub macroblock_lies_number : {r : Part} → MacroblockLies k frame b r → r.number ≡ macroblock_number k frame b
  unfolding macroblock_at
  macroblock_lies_number m = ap (λ (r : Part). r.number) m.answer ∙ part_number (macroblock_number k frame b) (macroblock_start (system_of k) b) 77

  pub macroblock_lies_refused : {r : Part} → MacroblockLies k frame b r → (macroblock_number k frame b ≡ 0 → ⊥) → r ≡ no_part (macroblock_number k frame b)
  unfolding macroblock_at
  macroblock_lies_refused m d = m.answer ∙ part_refused (macroblock_number k frame b) (macroblock_start (system_of k) b) 77 d

  pub macroblock_lies_within : {r : Part} → MacroblockLies k frame b r → r.start + r.length ≤ length frame
  unfolding macroblock_at
  macroblock_lies_within m = rw m.answer (part_within (macroblock_number k frame b) (macroblock_start (system_of k) b) 77 frame (λ z. start_fits z (system_of k) refl))
