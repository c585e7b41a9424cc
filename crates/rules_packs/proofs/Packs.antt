-- Laws of packs, of the header block and of time codes. Assumes nothing.
use mathlib.Core.Path.{◌≡◌, refl, ap, ◌∙◌}
use mathlib.Core.Bool.{true, false, ◌&&◌}
use mathlib.Core.List.{List, [], ◌∷◌, ◌++◌}
use Prim.Native.Nat.{ℕ, zero, suc, ◌+◌, ◌*◌, ◌/◌, ◌%◌, ◌<◌}
use native.Mathlib.Omega.{arith}
use lib.Dec.{eqb, ltb, leb}
use lib.ListN.{length, drop, get_or, replicate, get_or-append}
use lib.Seq.{get_or-append-add}
use borrow.Author.Tests.{eq-eqb, ne_eqb, eqb-true, lt-ltb, ltb-true, le-leb, leb-true}
use Rattle.base.specs.Pick.{pick}
use Rattle.base.specs.Run.{run, Wide}
use Rattle.base.proofs.Picks.{pick_true, pick_false, both_held}
use Rattle.base.proofs.Runs.{length_run, run_element, end_within}
use Rattle.paper.specs.declared.System.{System}
use Rattle.paper.specs.declared.System.TheVariants.{I60, I50, P60, P50}
use Rattle.paper.specs.declared.Pack.{Pack}
use Rattle.rules_format.specs.Systems.{rate_of}
use Rattle.rules_packs.specs.Packs.{pack_in, pack_bytes, no_pack, pair_at}
use Rattle.rules_packs.specs.Header.{header_bytes, dsf_ok, flagged}
use Rattle.rules_packs.specs.TimeCode.{value_in, digits_ok, last_frame, clock_ok, time_ok, group_ok, bit_taken, time_taken, Digits, Clock}

-- ---- pack_in, pack_bytes

pub pack_bytes_lem : (p : Pack) → pack_in (pack_bytes p) 0 ≡ p
pack_bytes_lem p = refl

-- "Unlisted bytes and bits are written as ones", here where no pack is, and below after a block's last
pub none_ones : pack_bytes no_pack ≡ 0xFF ∷ 0xFF ∷ 0xFF ∷ 0xFF ∷ 0xFF ∷ []
none_ones = refl

-- ---- pair_at: "VSC follows it", "ASC follows"

module _ (at : ℕ) (source control : Pack) where
  pub pair_source : pair_at at source control at ≡ source
  unfolding pair_at
  pair_source = pick_true _ _ (eq-eqb at at refl)

  pub pair_control : pair_at at source control (at + 1) ≡ control
  unfolding pair_at
  pair_control = pick_false _ _ (ne_eqb (at + 1) at (λ e. omega arith)) ∙ pick_true _ _ (eq-eqb (at + 1) (at + 1) refl)

  pub pair_none : (k : ℕ) → (k ≡ at → ⊥) → (k ≡ at + 1 → ⊥) → pair_at at source control k ≡ no_pack
  unfolding pair_at
  pair_none k d e = pick_false _ _ (ne_eqb k at d) ∙ pick_false _ _ (ne_eqb k (at + 1) e)

-- a byte behind an ID
pub behind_id : (id rest : List ℕ) (i : ℕ) → length id ≡ 3 → get_or (id ++ rest) (3 + i) 0 ≡ get_or rest i 0
behind_id id rest i n = rw n at (get_or-append-add id rest i 0)

module _ (id rest : List ℕ) (w : ℕ) (f : ℕ → List ℕ) (s : Wide w f) (n j : ℕ) (three : length id ≡ 3) (h : j < n) where
  -- byte i of part j of n, where the parts stand from byte 3 of a block on
  pub part_byte : (i : ℕ) → i < w → get_or (id ++ (run f n ++ rest)) (3 + (j * w + i)) 0 ≡ get_or (f j) i 0
  part_byte i l =
      let within : j * w + i < length (run f n) = omega (arith, length_run w f s n, end_within w j n h) in
      behind_id id (run f n ++ rest) (j * w + i) three ∙ get_or-append (run f n) rest 0 (j * w + i) within ∙ run_element 0 w f s j n i h l

  -- the pack in part j from its byte o on
  pub part_pack : (o at : ℕ) → o + 4 < w → at ≡ 3 + (j * w + o) → pack_in (id ++ (run f n ++ rest)) at ≡ pack_in (f j) o
  part_pack o at l e = rw (byte at o (omega arith) e, byte (at + 1) (o + 1) (omega arith) (omega arith), byte (at + 2) (o + 2) (omega arith) (omega arith), byte (at + 3) (o + 3) (omega arith) (omega arith), byte (at + 4) (o + 4) (omega arith) (omega arith)) refl
    where
      byte : (m i : ℕ) → i < w → m ≡ 3 + (j * w + i) → get_or (id ++ (run f n ++ rest)) m 0 ≡ get_or (f j) i 0
      byte m i k same = rw same (part_byte i k)

-- ---- header_bytes

pub header_length : (y : System) → length (header_bytes y) ≡ 77
unfolding header_bytes
header_length y = refl

pub header_rest : (y : System) → drop 5 (header_bytes y) ≡ replicate 72 0xFF
unfolding header_bytes
header_rest y = refl

module _ (id : List ℕ) (three : length id ≡ 3) where
  -- "Byte 3: bit 7 DSF (0 for 60 Hz), bit 6 zero."
  rate_byte : (y : System) → get_or (id ++ header_bytes y) 3 0 ≡ get_or (header_bytes y) 0 0
  rate_byte y = behind_id id (header_bytes y) 0 three

  pub dsf_bit : (y : System) → get_or (id ++ header_bytes y) 3 0 / 128 ≡ rate_of y
  unfolding header_bytes
  dsf_bit I60 = rw (rate_byte I60) refl
  dsf_bit I50 = rw (rate_byte I50) refl
  dsf_bit P60 = rw (rate_byte P60) refl
  dsf_bit P50 = rw (rate_byte P50) refl

  pub bit_6_zero : (y : System) → get_or (id ++ header_bytes y) 3 0 / 64 % 2 ≡ 0
  unfolding header_bytes
  bit_6_zero I60 = rw (rate_byte I60) refl
  bit_6_zero I50 = rw (rate_byte I50) refl
  bit_6_zero P60 = rw (rate_byte P60) refl
  bit_6_zero P50 = rw (rate_byte P50) refl

  -- "Bytes 4-7: APT, AP1, AP2, AP3 in bits 2-0, written 111."
  pub sources_written : (y : System) (k : ℕ) → k < 4 → get_or (id ++ header_bytes y) (4 + k) 0 % 8 ≡ 7
  unfolding header_bytes
  sources_written y zero h = rw (behind_id id (header_bytes y) 1 three) refl
  sources_written y (suc zero) h = rw (behind_id id (header_bytes y) 2 three) refl
  sources_written y (suc (suc zero)) h = rw (behind_id id (header_bytes y) 3 three) refl
  sources_written y (suc (suc (suc zero))) h = rw (behind_id id (header_bytes y) 4 three) refl
  sources_written y (suc (suc (suc (suc k)))) h = absurd (omega arith)

  -- "Bytes 5, 6, 7: bit 7 is TF1 .., TF2 .., TF3 ..; .. 0 is written."
  pub flags_written : (y : System) (k : ℕ) → 0 < k → k < 4 → flagged k (id ++ header_bytes y) ≡ false
  unfolding header_bytes
  flags_written y zero l h = absurd (omega arith)
  flags_written y (suc zero) l h = rw (behind_id id (header_bytes y) 2 three) refl
  flags_written y (suc (suc zero)) l h = rw (behind_id id (header_bytes y) 3 three) refl
  flags_written y (suc (suc (suc zero))) l h = rw (behind_id id (header_bytes y) 4 three) refl
  flags_written y (suc (suc (suc (suc k)))) l h = absurd (omega arith)

  -- a written header is judged right at its own rate, and wrong at the other
  pub dsf_written : (y z : System) → dsf_ok y (id ++ header_bytes z) ≡ eqb (rate_of z) (rate_of y)
  dsf_written y z = ap (λ (bit : ℕ). eqb bit (rate_of y)) (dsf_bit z)

-- ---- dsf_ok, flagged

pub dsf_means : (y : System) (block : List ℕ) → dsf_ok y block ≡ true → get_or block 3 0 / 128 ≡ rate_of y
dsf_means y block e = eqb-true (get_or block 3 0 / 128) (rate_of y) e

pub dsf_when : (y : System) (block : List ℕ) → get_or block 3 0 / 128 ≡ rate_of y → dsf_ok y block ≡ true
dsf_when y block e = eq-eqb (get_or block 3 0 / 128) (rate_of y) e

pub flag_means : (k : ℕ) (block : List ℕ) → flagged k block ≡ true → get_or block (4 + k) 0 / 128 ≡ 1
flag_means k block e = eqb-true (get_or block (4 + k) 0 / 128) 1 e

pub flag_when : (k : ℕ) (block : List ℕ) → get_or block (4 + k) 0 / 128 ≡ 1 → flagged k block ≡ true
flag_when k block e = eq-eqb (get_or block (4 + k) 0 / 128) 1 e

-- ---- value_in, digits_ok, last_frame

-- tens in bits 5-4, or in bits 6-4, and what flags stand above them is not read
pub value_two_bits : (flags t u : ℕ) → t < 4 → u < 16 → value_in 4 (64 * flags + 16 * t + u) ≡ 10 * t + u
value_two_bits flags t u h l = omega arith

pub value_three_bits : (flags t u : ℕ) → t < 8 → u < 16 → value_in 8 (128 * flags + 16 * t + u) ≡ 10 * t + u
value_three_bits flags t u h l = omega arith

-- "frames to 29 or 24"
pub last_frame_lem : (y : System) → last_frame y ≡ pick (eqb (rate_of y) 0) 29 24
unfolding pick
last_frame_lem I60 = refl
last_frame_lem I50 = refl
last_frame_lem P60 = refl
last_frame_lem P50 = refl

pub digits_means : (values most b : ℕ) → digits_ok values most b ≡ true → Digits values most b
digits_means values most b e =
    let two = both_held (ltb (b % 16) 10) (leb (value_in values b) most) e in
    record { units = ltb-true (b % 16) 10 two.0; value = leb-true (value_in values b) most two.1 }

pub digits_when : (values most b : ℕ) → Digits values most b → digits_ok values most b ≡ true
digits_when values most b d = rw (lt-ltb (b % 16) 10 d.units) (le-leb (value_in values b) most d.value)

-- ---- clock_ok, time_ok

module _ (y : System) (p : Pack) where
  pub clock_means : clock_ok y p ≡ true → Clock y p
  clock_means e =
      let hours = digits_ok 4 23 p.pc4 in
      let minutes = digits_ok 8 59 p.pc3 in
      let seconds = digits_ok 8 59 p.pc2 in
      let all = both_held (digits_ok 4 (last_frame y) p.pc1) (seconds && (minutes && hours)) e in
      let three = both_held seconds (minutes && hours) all.1 in
      let two = both_held minutes hours three.1 in
      record {
        frames = digits_means 4 (last_frame y) p.pc1 all.0;
        seconds = digits_means 8 59 p.pc2 three.0;
        minutes = digits_means 8 59 p.pc3 two.0;
        hours = digits_means 4 23 p.pc4 two.1;
      }

  pub clock_when : Clock y p → clock_ok y p ≡ true
  clock_when h =
      rw (digits_when 4 (last_frame y) p.pc1 h.frames, digits_when 8 59 p.pc2 h.seconds, digits_when 8 59 p.pc3 h.minutes)
      (digits_when 4 23 p.pc4 h.hours)

  pub time_means : time_ok y p ≡ true → (p.pc0 ≡ 0x13) × Clock y p
  time_means e = let two = both_held (eqb p.pc0 0x13) (clock_ok y p) e in (eqb-true p.pc0 0x13 two.0, clock_means two.1)

  pub time_when : p.pc0 ≡ 0x13 → Clock y p → time_ok y p ≡ true
  time_when e h = rw (eq-eqb p.pc0 0x13 e) (clock_when h)

  -- ---- time_taken

  -- "At 50 Hz bit 6 of PC1 is arbitrary: the writer takes only 1"
  pub bit_means : bit_taken y p ≡ true → rate_of y ≡ 1 → p.pc1 / 64 % 2 ≡ 1
  bit_means e r = eqb-true (p.pc1 / 64 % 2) 1 (rw r at e)

  pub taken_means : time_taken y p ≡ true → (rate_of y ≡ 1 → p.pc1 / 64 % 2 ≡ 1) × Clock y p
  unfolding time_taken
  taken_means e = let two = both_held (bit_taken y p) (clock_ok y p) e in (bit_means two.0, clock_means two.1)

  pub taken_when : (rate_of y ≡ 1 → p.pc1 / 64 % 2 ≡ 1) → Clock y p → time_taken y p ≡ true
  unfolding time_taken
  taken_when f h = rw (clock_when h) (bit y f)
    where
      bit : (z : System) → (rate_of z ≡ 1 → p.pc1 / 64 % 2 ≡ 1) → (bit_taken z p && true) ≡ true
      bit I60 g = refl
      bit I50 g = rw (g refl) refl
      bit P60 g = refl
      bit P50 g = rw (g refl) refl

  -- what the writer takes, the reader judges right
  pub taken_ok : time_taken y p ≡ true → p.pc0 ≡ 0x13 → time_ok y p ≡ true
  taken_ok e h = time_when h (taken_means e).1

-- a binary group has its header, and nothing else is asked of it
pub group_means : (p : Pack) → group_ok p ≡ true → p.pc0 ≡ 0x14
group_means p e = eqb-true p.pc0 0x14 e

pub group_when : (p : Pack) → p.pc0 ≡ 0x14 → group_ok p ≡ true
group_when p e = eq-eqb p.pc0 0x14 e
