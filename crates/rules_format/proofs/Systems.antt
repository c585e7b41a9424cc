-- Laws of the four systems. Assumes nothing.
use Rattle.std.specs.Prelude.{Some, None}
use mathlib.Core.Path.{◌≡◌, refl}
use mathlib.Core.Bool.{true}
use mathlib.Core.Logic.{◌⊎◌, inl, inr, ⊎_elim}
use Prim.Native.Nat.{ℕ, ◌+◌, ◌*◌, ◌≤◌, ◌<◌}
use native.Mathlib.Omega.{arith}
use borrow.Author.Tests.{ne_eqb, eqb-true}
use Rattle.base.specs.Pick.{pick}
use Rattle.base.proofs.Cases.{by_eq}
use Rattle.paper.specs.declared.System.{System}
use Rattle.paper.specs.declared.System.TheVariants.{I60, I50, P60, P50}
use Rattle.rules_format.specs.Systems.{sequences_of, half_of, positions_of, counts_of, is_count, macroblocks_of, rate_of, stype_of, system_of, number_of_system}

-- ---- system_of

pub system_number : (y : System) → system_of (number_of_system y) ≡ Some y
unfolding system_of pick
system_number I60 = refl
system_number I50 = refl
system_number P60 = refl
system_number P50 = refl

-- 1: "system above 3"
pub system_above : (k : ℕ) → 3 < k → system_of k ≡ None
unfolding system_of pick
system_above k h =
    rw (ne_eqb k 0 (λ e. omega arith), ne_eqb k 1 (λ e. omega arith), ne_eqb k 2 (λ e. omega arith), ne_eqb k 3 (λ e. omega arith)) refl

-- ---- sequences_of

pub sequences_cases : (y : System) → (sequences_of y ≡ 10) ⊎ (sequences_of y ≡ 12)
sequences_cases I60 = inl refl
sequences_cases I50 = inr refl
sequences_cases P60 = inl refl
sequences_cases P50 = inr refl

pub sequences_some : (y : System) → 0 < sequences_of y
sequences_some I60 = omega arith
sequences_some I50 = omega arith
sequences_some P60 = omega arith
sequences_some P50 = omega arith

pub sequences_le : (y : System) → sequences_of y ≤ 12
sequences_le I60 = omega arith
sequences_le I50 = omega arith
sequences_le P60 = omega arith
sequences_le P50 = omega arith

-- ---- half_of

pub half_cases : (y : System) → (half_of y ≡ 5) ⊎ (half_of y ≡ 6)
unfolding half_of
half_cases I60 = inl refl
half_cases I50 = inr refl
half_cases P60 = inl refl
half_cases P50 = inr refl

pub half_twice : (y : System) → sequences_of y ≡ 2 * half_of y
unfolding half_of
half_twice I60 = refl
half_twice I50 = refl
half_twice P60 = refl
half_twice P50 = refl

-- ---- rate_of

pub rate_sequences : (y : System) → sequences_of y ≡ 10 + 2 * rate_of y
rate_sequences I60 = refl
rate_sequences I50 = refl
rate_sequences P60 = refl
rate_sequences P50 = refl

pub rate_below : (y : System) → rate_of y < 2
rate_below I60 = omega arith
rate_below I50 = omega arith
rate_below P60 = omega arith
rate_below P50 = omega arith

-- ---- stype_of

pub stype_below : (y : System) → stype_of y < 32
stype_below I60 = omega arith
stype_below I50 = omega arith
stype_below P60 = omega arith
stype_below P50 = omega arith

-- ---- positions_of, is_count

-- half of a DIF channel's audio blocks, nine a sequence, of 36 words each
pub positions_sequences : (y : System) → 2 * positions_of y ≡ sequences_of y * 9 * 36
positions_sequences I60 = refl
positions_sequences I50 = refl
positions_sequences P60 = refl
positions_sequences P50 = refl

pub positions_half : (y : System) → positions_of y ≡ 36 * (9 * half_of y)
unfolding half_of
positions_half I60 = refl
positions_half I50 = refl
positions_half P60 = refl
positions_half P50 = refl

-- a system's own counts are below its positions
pub counts_below : (y : System) → ((counts_of y).fewer < positions_of y) × ((counts_of y).more < positions_of y)
counts_below I60 = omega arith
counts_below I50 = omega arith
counts_below P60 = omega arith
counts_below P50 = omega arith

-- one of a system's own counts is its fewer or its more
pub count_cases : (y : System) (k : ℕ) → is_count y k ≡ true → (k ≡ (counts_of y).fewer) ⊎ (k ≡ (counts_of y).more)
count_cases y k e =
    by_eq k (counts_of y).fewer (λ same. inl same)
    (λ other. inr (eqb-true _ _ (rw (ne_eqb k (counts_of y).fewer other) at e)))

pub count_below : (y : System) (k : ℕ) → is_count y k ≡ true → k < positions_of y
count_below y k e = ⊎_elim (λ f. omega (arith, counts_below y)) (λ m. omega (arith, counts_below y)) (count_cases y k e)

pub positions_le : (y : System) → positions_of y ≤ 1944
positions_le I60 = omega arith
positions_le I50 = omega arith
positions_le P60 = omega arith
positions_le P50 = omega arith

-- every count has 35 whole turns of 9 s samples, so that only a block's last word may be past it
pub counts_turns : (y : System) → (9 * half_of y * 35 ≤ (counts_of y).fewer) × (9 * half_of y * 35 ≤ (counts_of y).more)
unfolding half_of
counts_turns I60 = (omega arith, omega arith)
counts_turns I50 = (omega arith, omega arith)
counts_turns P60 = (omega arith, omega arith)
counts_turns P50 = (omega arith, omega arith)

pub count_turns : (y : System) (k : ℕ) → is_count y k ≡ true → 9 * half_of y * 35 ≤ k
count_turns y k e = ⊎_elim (λ f. omega (arith, counts_turns y)) (λ m. omega (arith, counts_turns y)) (count_cases y k e)

-- ---- macroblocks_of

pub macroblocks_some : (y : System) → 0 < macroblocks_of y
macroblocks_some I60 = omega arith
macroblocks_some I50 = omega arith
macroblocks_some P60 = omega arith
macroblocks_some P50 = omega arith
