-- Laws of samples: a number that is given, as a sample, as a word, as two bytes, and read again. Assumes nothing.
use Rattle.std.specs.Prelude.{Some, None}
use mathlib.Core.Path.{◌≡◌, refl, sym, ap, ◌∙◌, subst}
use mathlib.Core.Bool.{true, false}
use mathlib.Core.List.{List, [], ◌∷◌}
use Prim.Native.Nat.{ℕ, zero, suc, ◌-◌, ◌≤◌, ◌<◌}
use native.Mathlib.Nat.{div-add-mod', not-suc-le-zero, le_of_suc-le-suc}
use native.Mathlib.Omega.{arith}
use lib.Dec.{leb}
use lib.ListN.{length, get_or}
use lib.IntN.{ℤ, pos, negsuc}
use borrow.Author.Tests.{lt-ltb, le-ltb, le-leb, lt-leb, ne_eqb, leb-true}
use Rattle.base.specs.Pick.{pick}
use Rattle.base.proofs.Cases.{by_bool, by_lt, by_eq}
use Rattle.base.proofs.Picks.{pick_either, both_held}
use Rattle.paper.specs.declared.Sample.TheVariants.{Level, Lost}
use Rattle.rules_format.specs.Samples.{number_of, in_range, sample_in, all_in_range, sample_of, word_of, word_in, word_for, bytes_of, word_at, back_of}
use Rattle.paper.specs.Paper
use Rattle.paper.specs.Paper.{sample_by, back}

-- ---- sample_of, word_of

-- "Word 8000h is lost"
pub lost_word : (sample_of 0x8000 ≡ Lost) × (word_of Lost ≡ 0x8000)
unfolding sample_of word_of pick
lost_word = (refl, refl)

-- "a level of -32,768 is written 8001h"
pub least_word : word_of (Level (negsuc 32767)) ≡ 0x8001
unfolding word_of pick
least_word = refl

-- silence is the word 0
pub silence : number_of (sample_of 0) ≡ pos 0
unfolding sample_of pick
silence = refl

-- ---- bytes_of, word_at: "high byte first"

pub bytes_high : bytes_of 0x1234 ≡ 0x12 ∷ 0x34 ∷ []
bytes_high = refl

pub bytes_word : (w : ℕ) → word_at (bytes_of w) 0 ≡ w
bytes_word w = div-add-mod' w 256

-- ---- sample_in: "outside -32,768 to 32,768" is no sample

pub range_ends : (in_range (pos 32768) ≡ true) × (in_range (negsuc 32767) ≡ true) × (in_range (pos 32769) ≡ false) × (in_range (negsuc 32768) ≡ false)
unfolding in_range
range_ends = (refl, refl, refl, refl)

pub sample_none : (z : ℤ) → in_range z ≡ false → sample_in z ≡ None
unfolding sample_in pick
sample_none z e = rw e refl

pub sample_lost : sample_in (pos 32768) ≡ Some Lost
unfolding sample_in in_range pick
sample_lost = refl

pub sample_level : (z : ℤ) → in_range z ≡ true → (z ≡ pos 32768 → ⊥) → sample_in z ≡ Some (Level z)
unfolding sample_in in_range pick
sample_level (pos n) e d =
    by_eq n 32768
    (λ q. absurd (d (ap pos q)))
    (λ o. rw (e, lt-leb 32768 n (omega (arith, o, leb-true n 32768 e))) refl)
sample_level (negsuc n) e d = rw e refl

-- ---- word_for, back_of in document 01's words: a number that is given, as its word and as it comes back

pub word_is : (z : ℤ) → in_range z ≡ true → word_for z ≡ Paper.word_by z
unfolding in_range sample_in word_in word_of Paper.word_by pick
word_is (pos n) e =
    let h : n ≤ 32768 = leb-true n 32768 e in
    by_eq n 32768
    (λ q. rw q refl)
    (λ d. rw (e, lt-leb 32768 n (omega (arith, d)), ne_eqb n 32768 d) refl)
word_is (negsuc n) e =
    let h : n ≤ 32767 = leb-true n 32767 (both_held (leb n 32767) true e).0 in
    by_eq n 32767
    (λ q. rw q refl)
    (λ d.
    let other : 65536 - suc n ≡ 32768 → ⊥ = λ q. d (omega arith) in
    let same : 65536 - suc n ≡ 0xFFFF - n = omega arith in
    rw (le-leb n 32767 h, ne_eqb (65536 - suc n) 32768 other, ne_eqb n 32767 d) same)

pub back_is : (z : ℤ) → in_range z ≡ true → back_of z ≡ back z
unfolding in_range back_of back pick
back_is (pos n) e = refl
back_is (negsuc n) e =
    let h : n ≤ 32767 = leb-true n 32767 (both_held (leb n 32767) true e).0 in
    by_eq n 32767
    (λ q. rw q refl)
    (λ d. rw (lt-leb 32767 n (omega (arith, d)), ne_eqb n 32767 d) refl)

-- ---- sample_of in document 01's words

pub heard_is : (w : ℕ) → number_of (sample_of w) ≡ sample_by w
unfolding sample_of sample_by pick
heard_is w =
    by_eq w 0x8000
    (λ q. rw q refl)
    (λ d.
    by_lt w 0x8000
    (λ l. rw (ne_eqb w 0x8000 d, lt-ltb w 0x8000 l, le-leb w 0x8000 (omega arith)) refl)
    (λ g.
    let same : 65536 - suc w ≡ 0xFFFF - w = omega arith in
    rw (ne_eqb w 0x8000 d, le-ltb w 0x8000 g, lt-leb w 0x8000 (omega (arith, d)), same) refl))

-- ---- word_for: a number comes back, but -32,768 as -32,767

heard_again : (z : ℤ) → in_range z ≡ true → sample_by (Paper.word_by z) ≡ back z
unfolding in_range sample_by Paper.word_by back pick
heard_again (pos n) e = rw e refl
heard_again (negsuc n) e =
    let h : n ≤ 32767 = leb-true n 32767 (both_held (leb n 32767) true e).0 in
    by_eq n 32767
    (λ q. rw q refl)
    (λ d.
    let same : 0xFFFF - (0xFFFF - n) ≡ n = omega arith in
    rw (ne_eqb n 32767 d, lt-leb (0xFFFF - n) 0x8000 (omega (arith, d)), same) refl)

pub number_again : (z : ℤ) → in_range z ≡ true → number_of (sample_of (word_for z)) ≡ back_of z
number_again z e = heard_is (word_for z) ∙ ap sample_by (word_is z e) ∙ heard_again z e ∙ sym (back_is z e)

-- a word has 16 bits
level_below : (z : ℤ) → in_range z ≡ true → Paper.word_by z < 65536
unfolding Paper.word_by in_range
level_below (pos n) e = let k : n ≤ 32768 = leb-true n 32768 e in omega arith
level_below (negsuc n) e = pick_either (λ w. w < 65536) _ (omega arith) (omega arith)

pub word_below : (z : ℤ) → word_for z < 65536
unfolding word_in
word_below z =
    by_bool (in_range z)
    (λ e. subst (λ (w : ℕ). w < 65536) (sym (word_is z e)) (level_below z e))
    (λ e. rw (sample_none z e) (omega arith))

-- `back_of` in the paper's numbers
pub back_least : back_of (negsuc 32767) ≡ negsuc 32766
unfolding back_of pick
back_least = refl

pub back_other : (n : ℕ) → (back_of (pos n) ≡ pos n) × (n < 32767 → back_of (negsuc n) ≡ negsuc n)
unfolding back_of pick
back_other n = (refl, λ l. rw (lt-leb 32767 n l) refl)

-- ---- all_in_range

-- every number of a slice that passed is in the range, and where each is, the slice passes
pub all_in : (xs : List ℤ) (i : ℕ) → all_in_range xs ≡ true → i < length xs → in_range (get_or xs i (pos 0)) ≡ true
unfolding all_in_range
all_in [] i e h = absurd (not-suc-le-zero h)
all_in (x ∷ xs) zero e h = (both_held (in_range x) (all_in_range xs) e).0
all_in (x ∷ xs) (suc i) e h = all_in xs i (both_held (in_range x) (all_in_range xs) e).1 (le_of_suc-le-suc h)

pub all_pass : (xs : List ℤ) → ((i : ℕ) → i < length xs → in_range (get_or xs i (pos 0)) ≡ true) → all_in_range xs ≡ true
unfolding all_in_range
all_pass [] h = refl
all_pass (x ∷ xs) h = rw (h 0 (omega arith), all_pass xs (λ i b. h (suc i) (omega arith))) refl
