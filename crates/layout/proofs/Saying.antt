-- What a refusal's number says of the answer that has it: 0 is never a cause, and a number leaves one answer. Assumes nothing.
use mathlib.Core.Path.{◌≡◌, refl, sym, ap, ◌∙◌}
use borrow.Author.Tests.{ne_eqb}
use native.Mathlib.Omega.{arith}
use Rattle.std.specs.Prelude.{ℕ, eqb, ⊤, Result, Ok, Err, IfOk, is_ok, IsErrAnd}
use Rattle.std.proofs.lemmas.Option.{same_Some}
use Rattle.base.specs.Pick.{pick}
use Rattle.paper.specs.declared.System.{System}
use Rattle.paper.specs.declared.Cause.{Cause}
use Rattle.paper.specs.declared.Cause.TheVariants.{NoSystem, FrameLength, OutsideSystem, LentLength, ReservedSection, OtherSection, OtherChannel, OtherDseq, OtherDbn}
use Rattle.paper.specs.declared.Cause.TheVariants.{DsfDisagrees, VsDisagrees, Flagged, AsBreaksRules, AsDiffers, SubcodeBreaksRules, SubcodeDiffers}
use Rattle.paper.specs.declared.Cause.TheVariants.{NotTheCount, NoSample, TimeBreaksRules, Unrecorded}
use Rattle.paper.specs.Causes.{cause_number, number_said}
use Rattle.layout.specs.Asked.{FrameKnown}

-- ---- a cause, by its number

unfoldable cause_of : ℕ → Cause
cause_of k =
    pick (eqb k 1) NoSystem (pick (eqb k 2) FrameLength (pick (eqb k 3) OutsideSystem (pick (eqb k 4) LentLength (
    pick (eqb k 11) ReservedSection (pick (eqb k 12) OtherSection (pick (eqb k 13) OtherChannel (pick (eqb k 14) OtherDseq (
    pick (eqb k 15) OtherDbn (pick (eqb k 21) DsfDisagrees (pick (eqb k 22) VsDisagrees (pick (eqb k 23) Flagged (
    pick (eqb k 24) AsBreaksRules (pick (eqb k 25) AsDiffers (pick (eqb k 26) SubcodeBreaksRules (pick (eqb k 27) SubcodeDiffers (
    pick (eqb k 29) NotTheCount (pick (eqb k 31) NoSample (pick (eqb k 32) TimeBreaksRules Unrecorded))))))))))))))))))

cause_back : (cause : Cause) → cause_of (cause_number cause) ≡ cause
unfolding cause_of pick
cause_back NoSystem = refl
cause_back FrameLength = refl
cause_back OutsideSystem = refl
cause_back LentLength = refl
cause_back ReservedSection = refl
cause_back OtherSection = refl
cause_back OtherChannel = refl
cause_back OtherDseq = refl
cause_back OtherDbn = refl
cause_back DsfDisagrees = refl
cause_back VsDisagrees = refl
cause_back Flagged = refl
cause_back AsBreaksRules = refl
cause_back AsDiffers = refl
cause_back SubcodeBreaksRules = refl
cause_back SubcodeDiffers = refl
cause_back NotTheCount = refl
cause_back NoSample = refl
cause_back TimeBreaksRules = refl
cause_back Unrecorded = refl

cause_one : (a b : Cause) → cause_number a ≡ cause_number b → a ≡ b
cause_one a b e = sym (cause_back a) ∙ ap cause_of e ∙ cause_back b

pub never_zero : (cause : Cause) → cause_number cause ≡ 0 → ⊥
never_zero NoSystem e = omega (arith, e)
never_zero FrameLength e = omega (arith, e)
never_zero OutsideSystem e = omega (arith, e)
never_zero LentLength e = omega (arith, e)
never_zero ReservedSection e = omega (arith, e)
never_zero OtherSection e = omega (arith, e)
never_zero OtherChannel e = omega (arith, e)
never_zero OtherDseq e = omega (arith, e)
never_zero OtherDbn e = omega (arith, e)
never_zero DsfDisagrees e = omega (arith, e)
never_zero VsDisagrees e = omega (arith, e)
never_zero Flagged e = omega (arith, e)
never_zero AsBreaksRules e = omega (arith, e)
never_zero AsDiffers e = omega (arith, e)
never_zero SubcodeBreaksRules e = omega (arith, e)
never_zero SubcodeDiffers e = omega (arith, e)
never_zero NotTheCount e = omega (arith, e)
never_zero NoSample e = omega (arith, e)
never_zero TimeBreaksRules e = omega (arith, e)
never_zero Unrecorded e = omega (arith, e)

-- ---- an answer, by the number that it says

pub ok_said : {A : Type 0} (r : Result A Cause) → is_ok r ≡ eqb (number_said r) 0
ok_said (Ok a) = refl
ok_said (Err cause) = sym (ne_eqb _ _ (never_zero cause))

-- two answers that say one number are one
pub said_one : (r s : Result ⊤ Cause) → number_said r ≡ number_said s → r ≡ s
said_one (Ok a) (Ok b) e = refl
said_one (Ok a) (Err c) e = absurd (never_zero c (sym e))
said_one (Err c) (Ok a) e = absurd (never_zero c e)
said_one (Err c) (Err d) e = ap Err (cause_one c d e)

-- and so are two that hand out the system of a frame
pub known_one : (k bytes : ℕ) (r s : Result System Cause) → IfOk r (λ y. FrameKnown k bytes y) → IfOk s (λ y. FrameKnown k bytes y) → number_said r ≡ number_said s → r ≡ s
known_one k bytes (Ok a) (Ok b) ka kb e = ap Ok (same_Some a b (sym ka.known ∙ kb.known))
known_one k bytes (Ok a) (Err c) ka kb e = absurd (never_zero c (sym e))
known_one k bytes (Err c) (Ok a) ka kb e = absurd (never_zero c e)
known_one k bytes (Err c) (Err d) ka kb e = ap Err (cause_one c d e)

-- a `?` hands on what it was told: what holds of the number that was said holds of the number that is said
pub handed_on : {A : Type 0} (P : ℕ → Type 0) (r : Result A Cause) (e : Cause) → IsErrAnd r (λ x. x ≡ e) → P (cause_number e) → P (number_said r)
handed_on P (Err x) e is p = rw is p
handed_on P (Ok a) e is p = absurd is

pub passed_on : {A : Type 0} (r : Result A Cause) (e : Cause) {n : ℕ} → IsErrAnd r (λ x. x ≡ e) → cause_number e ≡ n → number_said r ≡ n
passed_on r e {n} = handed_on (λ k. k ≡ n) r e
