-- Laws of survey records in a lent list, at once and record by record. Assumes nothing.
use mathlib.Core.Path.{◌≡◌, refl, sym, ap, ap₂, ◌∙◌}
use mathlib.Core.List.{List, [], ◌∷◌, ◌++◌, append_assoc}
use Prim.Native.Nat.{ℕ, zero, suc, ◌+◌, ◌*◌, ◌-◌, ◌/◌, ◌≤◌, ◌<◌, min}
use native.Mathlib.Nat.{add-zero, zero-add, suc-sub-suc, sub-zero}
use native.Mathlib.Omega.{arith}
use lib.ListN.{length, take, drop, length-append, length-take, length-drop, take-append-drop}
use lib.Seq.{take-nil, take_all, take_at, drop_at, length-take-le, drop-append-add, drop-drop}
use borrow.Author.Tests.{lt-ltb, le-ltb}
use Rattle.base.specs.Run.{run}
use Rattle.base.proofs.Cases.{by_lt}
use Rattle.base.proofs.Picks.{pick_true, pick_false}
use Rattle.base.proofs.Runs.{run_zero, run_more}
use Rattle.paper.specs.declared.Fault.{Fault}
use Rattle.rules_surveys.specs.Records.{numbers, width, flat, room, kept, after}
use Rattle.rules_surveys.specs.Noting.{put, more, Noted}

-- ---- numbers

pub numbers_length : (f : Fault) → length (numbers f) ≡ width
unfolding numbers
numbers_length f = refl

-- ---- flat

pub flat_length : (fs : List Fault) → length (flat fs) ≡ width * length fs
unfolding flat
flat_length [] = refl
flat_length (f ∷ fs) = omega (arith, length-append (numbers f) (flat fs), numbers_length f, flat_length fs)

pub flat_append : (a b : List Fault) → flat (a ++ b) ≡ flat a ++ flat b
unfolding flat
flat_append [] b = refl
flat_append (f ∷ a) b = ap (λ (l : List ℕ). numbers f ++ l) (flat_append a b) ∙ sym (append_assoc (numbers f) (flat a) (flat b))

-- the records of a run of faults
pub flat_run : (f : ℕ → List Fault) (m : ℕ) → flat (run f m) ≡ run (λ (j : ℕ). flat (f j)) m
unfolding flat run
flat_run f zero = refl
flat_run f (suc m) = flat_append (run f m) (f m) ∙ ap (λ (l : List ℕ). l ++ flat (f m)) (flat_run f m)

-- ---- kept

-- the first faults are kept: they are the kept ones, and then the others
pub kept_first : (list : List ℕ) (fs : List Fault) → kept list fs ++ drop (room list) fs ≡ fs
unfolding kept
kept_first list fs = take-append-drop (room list) fs

pub kept_length : (list : List ℕ) (fs : List Fault) → length (kept list fs) ≡ min (length list / width) (length fs)
unfolding kept room
kept_length list fs = length-take (length list / width) fs

-- their records are the first of all
pub kept_flat : (list : List ℕ) (fs : List Fault) → flat (kept list fs) ≡ take (width * length (kept list fs)) (flat fs)
kept_flat list fs =
    sym (
    ap (λ (gs : List Fault). take (width * length (kept list fs)) (flat gs)) (sym (kept_first list fs))
    ∙ ap (take (width * length (kept list fs))) (flat_append (kept list fs) (drop (room list) fs))
    ∙ take_at (flat (kept list fs)) _ (width * length (kept list fs)) (flat_length (kept list fs)))

-- no more is kept than there is room for, nor than there are
pub kept_room : (list : List ℕ) (fs : List Fault) → width * length (kept list fs) ≤ length list
kept_room list fs = omega (arith, kept_length list fs)

-- the first n of two lists joined
take_join : (n : ℕ) (a b : List Fault) → take n (a ++ b) ≡ take n a ++ take (n - length a) b
take_join n [] b = rw (take-nil, sub-zero)
take_join zero (x ∷ a) b =
    let e : 0 - suc (length a) ≡ 0 = omega arith in
    rw e
take_join (suc n) (x ∷ a) b = ap (λ (l : List Fault). x ∷ l) (take_join n a b ∙ rw suc-sub-suc)

-- ---- after

-- the kept records stand first
pub after_kept : (list : List ℕ) (fs : List Fault) → take (width * length (kept list fs)) (after list fs) ≡ flat (kept list fs)
unfolding after
after_kept list fs = take_at (flat (kept list fs)) _ (width * length (kept list fs)) (flat_length (kept list fs))

-- unused entries stay
pub after_unused : (list : List ℕ) (fs : List Fault) → drop (width * length (kept list fs)) (after list fs) ≡ drop (width * length (kept list fs)) list
unfolding after
after_unused list fs = drop_at (flat (kept list fs)) (drop (width * length (kept list fs)) list) (width * length (kept list fs)) (flat_length (kept list fs))

pub after_none : (list : List ℕ) → after list [] ≡ list
unfolding after kept flat
after_none list = rw take-nil

-- the fault that others come before stands behind theirs, if there is room for it
pub after_first : (list : List ℕ) (before : List Fault) (f : Fault) (rest : List Fault) → length before < room list
    → take width (drop (width * length before) (after list (before ++ (f ∷ rest)))) ≡ numbers f
unfolding after kept flat
after_first list before f rest h =
    let e : room list - length before ≡ suc (room list - length before - 1) = omega arith in
    let whole : take (room list) before ≡ before = take_all (room list) before (omega arith) in
    rw (take_join (room list) before (f ∷ rest), whole, e, flat_append, append_assoc)
    (ap (take width) (drop_at (flat before) _ (width * length before) (flat_length before) ∙ append_assoc (numbers f) _ _)
    ∙ take_at (numbers f) _ width (numbers_length f))

-- ---- a list in two goes: the second writes behind what the first kept

room_rest : (list : List ℕ) (fs : List Fault) → room (drop (width * length (kept list fs)) list) ≡ room list - length (kept list fs)
unfolding room
room_rest list fs = omega (arith, length-drop (width * length (kept list fs)) list)

pub kept_append : (list : List ℕ) (fs gs : List Fault) → kept list (fs ++ gs) ≡ kept list fs ++ kept (drop (width * length (kept list fs)) list) gs
unfolding kept
kept_append list fs gs =
    let e : room list - length fs ≡ room (drop (width * length (take (room list) fs)) list) =
    omega (arith, room_rest list fs, length-take (room list) fs) in
    take_join (room list) fs gs ∙ ap (λ (n : ℕ). take (room list) fs ++ take n gs) e

pub after_append : (list : List ℕ) (fs gs : List Fault)
    → after list (fs ++ gs) ≡ take (width * length (kept list fs)) (after list fs) ++ after (drop (width * length (kept list fs)) (after list fs)) gs
unfolding after
after_append list fs gs =
    let a = kept list fs in
    let b = kept (drop (width * length a) list) gs in
    let e : width * length a + width * length b ≡ width * (length a + length b) = omega arith in
    rw (kept_append list fs gs, length-append a b, flat_append a b, after_kept list fs, after_unused list fs, append_assoc)
    (ap (λ (r : List ℕ). flat a ++ (flat b ++ r)) (ap (λ (n : ℕ). drop n list) (sym e) ∙ sym (drop-drop (width * length b) (width * length a) list)))

-- ---- put

module _ (list : List ℕ) (t : ℕ) (f : Fault) where
  -- the list up to the record's end
  abbrev front : List ℕ
  front = take (width * t) list ++ numbers f

  module _ (h : t < room list) where
    put_room : put list t f ≡ front ++ drop (width * (t + 1)) list
    unfolding put
    put_room = pick_true _ _ (lt-ltb t (room list) h)

    record_fits : width * (t + 1) ≤ length list
    unfolding room
    record_fits = omega arith

    front_length : length front ≡ width * (t + 1)
    front_length =
        let before : width * t ≤ length list = omega (arith, record_fits) in
        omega (arith, length-append (take (width * t) list) (numbers f), length-take-le (width * t) list before, numbers_length f)

    put_take : take (width * (t + 1)) (put list t f) ≡ front
    put_take = ap (take (width * (t + 1))) put_room ∙ take_at front _ (width * (t + 1)) front_length

    put_drop : (n : ℕ) → t < n → drop (width * n) (put list t f) ≡ drop (width * n) list
    put_drop n l =
        let m = width * n - width * (t + 1) in
        let past : width * n ≡ length front + m = omega (arith, front_length) in
        let whole : width * (t + 1) + m ≡ width * n = omega arith in
        ap₂ drop past put_room
        ∙ drop-append-add front (drop (width * (t + 1)) list) m
        ∙ drop-drop m (width * (t + 1)) list
        ∙ ap (λ (j : ℕ). drop j list) whole

  put_full : room list ≤ t → put list t f ≡ list
  unfolding put
  put_full h = pick_false _ _ (le-ltb t (room list) h)

  put_length : length (put list t f) ≡ length list
  put_length =
      by_lt t (room list)
      (λ h.
      ap length (put_room h)
      ∙ omega (arith, length-append front (drop (width * (t + 1)) list), front_length h, length-drop (width * (t + 1)) list, record_fits h))
      (λ h. ap length (put_full h))

put_keeps_room : (list : List ℕ) (t : ℕ) (f : Fault) → room (put list t f) ≡ room list
unfolding room
put_keeps_room list t f = rw put_length

-- ---- more

more_length : (list : List ℕ) (t : ℕ) (fs : List Fault) → length (more list t fs) ≡ length list
unfolding more
more_length list t [] = refl
more_length list t (f ∷ fs) = more_length (put list t f) (t + 1) fs ∙ put_length list t f

more_append : (list : List ℕ) (t : ℕ) (fs gs : List Fault) → more list t (fs ++ gs) ≡ more (more list t fs) (t + length fs) gs
unfolding more
more_append list t [] gs = rw add-zero
more_append list t (f ∷ fs) gs =
    more_append (put list t f) (t + 1) fs gs
    ∙ ap (λ (n : ℕ). more (more (put list t f) (t + 1) fs) n gs) (omega arith)

more_full : (list : List ℕ) (t : ℕ) (fs : List Fault) → room list ≤ t → more list t fs ≡ list
unfolding more
more_full list t [] h = refl
more_full list t (f ∷ fs) h = rw (put_full list t f h) (more_full list (t + 1) fs (omega arith))

-- what the stores leave, said at once
more_at : (list : List ℕ) (t : ℕ) (fs : List Fault) → t ≤ room list
    → more list t fs ≡ take (width * t) list ++ (flat (take (room list - t) fs) ++ drop (width * (t + length (take (room list - t) fs))) list)
unfolding more flat
more_at list t [] h = rw (take-nil, add-zero) (sym (take-append-drop (width * t) list))
more_at list t (f ∷ fs) h =
    by_lt t (room list)
    (λ k.
    let e : room list - t ≡ suc (room list - (t + 1)) = omega arith in
    let r : room (put list t f) - (t + 1) ≡ room list - (t + 1) = ap (λ (n : ℕ). n - (t + 1)) (put_keeps_room list t f) in
    let m = length (take (room list - (t + 1)) fs) in
    let s : t + 1 + m ≡ t + suc m = omega arith in
    rw e
    (more_at (put list t f) (t + 1) fs (omega (arith, put_keeps_room list t f))
    ∙ rw (r, put_take list t f k, put_drop list t f k (t + 1 + m) (omega arith))
    (rw (append_assoc (take (width * t) list), append_assoc (numbers f), s))))
    (λ k.
    let e : room list - t ≡ 0 = omega arith in
    rw (put_full list t f k, e, more_full list (t + 1) fs (omega arith), add-zero) (sym (take-append-drop (width * t) list)))

-- noted one after the other from the start, the faults leave what the paper says
pub more_after : (list : List ℕ) (fs : List Fault) → more list 0 fs ≡ after list fs
unfolding after kept
more_after list fs =
    let e : room list - 0 ≡ room list = omega arith in
    more_at list 0 fs (omega arith) ∙ rw (e, zero-add)

-- ---- Noted

pub noted_none : (list : List ℕ) (t : ℕ) → Noted list t [] list t
unfolding more
noted_none list t = record { total = omega arith; left = refl }

-- one record, where there is room for it and where there is not
module _ (list : List ℕ) (t : ℕ) (f : Fault) where
  pub noted_one : t < room list → Noted list t (f ∷ []) (take (width * t) list ++ numbers f ++ drop (width * (t + 1)) list) (t + 1)
  unfolding more
  noted_one h = record { total = refl; left = sym (put_room list t f h) }

  pub noted_full : room list ≤ t → Noted list t (f ∷ []) list (t + 1)
  unfolding more
  noted_full h = record { total = refl; left = sym (put_full list t f h) }

pub noted_append : {list list' list'' : List ℕ} {t r s : ℕ} {fs gs : List Fault} → Noted list t fs list' r → Noted list' r gs list'' s → Noted list t (fs ++ gs) list'' s
noted_append {list} {list'} {list''} {t} {r} {s} {fs} {gs} a b =
    record {
      total = omega (arith, length-append fs gs, a.total, b.total);
      left = b.left ∙ rw (a.left, a.total) (sym (more_append list t fs gs));
    }

pub noted_after : {list list' : List ℕ} {fs : List Fault} {r : ℕ} → Noted list 0 fs list' r → (r ≡ length fs) × (list' ≡ after list fs)
noted_after {list} {list'} {fs} {r} n = (omega (arith, n.total), n.left ∙ more_after list fs)

-- a loop over the places, the sequences or the DIF channels: its start and one turn
pub noted_start : (f : ℕ → List Fault) (list : List ℕ) (t : ℕ) → Noted list t (run f 0) list t
noted_start f list t = rw run_zero (noted_none list t)

pub noted_turn : (f : ℕ → List Fault) (i : ℕ) {list list' list'' : List ℕ} {t r s : ℕ} → Noted list t (run f i) list' r → Noted list' r (f i) list'' s → Noted list t (run f (i + 1)) list'' s
noted_turn f i a b = rw run_more (noted_append a b)

pub noted_length : {list list' : List ℕ} {t r : ℕ} {fs : List Fault} → Noted list t fs list' r → length list' ≡ length list
noted_length {list} {list'} {t} {r} {fs} a = ap length a.left ∙ more_length list t fs
