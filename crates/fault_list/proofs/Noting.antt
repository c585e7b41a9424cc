-- What is stored of a record, the ways out of `note` and of `survey_block`, and what the loop over places keeps. Assumes nothing.
use Rattle.std.specs.Prelude.{⊤, Result, Ok, Err}
use mathlib.Core.Path.{◌≡◌, refl, sym, ap, ◌∙◌}
use mathlib.Core.List.{List, [], ◌∷◌, ◌++◌, append_assoc}
use Prim.Native.Nat.{ℕ, ◌+◌, ◌*◌, ◌/◌, ◌≤◌, ◌<◌, ◌-◌}
use native.Mathlib.Nat.{add-sub_cancel_left}
use native.Mathlib.Omega.{arith}
use lib.ListN.{length, take, drop}
use lib.Seq.{sets, drop-drop}
use borrow.Author.Tests.{eq-eqb, ne_eqb}
use Rattle.base.specs.Pick.{pick}
use Rattle.base.specs.Run.{run}
use Rattle.base.proofs.Parts.{range_part, all_set}
use Rattle.paper.specs.declared.Entry.{Entry}
use Rattle.paper.specs.declared.Place.{Place}
use Rattle.paper.specs.declared.IdAnswer.{IdAnswer}
use Rattle.paper.specs.declared.Fault.{Fault}
use Rattle.paper.specs.declared.Cause.{Cause}
use Rattle.paper.specs.Causes.{cause_number, number_said}
use Rattle.rules_format.specs.Places.{entry_at}
use Rattle.rules_format.specs.Blocks.{block_in}
use Rattle.rules_format.specs.Faults.{fault_at, fault_of}
use Rattle.rules_surveys.specs.FaultLists.{block_faults, place_faults, sequence_faults}
use Rattle.rules_format.specs.Judging.{entry_of}
use Rattle.rules_format.specs.Ids.{block_answer}
use Rattle.rules_surveys.specs.Records.{numbers, width, room}
use Rattle.rules_surveys.specs.Noting.{Noted}
use Rattle.rules_format.proofs.Places.{entry_printed}
use Rattle.rules_surveys.proofs.FaultLists.{places_le}
use Rattle.rules_surveys.proofs.Records.{numbers_length, noted_none, noted_one, noted_full}
use Rattle.layout.proofs.Saying.{never_zero}
use Rattle.judged_bits.specs.Asked.{JudgedBlock}
use Rattle.judged_bits.specs.Clean.{BlockAsked}
use Rattle.judged_bits.proofs.Clear.{clean_block}
use Rattle.fault_list.specs.declared.list.FaultList.{FaultList}
use Rattle.fault_list.specs.Listed.{NotedIn}
use Rattle.fault_list.proofs.Listing.{in_turn}

-- ---- put_record

pub record_stored : (part : List ℕ) (f : Fault) → length part ≡ width → sets part 0 (numbers f) ≡ numbers f
record_stored part f e = all_set part (numbers f) (e ∙ sym (numbers_length f))

-- ---- note: the part of record t is lent, and comes back as its numbers

module _ (list : List ℕ) (t : ℕ) (f : Fault) where
  pub note_stored : t < length list / width → (part : List ℕ) → part ≡ numbers f
      → Noted list t (f ∷ []) (take (width * t) list ++ (part ++ drop (width * t + width - width * t) (drop (width * t) list))) (t + 1)
  unfolding room
  note_stored h part e =
      let next : width * t + width ≡ width * (t + 1) = omega arith in
      rw (e, add-sub_cancel_left (width * t) width, drop-drop, next, ← append_assoc) (noted_one list t f h)

  pub note_full : length list / width ≤ t → Noted list t (f ∷ []) list (t + 1)
  unfolding room
  note_full h = noted_full list t f h

-- ---- survey_block

-- a block that names its place leaves no record
no_record : (block : List ℕ) (h q p t : ℕ) (list : List ℕ) → fault_at block h q p ≡ 0 → Noted list t (block_faults block h q p) list t
unfolding block_faults pick
no_record block h q p t list z = rw (eq-eqb _ _ z) (noted_none list t)

module _ (block : List ℕ) (h q : ℕ) (p : Place) (e k t : ℕ) (list : List ℕ) (a : BlockAsked block h q p.0 e k) where
  pub bits_clean : (r : ℕ) → JudgedBlock block r → r ≡ e + k → Noted list t (block_faults block h q p.0) list t
  bits_clean r j s = no_record block h q p.0 t list (clean_block a j s)

  -- i is the answer to the ID, w the entry of the place and f the fault
  module _ (i : IdAnswer) (w : Entry) (f : ℕ) (ei : i ≡ block_answer block) (ew : w ≡ entry_of e) (ef : f ≡ fault_of i h q w) where
    is_fault : f ≡ fault_at block h q p.0
    unfolding fault_at
    is_fault = ef ∙ rw (ei, ew, a.entry, entry_printed (entry_at p)) refl

    clean_fault : f ≡ 0 → Noted list t (block_faults block h q p.0) list t
    clean_fault z = no_record block h q p.0 t list (sym is_fault ∙ z)

    noted_fault : (f ≡ 0 → ⊥) → (list' : List ℕ) (r : ℕ) → Noted list t (record { channel = h; sequence = q; place = p; fault = f } ∷ []) list' r
        → Noted list t (block_faults block h q p.0) list' r
    unfolding block_faults pick
    noted_fault d list' r n = rw (ne_eqb (fault_at block h q p.0) 0 (λ z. d (is_fault ∙ z))) (rw is_fault at n)

  -- said is what the fault's question answers
  module _ (i : IdAnswer) (w : Entry) (ei : i ≡ block_answer block) (ew : w ≡ entry_of e) (said : Result ⊤ Cause) (es : number_said said ≡ fault_of i h q w) where
    pub fault_clean : (x : ⊤) → said ≡ Ok x → Noted list t (block_faults block h q p.0) list t
    fault_clean x ok = clean_fault i w _ ei ew es (ap number_said ok)

    pub fault_noted : (cause : Cause) → said ≡ Err cause → (number : ℕ) → number ≡ cause_number cause
        → (list' : List ℕ) (r : ℕ) → Noted list t (record { channel = h; sequence = q; place = p; fault = number } ∷ []) list' r
        → Noted list t (block_faults block h q p.0) list' r
    fault_noted cause err number en = noted_fault i w number ei ew (en ∙ sym (ap number_said err) ∙ es) (λ z. never_zero cause (sym en ∙ z))

-- ---- survey_part

module _ (part : List ℕ) (h q p : ℕ) (list list' : FaultList) (n : NotedIn list (run (place_faults part h q) p) list') where
  pub block_few : list.total < 8000 → p < 150 → list'.total < 10000
  block_few few l = omega (arith, n.noted.total, places_le part h q p)

  pub place_turn : (list'' : FaultList) → NotedIn list' (block_faults (take (p * 80 + 80 - p * 80) (drop (p * 80) part)) h q p) list''
      → NotedIn list (run (place_faults part h q) (p + 1)) list''
  unfolding block_in
  place_turn list'' m = in_turn (place_faults part h q) p n (rw (range_part (p * 80) 80 part) at m)

pub places_done : (part : List ℕ) (h q p : ℕ) (list list' : FaultList) → p ≤ 150 → 150 ≤ p → NotedIn list (run (place_faults part h q) p) list'
    → NotedIn list (sequence_faults part h q) list'
unfolding sequence_faults
places_done part h q p list list' a b n = let e : p ≡ 150 = omega arith in rw e at n
