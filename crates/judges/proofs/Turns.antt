-- The turns of the loops: over the twelve SSYBs, the sequences and the DIF channels. Assumes nothing.
use mathlib.Core.Path.{◌≡◌, refl, ap, ◌∙◌}
use mathlib.Core.Bool.{Bool, true, ◌&&◌}
use mathlib.Core.List.{List}
use Prim.Native.Nat.{ℕ, ◌+◌}
use native.Mathlib.Omega.{arith}
use lib.Dec.{ltb}
use Rattle.base.specs.Below.{below}
use Rattle.base.proofs.Below.{below_more}
use Rattle.paper.specs.declared.System.{System}
use Rattle.paper.specs.declared.Pack.{Pack}
use Rattle.paper.specs.declared.SubcodePack.{SubcodePack}
use Rattle.rules_format.specs.Systems.{sequences_of, half_of}
use Rattle.rules_packs.specs.Subcode.{kind_of}
use Rattle.rules_reads.specs.Check.{every_from, every_sequence}
use Rattle.rules_reads.specs.Audio.{every_in_half}
use Rattle.rules_format.specs.Sound.{dif_of}
use Rattle.rules_reads.specs.Time.{ssyb_in, pack_agrees, subcode_agrees}
use Rattle.rules_format.proofs.Systems.{sequences_le, half_twice}
use Rattle.judges.specs.declared.Test.{Test}
use Rattle.judges.specs.Asked.{FirstInHalf, SequencesAsked}
use Rattle.rules_format.specs.Blocks.{sequence_at}
use Rattle.judges.specs.Tests.{test_of}

-- ---- the SSYBs of a sequence

-- the pack of SSYB k agrees
unfoldable pub agrees_at : System → Pack → Pack → Bool → List ℕ → ℕ → Bool
agrees_at y time group first part k = pack_agrees y time group (kind_of first k) (ssyb_in k part)

module _ (y : System) (time group : Pack) (first : Bool) (part : List ℕ) (good : Bool) where
  pub ssyb_turn : (k : ℕ) (kind : SubcodePack) (x : Bool) → good ≡ below (agrees_at y time group first part) k → kind ≡ kind_of first k → x ≡ pack_agrees y time group kind (ssyb_in k part)
      → (x && good) ≡ below (agrees_at y time group first part) (k + 1)
  unfolding agrees_at
  ssyb_turn k kind x so_far ek ex =
      let here : x ≡ agrees_at y time group first part k = ex ∙ rw ek refl in
      rw (here, so_far) (below_more (agrees_at y time group first part) k)

  pub ssyb_done : (k q s : ℕ) → good ≡ below (agrees_at y time group first part) k → k ≡ 12 → first ≡ ltb q s → s ≡ half_of y → good ≡ subcode_agrees y time group q part
  unfolding agrees_at subcode_agrees
  ssyb_done k q s so_far all ef es = so_far ∙ rw (all, ef, es) refl

-- ---- the sequences of a DIF channel

pub start_holds : (y : System) (frame : List ℕ) (h q : ℕ) (test : ℕ → List ℕ → Bool) → true ≡ every_from y frame h q 0 test
unfolding every_from
start_holds y frame h q test = refl

pub from_turn : (y : System) (frame : List ℕ) (test : Test) (h q r : ℕ) (good : Bool) (part : List ℕ) (x : Bool) → good ≡ every_from y frame h q r (test_of y test)
    → part ≡ sequence_at y frame h (q + r) → x ≡ test_of y test (q + r) part → (x && good) ≡ every_from y frame h q (r + 1) (test_of y test)
unfolding every_from
from_turn y frame test h q r good part x so_far s ex =
    let here = ex ∙ ap (test_of y test (q + r)) s in
    rw (here, so_far) (below_more _ r)

-- ---- the DIF channels

-- every sequence of DIF channel h passes
unfoldable pub every_in : System → List ℕ → Test → ℕ → Bool
every_in y frame test h = every_from y frame h 0 (sequences_of y) (test_of y test)

module _ (y : System) (frame : List ℕ) (test : Test) (good : Bool) where
  pub channel_turn : (h n : ℕ) (x : Bool) → good ≡ below (every_in y frame test) h → n ≡ sequences_of y → x ≡ every_from y frame h 0 n (test_of y test)
      → (x && good) ≡ below (every_in y frame test) (h + 1)
  unfolding every_in
  channel_turn h n x so_far en ex =
      let here : x ≡ every_in y frame test h = ex ∙ rw en refl in
      rw (here, so_far) (below_more (every_in y frame test) h)

  pub channels_done : (h : ℕ) → good ≡ below (every_in y frame test) h → h ≡ 4 → good ≡ every_sequence y frame (test_of y test)
  unfolding every_in every_sequence
  channels_done h so_far all = so_far ∙ rw all refl

-- ---- the half of an audio channel

pub half_asked : (y : System) (c q s : ℕ) → FirstInHalf y c q → s ≡ half_of y → SequencesAsked q s
half_asked y c q s f e = record { first = omega (arith, f.few); few = omega (arith, e, half_twice y, sequences_le y) }

pub half_done : (y : System) (frame : List ℕ) (test : Test) (c q h s : ℕ) (x : Bool) → FirstInHalf y c q → h ≡ dif_of c → s ≡ half_of y → x ≡ every_from y frame h q s (test_of y test) → x ≡ every_in_half y frame c (test_of y test)
half_done y frame test c q h s x f eh es ex = ex ∙ rw (f.is, eh, es) refl
