-- The ways out of the refusals, a lemma a row. Assumes nothing.
use Rattle.std.specs.Prelude.{Some}
use mathlib.Core.Path.{◌≡◌, sym, ap, ◌∙◌}
use mathlib.Core.Bool.{Bool, true, false, not}
use Prim.Native.Nat.{ℕ, ◌-◌, ◌*◌}
use lib.Dec.{eqb}
use borrow.Author.Tests.{eq-eqb, not-true, not-false}
use Rattle.base.specs.Calls.{first_of}
use Rattle.paper.specs.declared.System.{System}
use Rattle.paper.specs.declared.Cause.{Cause}
use Rattle.paper.specs.Causes.{cause_number}
use Rattle.layout.specs.Asked.{FrameKnown, frame_rows}
use Rattle.layout.proofs.Refusing.{frame_stops}
use Rattle.paper.specs.declared.Pack.{Pack}
use Rattle.rules_format.specs.Systems.{sequences_of, is_count, system_of}
use Rattle.rules_packs.specs.Packs.{pack_of}
use Rattle.rules_packs.specs.TimeCode.{time_pack, time_taken}
use Rattle.rules_format.specs.Samples.{all_in_range}
use Rattle.promises.specs.Contents.{Contents}
use Rattle.rules_writes.specs.Write.{lengths_ok, write_number}
use Rattle.rules_writes.proofs.Write.{write_3, write_4, write_31, write_32, write_0}

pub write_stops : (k : ℕ) (l : Contents) (size : ℕ) (cause : Cause) → cause_number cause ≡ first_of (frame_rows k size) → cause_number cause ≡ write_number k l size
unfolding write_number
write_stops k l size = frame_stops k size _

module _ (k : ℕ) (l : Contents) (size : ℕ) (y : System) (is : FrameKnown k size y) (counted : Bool) (ec : counted ≡ is_count y l.count) where
  known : system_of k ≡ Some y
  known = is.known

  is_whole : eqb size (48000 * sequences_of y) ≡ true
  is_whole = eq-eqb _ _ is.whole

  pub way_3 : not counted ≡ true → 3 ≡ write_number k l size
  way_3 t = write_3 k _ size y known is_whole (sym ec ∙ not-true _ t)

  module _ (c : not counted ≡ false) (lengths : Bool) (el : lengths ≡ lengths_ok l y) where
    pub way_4 : not lengths ≡ true → 4 ≡ write_number k l size
    way_4 t = write_4 k _ size y known is_whole (sym ec ∙ not-false _ c) (sym el ∙ not-true _ t)

    module _ (d : not lengths ≡ false) (sampled : Bool) (em : sampled ≡ all_in_range l.sound) where
      pub way_31 : not sampled ≡ true → 31 ≡ write_number k l size
      way_31 t = write_31 k _ size y known is_whole (sym ec ∙ not-false _ c) (sym el ∙ not-false _ d) (sym em ∙ not-true _ t)

      module _ (f : not sampled ≡ false) (p : Pack) (timed : Bool) (ep : p ≡ pack_of 19 l.time_code) (et : timed ≡ time_taken y p) where
        is_timed : timed ≡ time_taken y (time_pack l.time_code)
        is_timed = et ∙ ap (time_taken y) ep

        pub way_32 : not timed ≡ true → 32 ≡ write_number k l size
        way_32 t = write_32 k _ size y known is_whole (sym ec ∙ not-false _ c) (sym el ∙ not-false _ d) (sym em ∙ not-false _ f) (sym is_timed ∙ not-true _ t)

        pub way_0 : not timed ≡ false → 0 ≡ write_number k l size
        way_0 t = write_0 k _ size y known is_whole (sym ec ∙ not-false _ c) (sym el ∙ not-false _ d) (sym em ∙ not-false _ f) (sym is_timed ∙ not-false _ t)
