-- The workshop of the second demand's writing half: what the writer made is laid out and reads back, and what meets that is its frame. Assumes nothing.
use Rattle.std.specs.Prelude.{Some}
use mathlib.Core.Path.{◌≡◌, sym, ◌∙◌, subst}
use mathlib.Core.List.{List}
use Prim.Native.Nat.{ℕ, ◌<◌}
use native.Mathlib.Omega.{arith}
use lib.IntN.{ℤ}
use lib.ListN.{length}
use Rattle.paper.specs.declared.System.{System}
use Rattle.rules_format.specs.Systems.{system_of}
use Rattle.promises.specs.Contents.{Contents}
use Rattle.rules_writes.specs.Write.{Wrote}
use Rattle.paper.specs.Paper.{positions, macroblocks}
use Rattle.promises.specs.Demand2.{Strict, LaidOut, ReadsBack, WritesBack}
use Rattle.rules_reads.specs.Strict.{StrictlyRead}
use Rattle.rules_format.proofs.Paper.{columns, by_system}
use Rattle.rules_writes.proofs.Write.{write_1, write_takes, write_taken}
use Rattle.kept.proofs.ReadingBack.{reads_back}
use Rattle.promises.proofs.One.{reads_back_one}
use Rattle.rules_writes.proofs.Form.{laid_out}
use Rattle.promises.proofs.LaidOut.{laid_out_one}

module _ {k : ℕ} {l : Contents} {frame f : List ℕ} (wrote : Wrote k l frame 0 f) where
  -- what answers 0 was told a system
  by_wrote : {P : Type 0} → ((y : System) → system_of k ≡ Some y → P) → P
  by_wrote = by_system k (λ none. absurd (omega (arith, wrote.answer, write_1 k l (length frame) none)))

  pub writes_back : WritesBack StrictlyRead k l f
  writes_back =
      by_wrote (λ y known.
      let takes = write_takes k y known l frame wrote in
      let is = sym (write_taken k y known l frame takes wrote).1 in
      let cols = columns k y known in
      record {
        laid_out = subst (LaidOut k l) is (laid_out k y known l (length frame) takes);
        reads_back = λ c samples b o c1 c8 room hb.
            subst (λ (x : List ℕ). StrictlyRead k x c samples b o → ReadsBack l c samples b o) is
            (reads_back y l (length frame) takes k known c samples b o c1 c8 (room ∙ cols.positions_is) (subst (λ (n : ℕ). b < n) cols.macroblocks_is hb));
      })

  -- whatever reads back is what our reads answer
  pub strict_decided : {c : ℕ} {samples : List ℤ} {b : ℕ} {o o' : Strict} → 0 < c → c < 9 → length samples ≡ positions k → b < macroblocks k
      → StrictlyRead k f c samples b o → ReadsBack l c samples b o' → o' ≡ o
  strict_decided c1 c8 room hb read m = reads_back_one m (writes_back.reads_back _ _ _ _ c1 c8 room hb read)

  -- and whatever is laid out so is our frame
  pub frame_decided : {g : List ℕ} → LaidOut k l g → g ≡ f
  frame_decided {g} m = by_wrote (λ y known. laid_out_one k y known l g f m writes_back.laid_out)
