-- The strict reads of a frame together: some of them given, the others as they are answered. Assumes nothing.
use mathlib.Core.List.{List, []}
use Prim.Native.Nat.{ℕ}
use lib.IntN.{ℤ}
use Rattle.paper.specs.declared.AudioAnswer.{AudioAnswer}
use Rattle.paper.specs.declared.TimeAnswer.{TimeAnswer}
use Rattle.promises.specs.Demand2.{Strict, ReadOut}
use Rattle.rules_reads.specs.Audio.{AudioRead}
use Rattle.rules_reads.specs.Macroblock.{MacroblockNumbered, MacroblockRead}
use Rattle.rules_reads.specs.Time.{TimeRead}
use Rattle.rules_reads.specs.Strict.{StrictlyRead}
use Rattle.rules_reads.proofs.Check.{check_frame_one}
use Rattle.rules_reads.proofs.Audio.{read_audio_one}
use Rattle.rules_reads.proofs.Macroblock.{macroblock_number_one, macroblock_one}
use Rattle.rules_reads.proofs.Time.{read_time_one}
use Rattle.rules_reads.proofs.Headlines as reads

-- beside the check
abbrev pub together : ℕ → List ℕ → AudioAnswer → List ℤ → ℕ → List ℕ → TimeAnswer → Strict
together k f audio heard number part time = record {
  check = (check_frame_one k f).outcome;
  audio = audio;
  samples = heard;
  number = number;
  part = part;
  time = time;
}

module _ {k : ℕ} {f : List ℕ} where
  pub read_together : {c : ℕ} {samples heard : List ℤ} {audio : AudioAnswer} {b number : ℕ} {part : List ℕ} {time : TimeAnswer} → AudioRead k f c samples audio heard
      → MacroblockNumbered k f b number → MacroblockRead k f b part → TimeRead k f time → StrictlyRead k f c samples b (together k f audio heard number part time)
  read_together a n p t = record { check = (check_frame_one k f).meets; audio = a; number = n; part = p; time = t }

  -- an audio read, a macroblock read, a time code read by itself
  module _ {c : ℕ} {samples heard : List ℤ} {audio : AudioAnswer} (read : AudioRead k f c samples audio heard) where
    abbrev beside : Strict
    beside = together k f audio heard (macroblock_number_one k f 0).outcome (macroblock_one k f 0).outcome (read_time_one k f).outcome

    pub audio_beside : StrictlyRead k f c samples 0 beside
    audio_beside = read_together read (macroblock_number_one k f 0).meets (macroblock_one k f 0).meets (read_time_one k f).meets

    pub audio_out : ReadOut k f c samples 0 beside
    audio_out = reads.reads_out audio_beside

  pub picture_out : {b number : ℕ} {part : List ℕ} → MacroblockNumbered k f b number → MacroblockRead k f b part
      → ReadOut k f 1 [] b (together k f (read_audio_one k f 1 []).outcome.0 (read_audio_one k f 1 []).outcome.1 number part (read_time_one k f).outcome)
  picture_out n p = reads.reads_out (read_together (read_audio_one k f 1 []).meets n p (read_time_one k f).meets)

  pub time_out : {time : TimeAnswer} → TimeRead k f time
      → ReadOut k f 1 [] 0 (together k f (read_audio_one k f 1 []).outcome.0 (read_audio_one k f 1 []).outcome.1 (macroblock_number_one k f 0).outcome (macroblock_one k f 0).outcome time)
  time_out t = reads.reads_out (read_together (read_audio_one k f 1 []).meets (macroblock_number_one k f 0).meets (macroblock_one k f 0).meets t)
