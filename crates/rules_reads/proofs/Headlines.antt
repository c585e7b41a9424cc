-- What an edit of this crate's definitions is refused by: what the promises ask of the strict reads. Assumes nothing.
use mathlib.Core.List.{List}
use Prim.Native.Nat.{ℕ}
use lib.IntN.{ℤ}
use Rattle.paper.specs.declared.Part.{Part}
use Rattle.rules_reads.specs.Macroblock.{MacroblockLies, MacroblockNumbered, MacroblockRead}
use Rattle.promises.specs.Demand2.{MacroblockOut, Strict, ReadOut}
use Rattle.rules_reads.specs.Strict.{StrictlyRead}
use Rattle.rules_reads.proofs.ReadingOut.{macroblock_out, read_out, strict_five, five_strict}
use Rattle.promises.specs.Demand1.{CheckAnswers, AudioAnswers, MacroblockAnswers, MacroblockAtAnswers, TimeAnswers}
use Rattle.rules_reads.specs.Check.{Checked}
use Rattle.rules_reads.specs.Audio.{AudioRead}
use Rattle.rules_reads.specs.Time.{TimeRead}
use Rattle.rules_reads.proofs.Answering

-- ---- 1: one outcome, the number of document 01's table, a refusal that writes nothing

pub check_answers : CheckAnswers Checked
check_answers = Answering.check_answers

pub audio_answers : AudioAnswers AudioRead
audio_answers = Answering.audio_answers

pub macroblock_answers : MacroblockAnswers MacroblockNumbered MacroblockRead
macroblock_answers = Answering.macroblock_answers

pub macroblock_at_answers : MacroblockAtAnswers MacroblockLies
macroblock_at_answers = Answering.macroblock_at_answers

pub time_answers : TimeAnswers TimeRead
time_answers = Answering.time_answers

-- ---- 2: what is read of any frame

pub macroblocks_out : {k : ℕ} {f : List ℕ} {b : ℕ} {r : Part} → MacroblockLies k f b r → MacroblockOut k f b r
macroblocks_out = macroblock_out

pub reads_out : {k : ℕ} {f : List ℕ} {c : ℕ} {samples : List ℤ} {b : ℕ} {o : Strict} → StrictlyRead k f c samples b o → ReadOut k f c samples b o
reads_out = read_out

-- the reads of one frame together are the five contracts, and no more
pub strictly : {k : ℕ} {f : List ℕ} {c : ℕ} {samples : List ℤ} {b : ℕ} {o : Strict} → StrictlyRead k f c samples b o
    → Checked k f o.check × AudioRead k f c samples o.audio o.samples × MacroblockNumbered k f b o.number × MacroblockRead k f b o.part
    × TimeRead k f o.time
strictly = strict_five

pub strictly_all : {k : ℕ} {f : List ℕ} {c : ℕ} {samples : List ℤ} {b : ℕ} {o : Strict} → Checked k f o.check
    → AudioRead k f c samples o.audio o.samples → MacroblockNumbered k f b o.number → MacroblockRead k f b o.part → TimeRead k f o.time
    → StrictlyRead k f c samples b o
strictly_all = five_strict
