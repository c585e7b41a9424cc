-- The strict reads of one frame together: the check, audio channel c, macroblock b, the time code.
use Rattle.std.specs.Prelude.{List, ℕ, ℤ}
use Rattle.promises.specs.Demand2.{Strict}
use Rattle.rules_reads.specs.Check.{Checked}
use Rattle.rules_reads.specs.Audio.{AudioRead}
use Rattle.rules_reads.specs.Macroblock.{MacroblockNumbered, MacroblockRead}
use Rattle.rules_reads.specs.Time.{TimeRead}

-- an answer that their contracts allow; samples is what is lent for the channel
pub record StrictlyRead (k : ℕ) (f : List ℕ) (c : ℕ) (samples : List ℤ) (b : ℕ) (o : Strict) : Type 0 where
  pub check : Checked k f o.check
  pub audio : AudioRead k f c samples o.audio o.samples
  pub number : MacroblockNumbered k f b o.number
  pub part : MacroblockRead k f b o.part
  pub time : TimeRead k f o.time
