-- Every call of the library, with its contract: what demand 1 asks of a call (`promises`), of each.
use Rattle.rules_surveys.specs.ReadId.{IdRead, IdSaid}
use Rattle.rules_surveys.specs.Survey.{FrameSurveyed, SequenceSurveyed}
use Rattle.rules_surveys.specs.View.{ViewNumbered, Viewed, ViewLies}
use Rattle.rules_reads.specs.Check.{Checked}
use Rattle.rules_reads.specs.Audio.{AudioRead}
use Rattle.rules_reads.specs.Macroblock.{MacroblockNumbered, MacroblockRead, MacroblockLies}
use Rattle.rules_reads.specs.Time.{TimeRead}
use Rattle.rules_surveys.specs.Salvage.{Salvaged}
use Rattle.rules_replaces.specs.Replace.{Replaced}
use Rattle.rules_writes.specs.Write.{Wrote}
use Rattle.promises.specs.Demand1.{ReadIdAnswers, IdValuesAnswers, SurveyAnswers, SequenceAnswers, ViewAnswers, ViewAtAnswers, CheckAnswers, AudioAnswers}
use Rattle.promises.specs.Demand1.{MacroblockAnswers, MacroblockAtAnswers, TimeAnswers, SalvageAnswers, ReplaceAnswers, WriteAnswers}

pub record EveryCall : Type 0 where
  pub read_id : ReadIdAnswers IdRead
  pub id_values : IdValuesAnswers IdSaid
  pub survey : SurveyAnswers FrameSurveyed
  pub survey_sequence : SequenceAnswers SequenceSurveyed
  pub view : ViewAnswers ViewNumbered Viewed
  pub view_at : ViewAtAnswers ViewLies
  pub check_frame : CheckAnswers Checked
  pub read_audio : AudioAnswers AudioRead
  pub macroblock : MacroblockAnswers MacroblockNumbered MacroblockRead
  pub macroblock_at : MacroblockAtAnswers MacroblockLies
  pub read_time : TimeAnswers TimeRead
  pub salvage : SalvageAnswers Salvaged
  pub replace_audio : ReplaceAnswers Replaced
  pub write_frame : WriteAnswers Wrote
