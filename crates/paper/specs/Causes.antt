-- Document 01's numbers for the causes of a refusal, by which the code's answers are what the refusal tables say.
use Rattle.std.specs.Prelude.{ℕ, Result, Ok, Err}
use Rattle.paper.specs.declared.Cause.{Cause}
use Rattle.paper.specs.declared.Cause.TheVariants.{NoSystem, FrameLength, OutsideSystem, LentLength, ReservedSection, OtherSection, OtherChannel, OtherDseq, OtherDbn}
use Rattle.paper.specs.declared.Cause.TheVariants.{DsfDisagrees, VsDisagrees, Flagged, AsBreaksRules, AsDiffers, SubcodeBreaksRules, SubcodeDiffers}
use Rattle.paper.specs.declared.Cause.TheVariants.{NotTheCount, NoSample, TimeBreaksRules, Unrecorded}

-- "Refusal numbers and their order", with 29 and 33 of the later requests
abbrev pub cause_number : Cause → ℕ
cause_number NoSystem = 1
cause_number FrameLength = 2
cause_number OutsideSystem = 3
cause_number LentLength = 4
cause_number ReservedSection = 11
cause_number OtherSection = 12
cause_number OtherChannel = 13
cause_number OtherDseq = 14
cause_number OtherDbn = 15
cause_number DsfDisagrees = 21
cause_number VsDisagrees = 22
cause_number Flagged = 23
cause_number AsBreaksRules = 24
cause_number AsDiffers = 25
cause_number SubcodeBreaksRules = 26
cause_number SubcodeDiffers = 27
cause_number NotTheCount = 29
cause_number NoSample = 31
cause_number TimeBreaksRules = 32
cause_number Unrecorded = 33

-- "A call that succeeds answers number 0."
abbrev pub number_said : {A : Type 0} → Result A Cause → ℕ
number_said (Ok _) = 0
number_said (Err cause) = cause_number cause
