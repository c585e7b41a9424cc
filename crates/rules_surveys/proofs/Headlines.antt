-- What an edit of this crate's definitions is refused by: what the promises ask of the ID read, the surveys, the block view and salvage. Assumes nothing.
use mathlib.Core.Path.{◌≡◌}
use mathlib.Core.List.{List, ◌++◌}
use Prim.Native.Nat.{ℕ, ◌+◌, ◌*◌}
use lib.IntN.{ℤ}
use Rattle.paper.specs.declared.Place.{Place}
use Rattle.paper.specs.declared.IdAnswer.{IdAnswer}
use Rattle.paper.specs.declared.IdValues.{IdValues}
use Rattle.paper.specs.declared.Part.{Part}
use Rattle.paper.specs.declared.Survey.{Survey}
use Rattle.paper.specs.declared.Fault.{Fault}
use Rattle.rules_surveys.specs.FaultLists.{frame_faults, unnamed, failing}
use Rattle.rules_surveys.proofs.FaultLists.{faults_stream, faults_total}
use Rattle.rules_format.specs.Stream.{named, blocks_in}
use Rattle.paper.specs.declared.System.{System}
use lib.ListN.{length}
use Rattle.rules_surveys.specs.Records.{after}
use Rattle.rules_surveys.specs.Noting.{Noted}
use Rattle.rules_surveys.proofs.Records.{noted_after, noted_append}
use Rattle.rules_surveys.specs.ReadId.{IdRead, IdSaid}
use Rattle.rules_surveys.specs.Survey.{FrameSurveyed, SequenceSurveyed}
use Rattle.rules_surveys.specs.View.{ViewNumbered, Viewed, ViewLies}
use Rattle.rules_surveys.specs.Salvage.{Salvaged}
use Rattle.paper.specs.Paper.{sequences}
use Rattle.promises.specs.Demand2.{IdOut, ViewOut}
use Rattle.promises.specs.Demand3.{Listed, SalvageOut}
use Rattle.rules_surveys.proofs.ReadingOut.{id_out, view_out}
use Rattle.rules_surveys.proofs.Listing.{survey_listed, sequence_listed, salvage_listed}
use Rattle.promises.specs.Demand1.{ReadIdAnswers, IdValuesAnswers, SurveyAnswers, SequenceAnswers, ViewAnswers, ViewAtAnswers, SalvageAnswers}
use Rattle.rules_surveys.proofs.Answering
use Rattle.rules_surveys.proofs.Salvaging.{salvage_out}

-- ---- 1: one outcome, the number of document 01's table, a refusal that writes nothing

pub read_id_answers : ReadIdAnswers IdRead
read_id_answers = Answering.read_id_answers

pub id_values_answers : IdValuesAnswers IdSaid
id_values_answers = Answering.id_values_answers

pub survey_answers : SurveyAnswers FrameSurveyed
survey_answers = Answering.survey_answers

pub sequence_answers : SequenceAnswers SequenceSurveyed
sequence_answers = Answering.sequence_answers

pub view_answers : ViewAnswers ViewNumbered Viewed
view_answers = Answering.view_answers

pub view_at_answers : ViewAtAnswers ViewLies
view_at_answers = Answering.view_at_answers

pub salvage_answers : SalvageAnswers Salvaged
salvage_answers = Answering.salvage_answers

-- ---- 2: IDs and block views

pub ids_out : {id : List ℕ} {o : IdAnswer} {v : IdValues} → IdRead id o → IdSaid id v → IdOut id o v
ids_out = id_out

pub views_out : {k : ℕ} {f : List ℕ} {h q : ℕ} {p : Place} {number : ℕ} {part : List ℕ} {r : Part} → ViewNumbered k f h q p number
    → Viewed k f h q p part → ViewLies k f h q p r → ViewOut k f h q p number part r
views_out = view_out

-- ---- 3: the fault list, and what is salvaged of any frame

pub surveys_listed : (k : ℕ) {frame list list' : List ℕ} {r : Survey} → FrameSurveyed k frame list r list' → r.number ≡ 0
    → Listed (sequences k) frame 0 (600 * sequences k) list r list'
surveys_listed = survey_listed

pub sequences_listed : (k h q : ℕ) {sequence list list' : List ℕ} {r : Survey} → SequenceSurveyed k h q sequence list r list' → r.number ≡ 0
    → Listed (sequences k) sequence ((sequences k * h + q) * 150) 150 list r list'
sequences_listed = sequence_listed

pub salvages_listed : (k : ℕ) {frame : List ℕ} {samples samples' : List ℤ} {list list' : List ℕ} {r : Survey} → Salvaged k frame samples list r samples' list'
    → r.number ≡ 0 → Listed (sequences k) frame 0 (600 * sequences k) list r list'
salvages_listed = salvage_listed

pub salvages_out : (k : ℕ) {frame : List ℕ} {samples samples' : List ℤ} {list list' : List ℕ} {r : Survey} → Salvaged k frame samples list r samples' list'
    → r.number ≡ 0 → SalvageOut k frame samples'
salvages_out = salvage_out

-- ---- the faults of a frame by the number of a block in the stream

pub in_stream : (y : System) (frame : List ℕ) → frame_faults y frame ≡ unnamed y frame (blocks_in y)
in_stream = faults_stream

pub in_total : (y : System) (frame : List ℕ) → length (frame_faults y frame) ≡ failing (named y frame) (blocks_in y)
in_total = faults_total

-- ---- the list as a loop leaves it: from the start what the paper says at once, and further on as if it had not stopped

pub noted_listed : {list list' : List ℕ} {fs : List Fault} {r : ℕ} → Noted list 0 fs list' r → (r ≡ length fs) × (list' ≡ after list fs)
noted_listed = noted_after

pub noted_on : {list list' list'' : List ℕ} {t r s : ℕ} {fs gs : List Fault} → Noted list t fs list' r → Noted list' r gs list'' s → Noted list t (fs ++ gs) list'' s
noted_on = noted_append
