-- What the command `bill` is refused for where replicas and workers read the inputs.
use Rattle.std.specs.Prelude.{◌≡◌, ◌≢◌, ◌≤◌, ◌<◌, ◌⊎◌, ℕ, ◌+◌, ◌*◌, ◌%◌, ◌==◌, List, length, map, take, Option, Some, None, Result, Ok, Err, IsOk, slice_get}
use Rattle.std.specs.Borrow.{Bor}
use Rattle.std.specs.List.{AllByRecursion, enumerate_from, filter, zip}
use Rattle.tca_report.specs.report.Reports.{PacketReport}
use Rattle.tca_report.specs.input.Inputs.{InputView, input_view, read_input}
use Rattle.tca_report.specs.declared.input.Input.{Input}
use Rattle.tca_report.specs.input.Wants.{WantsMemory}
use Rattle.tca_report.specs.declared.input.InputFault.{InputFault}
use Rattle.tca_report.specs.declared.input.InputFault.TheVariants.{Memory}
use Rattle.tca_report.specs.declared.input.Notes.{Notes}
use Rattle.tca_accounts.specs.Plans.{AccountPlan}
use Rattle.tca_ingest.specs.Entries.{EntryView, Took}
use Rattle.tca_ingest.specs.EntryViews.{entry_view}
use Rattle.tca_gossip.specs.Answers.{absorb_number}
use Rattle.tca_gossip.specs.declared.fault.AbsorbFault.{AbsorbFault}
use Rattle.tca_ingest.specs.Faults.{close_number, share_number, work_number}
use Rattle.tca_ingest.specs.declared.entry.Receipt.{Receipt}
use Rattle.tca_ingest.specs.declared.job.Done.{Done}
use Rattle.tca_ingest.specs.declared.fault.CloseFault.{CloseFault}
use Rattle.tca_ingest.specs.declared.fault.WorkFault.{WorkFault}
use Rattle.tca_ingest.specs.declared.fault.ShareFault.{ShareFault}
use Rattle.tca_ingest.specs.declared.fault.ShareFault.TheVariants.{PassesOut}
use Rattle.tca_ingest.specs.declared.job.JobFault.{JobFault}
use Rattle.tca_ingest.specs.declared.job.JobFault.TheVariants as job
use Rattle.tca_log.specs.Faults.{fault_number}
use Rattle.tca_log.specs.declared.fault.LogFault.{LogFault}
use Rattle.tca_program.specs.declared.fault.RunFault.{RunFault}
use Rattle.tca_program.specs.declared.fault.Family.{Family}
use Rattle.tca_program.specs.declared.fault.Family.TheVariants as family
use Rattle.tca_program.specs.Planned.{IsPlanRefused}
use Rattle.tca_commands.specs.Billed.{IsBillCutOff}
use Rattle.tca_commands.specs.Commands.{most_billed, most_replicas, most_workers}
use Rattle.tca_program.specs.Devices.{Device}
use Rattle.tca_program.specs.Outcomes.{IsCommandRefused, outlets}
use Rattle.tca_program.specs.Noted.{AreNotes}
use Rattle.tca_program.specs.Unions.{HoldReports, input_refusal, memory_refusal, refusal}
use Rattle.tca_accounts.specs.Documents.{IsPlanOf}

-- how many replicas, workers of each and inputs there may be
pub record IsWithinLimits (replicas workers inputs : ℕ) : Type 0 where
  pub a_replica : 1 ≤ replicas
  pub few_replicas : replicas ≤ most_replicas
  pub a_worker : 1 ≤ workers
  pub few_workers : workers ≤ most_workers
  pub an_input : 1 ≤ inputs
  pub few_inputs : inputs ≤ most_billed

-- an input, and what came of it
pub record AnswerView : Type 0 where
  pub input : InputView
  pub result : Result (Notes × Receipt) JobFault

-- of inputs in order those whose numbers, counted from 0, leave this remainder
unfoldable pub share_of : (remainder divisor : ℕ) → List InputView → List InputView
share_of remainder divisor inputs = map (λ p. p.1) (filter (λ p. p.0 % divisor == remainder) (enumerate_from 0 inputs))

-- what came of each input of a share
unfoldable pub answers_of : List (Bor Input) → List Done → List AnswerView
answers_of inputs done = map (λ p. record { input = input_view p.0.now; result = p.1.result }) (zip inputs done)

-- Answers put at places: the first at one, each other one so many places after the one before it. Of all other places nothing changes.
pub record ArePut (first step : ℕ) (answers : List AnswerView) (old new : List (Option AnswerView)) : Type 0 where
  pub many : length new ≡ length old
  pub put : (k : ℕ) → k < length answers → slice_get new (first + k * step) ≡ Some (slice_get answers k)
  pub others : (place : ℕ) → ((k : ℕ) → k < length answers → place ≢ first + k * step) → slice_get new place ≡ slice_get old place

-- each input was read: these are the inputs' notes, and each holds the reports beside it
pub record AreRead (inputs : List InputView) (notes : List Notes) (lists : List (List PacketReport)) : Type 0 where
  pub noted : AreNotes inputs notes
  pub hold : HoldReports inputs lists

-- the numbers of each family that blames no input while replicas read the inputs: those of a call on a replica, of its workers, of
-- replicas that don't close or don't agree, and of want of memory
abbrev pub IsReadingNumber : Family → ℕ → Type 0
IsReadingNumber family.Share number = (fault : ShareFault) × (number ≡ share_number fault)
IsReadingNumber family.Work number = (fault : WorkFault) × (number ≡ work_number fault)
IsReadingNumber family.Close number = (fault : CloseFault) × (number ≡ close_number fault)
IsReadingNumber family.Memory number = number ≡ 1
IsReadingNumber other number = ⊥

-- the same while replicas tell each other what they hold: there are those of a replica that doesn't absorb, too
abbrev pub IsExchangeNumber : Family → ℕ → Type 0
IsExchangeNumber family.Absorb number = (fault : AbsorbFault) × (number ≡ absorb_number fault)
IsExchangeNumber other number = IsReadingNumber other number

-- a refusal of the run, which blames no input
abbrev pub IsExchangeRefused : RunFault → Type 0
IsExchangeRefused e = (e.input ≡ None) × IsExchangeNumber e.family e.number

-- a refusal of the run while its replicas still read the inputs, when none absorbs anything
abbrev pub IsReadingRefused : RunFault → Type 0
IsReadingRefused e = (e.input ≡ None) × IsReadingNumber e.family e.number

-- the refusal of an input whose answer doesn't stand at its place
abbrev pub stranger_refusal : RunFault
stranger_refusal = refusal None family.Work 2

-- a log that has no room, or finds no memory, for the reports of input n
abbrev pub IsLogRefusal : ℕ → RunFault → Type 0
IsLogRefusal n e = (fault : LogFault) × (e ≡ refusal (Some n) family.Log (fault_number fault))

-- a replica that refuses to take input n, which it never does for want of passes
abbrev pub IsShareRefusal : ℕ → RunFault → Type 0
IsShareRefusal n e = (fault : ShareFault) × (fault ≢ PassesOut) × (e ≡ refusal (Some n) family.Share (share_number fault))

-- input n is refused by its own fault, or because it found no memory, where all that stands before is right
abbrev pub IsOwnFault : ℕ → InputView → RunFault → Type 0
IsOwnFault n input e = (fault : InputFault) × (e ≡ input_refusal n fault) × (fault ≢ Memory → read_input input ≡ Err fault) × (fault ≡ Memory → WantsMemory input)

-- input n is read, and its replica didn't take its reports, or not all
abbrev pub IsNotTaken : ℕ → InputView → RunFault → Type 0
IsNotTaken n input e = IsOk (read_input input) × (IsLogRefusal n e ⊎ IsShareRefusal n e)

abbrev pub IsInputFault : ℕ → InputView → RunFault → Type 0
IsInputFault n input e = IsOwnFault n input e ⊎ IsNotTaken n input e

-- the refusal of an entry of input n: that of the log, where it took not all reports
abbrev pub stop_refusal : ℕ → EntryView → Option RunFault
stop_refusal n (Took pass reports fresh (Some fault)) = Some (refusal (Some n) family.Log (fault_number fault))
stop_refusal n other = None

-- the refusal that an answer of input n is, if it is one: by its own fault, by the replica's, or by the log's
abbrev pub refusal_of : ℕ → Result (Notes × Receipt) JobFault → Option RunFault
refusal_of n (Ok r) = stop_refusal n (entry_view r.1.entry)
refusal_of n (Err (job.Input fault)) = Some (input_refusal n fault)
refusal_of n (Err (job.Share fault)) = Some (refusal (Some n) family.Share (share_number fault))

-- at its place the input of this number has this answer
abbrev pub IsAnswerAt : List InputView → List (Option AnswerView) → ℕ → AnswerView → Type 0
IsAnswerAt inputs places n answer = (slice_get places n ≡ Some (Some answer)) × (slice_get inputs n ≡ Some answer.input)

-- at their places the first inputs, so many of them, have their answers, none of which is a refusal
abbrev pub AreAnswered : List InputView → List (Option AnswerView) → ℕ → Type 0
AreAnswered inputs places count = (n : ℕ) → n < count → (answer : AnswerView) × IsAnswerAt inputs places n answer × (refusal_of n answer.result ≡ None)

-- The first refusal in the order of the inputs: the answer of an input is this refusal, and those of all inputs before it are none.
pub record IsFirstRefusal (inputs : List InputView) (places : List (Option AnswerView)) (e : RunFault) : Type 0 where
  pub place : ℕ
  pub answer : AnswerView
  pub here : IsAnswerAt inputs places place answer
  pub told : refusal_of place answer.result ≡ Some e
  pub before : AreAnswered inputs places place

-- A stranger: an input has no answer at its place, which is empty or has that of another input, and the answers of all inputs before it
-- are no refusals.
pub record IsStranger (inputs : List InputView) (places : List (Option AnswerView)) (e : RunFault) : Type 0 where
  pub named : e ≡ stranger_refusal
  pub place : ℕ
  pub inside : place < length inputs
  pub missing : (answer : AnswerView) → IsAnswerAt inputs places place answer → ⊥
  pub before : AreAnswered inputs places place

-- what answers at places are refused for: the first refusal of an input, a stranger, or want of memory
abbrev pub AreAnswersRefused : List InputView → List (Option AnswerView) → RunFault → Type 0
AreAnswersRefused inputs places e = IsFirstRefusal inputs places e ⊎ (IsStranger inputs places e ⊎ (e ≡ memory_refusal))

-- inputs without a fault
abbrev pub AreSound : List InputView → Type 0
AreSound inputs = AllByRecursion (λ input. IsOk (read_input input)) inputs

-- the refusal of an input, before which all inputs are without a fault
pub record IsInputRefused (inputs : List InputView) (e : RunFault) : Type 0 where
  pub place : ℕ
  pub input : InputView
  pub here : slice_get inputs place ≡ Some input
  pub before : AreSound (take place inputs)
  pub why : IsInputFault place input e

-- what replicas and workers refuse: the reading of the inputs; an input; or, where no input has a fault, that the replicas tell each
-- other what they hold
abbrev pub AreReplicasRefused : List InputView → RunFault → Type 0
AreReplicasRefused inputs e = IsReadingRefused e ⊎ (IsInputRefused inputs e ⊎ (AreSound inputs × IsExchangeRefused e))

-- why there is no statement: the plan's refusal, or where the text is a plan that of an input or of the run
abbrev pub IsReplicatedUnmade : List ℕ → List InputView → RunFault → Type 0
IsReplicatedUnmade plan inputs e = IsPlanRefused plan e ⊎ ((p : AccountPlan) × IsPlanOf plan p × AreReplicasRefused inputs e)

-- what a refusal is, and what it leaves of the devices
abbrev pub IsReplicatedRefused : List ℕ → List InputView → (old_export new_export : Option Device) → (old new : Device) → RunFault → Type 0
IsReplicatedRefused plan inputs old_export new_export old new =
    IsCommandRefused (IsReplicatedUnmade plan inputs) (IsBillCutOff plan inputs) (outlets old_export old) (outlets new_export new)
