-- What workers answer: the result of each input, and the entries of all results.
use Rattle.std.specs.Prelude.{◌≡◌, ◌≢◌, ◌⊎◌, ◌<◌, ◌≤◌, ◌^◌, ℕ, suc, ◌++◌, List, [], ◌∷◌, Option, None, Some, Result, Ok, Err, length, map, slice_get, take}
use Rattle.std.specs.List.{AllByRecursion, AllZip}
use Rattle.std.specs.List.Sorted.{IsPermutation}
use denote.Bor.{Bor}
use Rattle.tca_report.specs.report.Reports.{PacketReport}
use Rattle.tca_report.specs.input.Inputs.{InputView, input_view, read_input}
use Rattle.tca_report.specs.input.Gathered.{gathered_of}
use Rattle.tca_report.specs.input.Wants.{WantsMemory}
use Rattle.tca_report.specs.declared.input.Input.{Input}
use Rattle.tca_report.specs.declared.input.InputFault.{InputFault}
use Rattle.tca_report.specs.declared.input.InputFault.TheVariants.{Memory}
use Rattle.tca_report.specs.declared.input.Notes.{Notes}
use Rattle.tca_ingest.specs.Entries.{EntryView, pass_of}
use Rattle.tca_ingest.specs.EntryViews.{entry_view, entry_views}
use Rattle.tca_ingest.specs.Passes.{PassView}
use Rattle.tca_ingest.specs.Shares.{IsNoted, IsTake}
use Rattle.tca_ingest.specs.declared.entry.Entry.{Entry}
use Rattle.tca_ingest.specs.declared.entry.Receipt.{Receipt}
use Rattle.tca_ingest.specs.declared.fault.ShareFault.TheVariants.{PassesOut}
use Rattle.tca_ingest.specs.declared.fault.WorkFault.{WorkFault}
use Rattle.tca_ingest.specs.declared.fault.WorkFault.TheVariants as fault
use Rattle.tca_ingest.specs.declared.job.JobFault.{JobFault}
use Rattle.tca_ingest.specs.declared.job.JobFault.TheVariants as job
use Rattle.tca_ingest.specs.declared.job.Done.{Done}

-- what an input holds: its reports and the notes that go with them, or why it is refused
abbrev pub contents_of : InputView → Result (List PacketReport × Notes) InputFault
contents_of input = gathered_of (read_input input)

-- a receipt of a call that a pass made: the entry stands at the end of the list of the pass, and the journal had at least as many
-- entries, with this one, as that list
abbrev pub IsReceipt : Receipt → Type 0
IsReceipt r = (mine : PassView) × (mine' : PassView) × IsNoted mine mine' (entry_view r.entry) r.front

-- An input that is read was given to one take, whose entry lists the first of its reports, all where it did not stop; its notes come
-- with it, and the receipt is of a call that was noted. An input that is refused is refused for what is wrong with it, or for want of
-- memory where all before that is right, and nothing is taken. A replica refuses a take only of an input that is read, and never for
-- want of passes.
abbrev pub IsResult : InputView → Result (Notes × Receipt) JobFault → Type 0
IsResult input (Ok r) = (reports : List PacketReport) × (contents_of input ≡ Ok (reports, r.0)) × ((pass : ℕ) × IsTake reports pass (entry_view r.1.entry)) × IsReceipt r.1
IsResult input (Err (job.Input fault)) = (fault ≢ Memory → contents_of input ≡ Err fault) × (fault ≡ Memory → WantsMemory input)
IsResult input (Err (job.Share fault)) = (fault ≢ PassesOut) × ((reports : List PacketReport) × (notes : Notes) × (contents_of input ≡ Ok (reports, notes)))

-- the result of a job: the input and what came of it
pub record ResultView : Type 0 where
  pub job : ℕ
  pub input : InputView
  pub result : Result (Notes × Receipt) JobFault

-- a place for the result of a job
abbrev pub Place : Type 0
Place = Option (Result (Notes × Receipt) JobFault)

-- a place that has a result has one of its input
abbrev pub IsResultAt : InputView → Place → Type 0
IsResultAt input None = Unit {0}
IsResultAt input (Some result) = IsResult input result

abbrev pub AreResultsAt : List (Bor Input) → List Place → Type 0
AreResultsAt inputs places = AllZip (λ input place. IsResultAt (input_view input.now) place) inputs places

-- each input has its result, in order; the inputs may be borrowed
abbrev pub AreLentResults : List (Bor Input) → List Done → Type 0
AreLentResults inputs done = AllZip (λ input d. IsResult (input_view input.now) d.result) inputs done

abbrev pub AreResults : List Input → List Done → Type 0
AreResults inputs done = AllZip (λ input d. IsResult (input_view input) d.result) inputs done

-- the results have the numbers of their jobs, in order from this one on
abbrev pub AreNumberedFrom : ℕ → List Done → Type 0
AreNumberedFrom n [] = Unit {0}
AreNumberedFrom n (d ∷ ds) = (d.job ≡ n) × AreNumberedFrom (suc n) ds

abbrev pub AreNumbered : List Done → Type 0
AreNumbered done = AreNumberedFrom 0 done

-- the entry that a result has
abbrev pub entry_in : Result (Notes × Receipt) JobFault → List EntryView
entry_in (Ok r) = entry_view r.1.entry ∷ []
entry_in (Err fault) = []

-- the entries of all results, in order
unfoldable pub entries_in : List Done → List EntryView
entries_in [] = []
entries_in (d ∷ ds) = entry_in d.result ++ entries_in ds

-- the entries of all passes
unfoldable pub all_calls : List PassView → List EntryView
all_calls [] = []
all_calls (p ∷ ps) = p.calls ++ all_calls ps

-- what is left of lists of calls, one list after another
unfoldable pub calls_left : List (Bor (List Entry)) → List EntryView
calls_left [] = []
calls_left (l ∷ ls) = entry_views l.now ++ calls_left ls

-- the calls of each pass have its number
abbrev pub AreOwn : List PassView → Type 0
AreOwn passes = AllByRecursion (λ p. AllByRecursion (λ e. pass_of e ≡ p.number) p.calls) passes

abbrev pub views_of : List (Bor Entry) → List EntryView
views_of es = map (λ e. entry_view e.now) es

-- no calls were made by these passes
abbrev pub AreUnused : List PassView → Type 0
AreUnused passes = AllByRecursion (λ p. p.calls ≡ []) passes

-- What comes back of workers that had room for their passes: one pass for each worker, or, where the replica had no more, those that
-- were made until then, which are fewer and were not used.
abbrev pub AreBackAll : ℕ → WorkFault → List PassView → Type 0
AreBackAll workers (fault.JobMissing job) passes = length passes ≡ workers
AreBackAll workers (fault.Stranger job) passes = length passes ≡ workers
AreBackAll workers fault.NoThread passes = length passes ≡ workers
AreBackAll workers fault.PassesOut passes = (length passes < workers) × AreUnused passes
AreBackAll workers fault.Memory passes = length passes ≡ workers

-- What comes back of a run of workers. Where there was no memory for the run to begin, no pass was made.
abbrev pub AreBack : ℕ → WorkFault → List PassView → Type 0
AreBack workers (fault.JobMissing job) passes = length passes ≡ workers
AreBack workers (fault.Stranger job) passes = length passes ≡ workers
AreBack workers fault.NoThread passes = length passes ≡ workers
AreBack workers fault.PassesOut passes = (length passes < workers) × AreUnused passes
AreBack workers fault.Memory passes = (passes ≡ []) ⊎ (length passes ≡ workers)

-- a result for which there is no place: its job is that of no input, has a result already, or is that of another input
abbrev pub HasNoPlace : List (Bor Input) → List Place → ResultView → Type 0
HasNoPlace inputs places r =
    (length inputs ≤ r.job)
    ⊎ (((result : Result (Notes × Receipt) JobFault) × (slice_get places r.job ≡ Some (Some result)))
    ⊎ ((input : Bor Input) × (slice_get inputs r.job ≡ Some input) × (input_view input.now ≢ r.input)))

-- the least job that has no result
pub record IsWithoutResult (places : List Place) (job : ℕ) : Type 0 where
  pub here : slice_get places job ≡ Some None
  pub before : AllByRecursion (λ place. place ≢ None) (take job places)

-- why places are refused: the least one that is empty is named, or memory was wanting
abbrev pub IsPlaceFault : List Place → WorkFault → Type 0
IsPlaceFault places (fault.JobMissing job) = IsWithoutResult places job
IsPlaceFault places (fault.Stranger job) = ⊥
IsPlaceFault places fault.NoThread = ⊥
IsPlaceFault places fault.PassesOut = ⊥
IsPlaceFault places fault.Memory = Unit {0}

-- a job that is said to be without a result is one of the jobs
abbrev pub IsOfJobs : ℕ → WorkFault → Type 0
IsOfJobs count (fault.JobMissing job) = job < count
IsOfJobs count (fault.Stranger job) = Unit {0}
IsOfJobs count fault.NoThread = Unit {0}
IsOfJobs count fault.PassesOut = Unit {0}
IsOfJobs count fault.Memory = Unit {0}

-- a result has an entry that isn't among these
pub record IsLackedBy (left : List EntryView) (result : Result (Notes × Receipt) JobFault) : Type 0 where
  pub entry : EntryView
  pub its : entry_in result ≡ entry ∷ []
  pub lacks : AllByRecursion (λ e. e ≢ entry) left

-- The passes have the entries of all results before this one, each as often, and not its entry once more: it isn't among what is left
-- of their lists without those.
pub record IsLacking (done : List Done) (passes : List PassView) (job : ℕ) : Type 0 where
  pub one : Done
  pub at : slice_get done job ≡ Some one
  pub left : List EntryView
  pub others : IsPermutation (entries_in (take job done) ++ left) (all_calls passes)
  pub lacks : IsLackedBy left one.result

-- the passes have the entries of all results, each as often, and one more at least
pub record HaveMore (done : List Done) (passes : List PassView) : Type 0 where
  pub first : EntryView
  pub left : List EntryView
  pub others : IsPermutation (entries_in done ++ first ∷ left) (all_calls passes)

-- why passes don't have just the entries of the results: the least job whose entry they lack is named, else the number of jobs, which
-- are fewer than 2^32
abbrev pub IsEntriesFault : List Done → List PassView → WorkFault → Type 0
IsEntriesFault done passes (fault.JobMissing job) = ⊥
IsEntriesFault done passes (fault.Stranger job) = length done < 2 ^ 32 → IsLacking done passes job ⊎ ((job ≡ length done) × HaveMore done passes)
IsEntriesFault done passes fault.NoThread = ⊥
IsEntriesFault done passes fault.PassesOut = ⊥
IsEntriesFault done passes fault.Memory = Unit {0}
