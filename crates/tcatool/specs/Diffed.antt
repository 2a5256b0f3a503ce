-- What the command `diff` writes and answers, and what it is refused for.
use Rattle.std.specs.Prelude.{◌≡◌, ◌⊎◌, ◌==◌, ◌++◌, ℕ, true, false, ◌&&◌, not, List, [], ◌∷◌, length, filter, map, codes, Option, Some, None, Result, Ok, IsOk, if◌then◌else◌}
use Rattle.std.specs.Fmt.{decimal}
use Rattle.tca_join.specs.Sets.{has, in_order}
use Rattle.tca_join.specs.Results.{◌>>=◌}
use Rattle.tca_report.specs.report.Reports.{PacketReport, report_cmp}
use Rattle.tca_report.specs.input.Inputs.{InputView, read_input}
use Rattle.tca_program.specs.declared.fault.RunFault.{RunFault}
use Rattle.tca_program.specs.Devices.{Device, IsCutOff, Receives}
use Rattle.tca_program.specs.Outcomes.{IsCommandRefused}
use Rattle.tca_program.specs.Unions.{HoldsReports, IsRefusedAs, MayLackMemory, is_log_memory, is_memory, is_write, with_input}
use Rattle.tcatool.specs.Csv.{csv_line, csv_text}
use Rattle.tcatool.specs.ReportLines.{report_fields}
use Rattle.tcatool.specs.declared.diff.Differences.{Differences}
use Rattle.tcatool.specs.declared.diff.LoneReport.{LoneReport}
use Rattle.tcatool.specs.declared.diff.Side.{Side}
use Rattle.tcatool.specs.declared.diff.Side.TheVariants.{A, B}

-- the reports that an input holds, as a set
abbrev pub IsSetOf : InputView → List PacketReport → Type 0
IsSetOf input set = (rs : List PacketReport) × HoldsReports input rs × (set ≡ in_order report_cmp rs)

-- the reports that one of two sets has, or both, each once and in order
abbrev pub both_sets : List PacketReport → List PacketReport → List PacketReport
both_sets a b = in_order report_cmp (a ++ b)

-- those of them that the first set alone has, that the second alone has, and that both have
abbrev pub only_first : List PacketReport → List PacketReport → List PacketReport
only_first a b = filter (λ r. has report_cmp a r && not (has report_cmp b r)) (both_sets a b)

abbrev pub only_second : List PacketReport → List PacketReport → List PacketReport
only_second a b = filter (λ r. not (has report_cmp a r)) (both_sets a b)

abbrev pub shared : List PacketReport → List PacketReport → List PacketReport
shared a b = filter (λ r. has report_cmp a r && has report_cmp b r) (both_sets a b)

-- a report with the side that has it, where just one does
abbrev pub sided : List PacketReport → PacketReport → LoneReport
sided a r = record { side = if has report_cmp a r then A else B; report = r }

-- the reports that just one of two sets has, in order, each with its side
abbrev pub lone : List PacketReport → List PacketReport → List LoneReport
lone a b = map (sided a) (filter (λ r. not (has report_cmp a r && has report_cmp b r)) (both_sets a b))

-- how many there are of each kind
abbrev pub differences_of : List PacketReport → List PacketReport → Differences
differences_of a b = record { only_a = length (only_first a b); only_b = length (only_second a b); both = length (shared a b) }

abbrev pub side_name : Side → List ℕ
side_name A = codes "A"
side_name B = codes "B"

abbrev pub diff_header : List ℕ
diff_header = codes "side,time,domain,session,place,octets,dscp,interface\n"

-- the line of a report: the side that has it, and its fields
abbrev pub diff_line : LoneReport → List ℕ
diff_line x = csv_line (side_name x.side ∷ report_fields x.report)

abbrev pub diff_text : List PacketReport → List PacketReport → List ℕ
diff_text a b = csv_text diff_header diff_line (lone a b)

-- the line on standard error
abbrev pub differences_line : Differences → List ℕ
differences_line d =
    codes "tcatool: diff: only A " ++ (decimal d.only_a ++ (codes ", only B " ++ (decimal d.only_b ++ (codes ", both " ++ (decimal d.both ++ codes "\n")))))

-- the exit status: 0 where no report differs, else 1
abbrev pub difference_status : Differences → ℕ
difference_status d = if (d.only_a == 0) && (d.only_b == 0) then 0 else 1

-- the sets of both inputs, or the first refusal: the first input's, number 0, before the second's, number 1
abbrev pub compared : InputView → InputView → Result (List PacketReport × List PacketReport) RunFault
compared a b = with_input 0 [] (read_input a) >>= (λ first. with_input 1 [] (read_input b) >>= (λ second. Ok (first, second)))

-- What two inputs differ in: the reports that just one of them has, and how many there are of each kind.
pub record IsDifference (a b : InputView) (rows : List LoneReport) (counts : Differences) : Type 0 where
  pub first : List PacketReport
  pub first_is : IsSetOf a first
  pub second : List PacketReport
  pub second_is : IsSetOf b second
  pub due : compared a b ≡ Ok (first, second)
  pub rows_are : rows ≡ lone first second
  pub counts_are : counts ≡ differences_of first second

-- Both inputs are log exports or captures, the reports that just one of them has were written, and the answer is how many there are.
pub record IsDiffDone (a b : InputView) (old new : Device) (answer : Differences) : Type 0 where
  pub first : List PacketReport
  pub first_is : IsSetOf a first
  pub second : List PacketReport
  pub second_is : IsSetOf b second
  pub written : Receives (diff_text first second) old new
  pub counts : answer ≡ differences_of first second

-- Of the lines only a part went out.
pub record IsDiffCutOff (a b : InputView) (old new : Device) : Type 0 where
  pub sets : List PacketReport × List PacketReport
  pub due : compared a b ≡ Ok sets
  pub part : IsCutOff (diff_text sets.0 sets.1) old new

-- Want of memory comes behind each fault of the input that stands before it, and behind a log that is full.
pub record IsInOwnTurn (n : ℕ) (input : InputView) (e : RunFault) : Type 0 where
  pub log_memory : is_log_memory e ≡ true → IsOk (with_input n [] (read_input input))
  pub memory_last : is_memory e ≡ true → MayLackMemory input

-- A refusal of the second input comes where the first was taken, and one that names none where both were.
abbrev pub IsInTurnOfTwo : InputView → InputView → RunFault → Option ℕ → Type 0
IsInTurnOfTwo a b e None = IsOk (compared a b)
IsInTurnOfTwo a b e (Some n) = ((n ≡ 0) × IsInOwnTurn 0 a e) ⊎ ((n ≡ 1) × IsOk (with_input 0 [] (read_input a)) × IsInOwnTurn 1 b e)

-- Why nothing is compared: the first refusal that is due, unless memory ran out, and no failed write.
pub record IsComparingRefused (a b : InputView) (e : RunFault) : Type 0 where
  pub due : IsRefusedAs e (compared a b)
  pub turn : IsInTurnOfTwo a b e e.input
  pub no_write : is_write e ≡ false

-- what a refusal is, and what it leaves of the device
abbrev pub IsDiffRefused : InputView → InputView → Device → Device → RunFault → Type 0
IsDiffRefused a b = IsCommandRefused (IsComparingRefused a b) (IsDiffCutOff a b)
