-- What the inputs of a command hold together, and what they are refused for.
use Rattle.std.specs.Prelude.{◌≡◌, ◌⊎◌, ◌==◌, ℕ, ◌+◌, ◌<◌, Bool, true, false, ◌||◌, ◌&&◌, List, [], ◌∷◌, ◌++◌, length, map, take, Option, Some, None, IfSome, is_some, Result, Ok, Err, IsOk, nat_lt, slice_get, if◌then◌else◌}
use Rattle.std.specs.List.{flat_map}
use Rattle.tca_join.specs.Sets.{in_order}
use Rattle.tca_report.specs.report.Reports.{PacketReport, report_cmp, most_reports}
use Rattle.tca_wire.specs.Faults.{wire_number}
use Rattle.tca_join.specs.Results.{◌>>=◌}
use Rattle.tca_templates.specs.Faults.{decode_number}
use Rattle.tca_report.specs.Faults.{export_number}
use Rattle.tca_report.specs.input.Inputs.{CaptureSoFar, InputView, input_view, read_input}
use Rattle.tca_report.specs.input.Wants.{WantsMemory}
use Rattle.tca_report.specs.declared.input.Input.{Input}
use Rattle.tca_report.specs.declared.input.InputFault.{InputFault}
use Rattle.tca_report.specs.declared.input.InputFault.TheVariants.{Export, Wire, Decode, Memory}
use Rattle.tca_accounts.specs.Faults.{plan_number}
use Rattle.tca_audit.specs.declared.fault.AuditFault.{AuditFault}
use Rattle.tca_audit.specs.declared.fault.AuditFault.TheVariants as audit_fault
use Rattle.tca_program.specs.declared.fault.RunFault.{RunFault}
use Rattle.tca_program.specs.declared.fault.Family.{Family}
use Rattle.tca_program.specs.declared.fault.Family.TheVariants as family

-- the inputs, without where they lie in memory
abbrev pub views_of : List Input → List InputView
views_of = map input_view

-- An input, a log export or a capture, holds these reports in its order.
pub record HoldsReports (input : InputView) (rs : List PacketReport) : Type 0 where
  pub so_far : CaptureSoFar
  pub read : read_input input ≡ Ok so_far
  pub reports : rs ≡ so_far.reports

-- Each input holds the list beside it.
unfoldable pub HoldReports : List InputView → List (List PacketReport) → Type 0
HoldReports [] [] = Unit {0}
HoldReports (input ∷ inputs) (rs ∷ lists) = HoldsReports input rs × HoldReports inputs lists
HoldReports [] (rs ∷ lists) = ⊥
HoldReports (input ∷ inputs) [] = ⊥

-- the reports of all lists, each once and in order
abbrev pub union_of : List (List PacketReport) → List PacketReport
union_of lists = in_order report_cmp (flat_map (λ rs. rs) lists)

-- the reports that the inputs hold together, each once and in order
pub record IsUnion (inputs : List InputView) (rs : List PacketReport) : Type 0 where
  pub lists : List (List PacketReport)
  pub hold : HoldReports inputs lists
  pub whole : rs ≡ union_of lists

abbrev pub refusal : Option ℕ → Family → ℕ → RunFault
refusal input family number = record { input = input; family = family; number = number }

-- a write that failed, and want of memory that belongs to no other family and no input
abbrev pub write_refusal : RunFault
write_refusal = refusal None family.Write 1

abbrev pub memory_refusal : RunFault
memory_refusal = refusal None family.Memory 1

-- the refusal of input n by its fault: that of the export, or of the message
abbrev pub input_refusal : ℕ → InputFault → RunFault
input_refusal n (Export fault) = refusal (Some n) family.Export (export_number fault)
input_refusal n (Wire at fault) = refusal (Some n) family.Wire (wire_number fault)
input_refusal n (Decode at fault) = refusal (Some n) family.Decode (decode_number fault)
input_refusal n Memory = refusal (Some n) family.Memory 1

-- the refusal of an audit by its fault: that of the plan or of the export, which is no input
abbrev pub audit_refusal : AuditFault → RunFault
audit_refusal (audit_fault.Plan f) = refusal None family.Plan (plan_number f)
audit_refusal (audit_fault.Export f) = refusal None family.Export (export_number f)
audit_refusal audit_fault.Memory = memory_refusal

-- a set with these reports of input n, unless it would have too many
abbrev pub with_reports : ℕ → List PacketReport → List PacketReport → Result (List PacketReport) RunFault
with_reports n held rs =
    if nat_lt most_reports (length (in_order report_cmp (held ++ rs))) then Err (refusal (Some n) family.Log 1)
    else Ok (in_order report_cmp (held ++ rs))

-- a set with the reports of input n, or the refusal of that input: it has a fault, or the union would have too many reports
abbrev pub with_input : ℕ → List PacketReport → Result CaptureSoFar InputFault → Result (List PacketReport) RunFault
with_input n held (Ok h) = with_reports n held h.reports
with_input n held (Err fault) = Err (input_refusal n fault)

-- a set with the reports of all inputs, of which the first has number n, or the first refusal of one
unfoldable pub united_from : ℕ → List PacketReport → List InputView → Result (List PacketReport) RunFault
united_from n held [] = Ok held
united_from n held (input ∷ inputs) = with_input n held (read_input input) >>= (λ more. united_from (n + 1) more inputs)

-- the union of all inputs, or the first refusal of one
abbrev pub united : List InputView → Result (List PacketReport) RunFault
united inputs = united_from 0 [] inputs

abbrev pub is_family : Family → Family → Bool
is_family family.Export family.Export = true
is_family family.Wire family.Wire = true
is_family family.Decode family.Decode = true
is_family family.Plan family.Plan = true
is_family family.Log family.Log = true
is_family family.Memory family.Memory = true
is_family family.Write family.Write = true
is_family family.Spec family.Spec = true
is_family family.Read family.Read = true
is_family family.Share family.Share = true
is_family family.Work family.Work = true
is_family family.Close family.Close = true
is_family family.Absorb family.Absorb = true
is_family family.Statement family.Statement = true
is_family family.Limits family.Limits = true
is_family _ _ = false

-- a write that failed
abbrev pub is_write : RunFault → Bool
is_write e = is_family e.family family.Write

-- want of memory: number 1 of a family of its own, and number 2 of the log as it takes an input
abbrev pub wants_memory : RunFault → Bool
wants_memory e = (is_family e.family family.Memory && (e.number == 1)) || (is_family e.family family.Log && ((e.number == 2) && is_some e.input))

-- a refusal is the one that was to come, unless memory ran out
abbrev pub IsRefusedAs : {A : Type 0} → RunFault → Result A RunFault → Type 0
IsRefusedAs e due = wants_memory e ≡ false → due ≡ Err e

-- an input's own want of memory
abbrev pub is_memory : RunFault → Bool
is_memory e = is_family e.family family.Memory

-- the log had no memory for the reports of an input
abbrev pub is_log_memory : RunFault → Bool
is_log_memory e = is_family e.family family.Log && (e.number == 2)

-- Memory may run out for an input where all before that growth is right: the octets of an export that has a report, or messages that are
-- read and behind them one that is right up to the growth and with it; or else all of the input is right.
abbrev pub MayLackMemory : InputView → Type 0
MayLackMemory input = WantsMemory input ⊎ IsOk (read_input input)

-- A refusal of input n comes where all inputs before it were taken. Where the log had no memory for its reports nothing is wrong
-- with it either, and where memory ran out for the input itself all before that growth is right.
pub record IsInTurnAt (inputs : List InputView) (n : ℕ) (e : RunFault) : Type 0 where
  pub inside : n < length inputs
  pub before : IsOk (united (take n inputs))
  pub log_memory : is_log_memory e ≡ true → IsOk (united (take (n + 1) inputs))
  pub memory_last : is_memory e ≡ true → IfSome (slice_get inputs n) MayLackMemory

-- a refusal that names no input comes where all of them were taken
abbrev pub IsInTurnOf : List InputView → RunFault → Option ℕ → Type 0
IsInTurnOf inputs e None = IsOk (united inputs)
IsInTurnOf inputs e (Some n) = IsInTurnAt inputs n e

-- a refusal comes in the inputs' order
abbrev pub IsInTurn : List InputView → RunFault → Type 0
IsInTurn inputs e = IsInTurnOf inputs e e.input

-- the refusal of inputs that were to be united: the first that is due, in the inputs' order, and no failed write
pub record IsUnitingRefused (inputs : List InputView) (e : RunFault) : Type 0 where
  pub due : IsRefusedAs e (united inputs)
  pub turn : IsInTurn inputs e
  pub no_write : is_write e ≡ false
