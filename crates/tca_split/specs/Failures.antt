-- How the failed calls of a reader and of a folder are counted, beside the fault that is told.
use Rattle.std.specs.Prelude.{◌≡◌, ℕ, ◌^◌, ◌-◌, Result, Ok, Err}
use Rattle.tca_report.specs.device.Devices.{Rises}
use Rattle.tca_report.specs.declared.device.octets.ReadFault.TheVariants as read
use Rattle.tca_split.specs.declared.fault.SplitFault.{SplitFault}
use Rattle.tca_split.specs.declared.fault.SplitFault.TheVariants.{Read, Wire, Limits, Exists, Changed, Write, Memory}

-- how many reads one reading of a capture may take
abbrev pub most_turns : ℕ
most_turns = 2 ^ 64 - 1

-- a folder's count of failures, where this fault is told: one more for a file that couldn't be looked for, made or written
abbrev pub CountsWriteFault : SplitFault → ℕ → ℕ → Type 0
CountsWriteFault (Read fault) old new = new ≡ old
CountsWriteFault (Wire fault) old new = new ≡ old
CountsWriteFault Limits old new = new ≡ old
CountsWriteFault Exists old new = new ≡ old
CountsWriteFault Changed old new = new ≡ old
CountsWriteFault Write old new = Rises old new
CountsWriteFault Memory old new = new ≡ old

-- a folder's count of failures rises exactly where `Write` is told
abbrev pub CountsWrite : {T : Type 0} → Result T SplitFault → ℕ → ℕ → Type 0
CountsWrite (Ok x) old new = new ≡ old
CountsWrite (Err fault) old new = CountsWriteFault fault old new

-- a reader's count of failures, where this fault is told: one more for a read that failed
abbrev pub CountsReadFault : SplitFault → ℕ → ℕ → Type 0
CountsReadFault (Read read.Read) old new = Rises old new
CountsReadFault (Read read.Turns) old new = new ≡ old
CountsReadFault (Read read.Memory) old new = new ≡ old
CountsReadFault (Wire fault) old new = new ≡ old
CountsReadFault Limits old new = new ≡ old
CountsReadFault Exists old new = new ≡ old
CountsReadFault Changed old new = new ≡ old
CountsReadFault Write old new = new ≡ old
CountsReadFault Memory old new = new ≡ old

-- a reader's count of failures rises exactly where a failed read is told
abbrev pub CountsRead : {T : Type 0} → Result T SplitFault → ℕ → ℕ → Type 0
CountsRead (Ok x) old new = new ≡ old
CountsRead (Err fault) old new = CountsReadFault fault old new
