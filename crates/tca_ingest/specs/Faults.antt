-- Why calls are refused, by number.
use Rattle.std.specs.Prelude.{ℕ}
use Rattle.tca_ingest.specs.declared.fault.ShareFault.{ShareFault}
use Rattle.tca_ingest.specs.declared.fault.ShareFault.TheVariants.{JournalFull, PassesOut, Memory}
use Rattle.tca_ingest.specs.declared.fault.CloseFault.{CloseFault}
use Rattle.tca_ingest.specs.declared.fault.CloseFault.TheVariants.{Missing, Differs, Clash}
use Rattle.tca_ingest.specs.declared.fault.WorkFault.{WorkFault}
use Rattle.tca_ingest.specs.declared.fault.WorkFault.TheVariants.{JobMissing, Stranger, NoThread, PassesOut as NoPasses, Memory as NoMemory}
use Rattle.tca_ingest.specs.declared.job.JobFault.{JobFault}
use Rattle.tca_ingest.specs.declared.job.JobFault.TheVariants.{Input, Share}

-- the number of a fault
abbrev pub share_number : ShareFault → ℕ
share_number JournalFull = 1
share_number PassesOut = 2
share_number Memory = 3

abbrev pub close_number : CloseFault → ℕ
close_number (Missing journal given) = 1
close_number (Differs pass) = 2
close_number (Clash origin) = 3

abbrev pub job_number : JobFault → ℕ
job_number (Input fault) = 1
job_number (Share fault) = 2

abbrev pub work_number : WorkFault → ℕ
work_number (JobMissing job) = 1
work_number (Stranger job) = 2
work_number NoThread = 3
work_number NoPasses = 4
work_number NoMemory = 5
