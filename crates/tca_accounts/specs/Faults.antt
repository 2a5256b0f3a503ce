-- The faults of plans by number.
use Rattle.std.specs.Prelude.{ℕ}
use Rattle.tca_accounts.specs.declared.fault.PlanFault.{PlanFault}
use Rattle.tca_accounts.specs.declared.fault.PlanFault.TheVariants.{Syntax, Missing, Wrong, UnknownKey, Meter, KeyTwice, Limits, Memory}

-- the number of each fault
abbrev pub plan_number : PlanFault → ℕ
plan_number Syntax = 1
plan_number (Missing k) = 2
plan_number (Wrong k) = 3
plan_number UnknownKey = 4
plan_number (Meter n e) = 5
plan_number KeyTwice = 6
plan_number Limits = 7
plan_number Memory = 8
