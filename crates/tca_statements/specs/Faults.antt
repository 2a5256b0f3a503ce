-- The faults of issuing by number.
use Rattle.std.specs.Prelude.{ℕ}
use Rattle.tca_statements.specs.declared.fault.IssueFault.{IssueFault}
use Rattle.tca_statements.specs.declared.fault.IssueFault.TheVariants.{NoAccount, Period, Memory}

-- the number of each fault
abbrev pub issue_number : IssueFault → ℕ
issue_number NoAccount = 1
issue_number Period = 2
issue_number Memory = 3
