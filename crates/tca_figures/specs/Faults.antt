-- The faults of statements by number.
use Rattle.std.specs.Prelude.{ℕ}
use Rattle.tca_figures.specs.declared.fault.StatementFault.{StatementFault}
use Rattle.tca_figures.specs.declared.fault.StatementFault.TheVariants.{Line, Sum, Other, Range, Memory}

-- the number of each fault
abbrev pub statement_number : StatementFault → ℕ
statement_number (Line line) = 1
statement_number (Sum line) = 2
statement_number (Other line) = 3
statement_number Range = 4
statement_number Memory = 5
