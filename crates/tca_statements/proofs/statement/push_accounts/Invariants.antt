use Rattle.std.proofs.Common.{◌≡◌, ◌++◌, string_bytes, take}
use Rattle.std.specs.List.{zip}
use Rattle.tca_statements.proofs.AccountLines.{lines_of}
use Rattle.tca_statements.proofs.statement.push_accounts.Given as goal

abbrev pub invariant-loop-account : goal.invariant-loop-account
invariant-loop-account l = string_bytes l.text ≡ string_bytes l.fn.text ++ lines_of (take l.account (zip l.plan.accounts l.tallies))
