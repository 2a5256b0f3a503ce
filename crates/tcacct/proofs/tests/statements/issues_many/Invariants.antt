use Rattle.std.proofs.Common.{◌≡◌, length}
use Rattle.tcacct.proofs.tests.statements.issues_many.Given as goal

abbrev pub invariant-loop-n : goal.invariant-loop-n
invariant-loop-n l = length l.bill.accounts ≡ l.issuer.accounts
