use Rattle.tca_audit.proofs.Bills.{AreBegun}
use Rattle.tca_audit.proofs.bill.begin.Given as goal

abbrev pub invariant-loop-n : goal.invariant-loop-n
invariant-loop-n l = AreBegun l.plan l.n l.list.items
