use Rattle.tca_audit.specs.inside.Metering.{state_of}
use Rattle.tca_audit.proofs.TermsInTurn.{IsAt}
use Rattle.tca_audit.proofs.terms.advanced.Given as goal

abbrev pub invariant-loop-n : goal.invariant-loop-n
invariant-loop-n l = IsAt l.meter l.from l.to (state_of l.fn.state) l.n (state_of l.next) l.last
