use Rattle.std.proofs.Common.{◌≡◌, take}
use Rattle.tca_audit.proofs.verdict.compared.Given as goal

abbrev pub invariant-loop-at : goal.invariant-loop-at
invariant-loop-at l = take l.at l.text ≡ take l.at l.statement
