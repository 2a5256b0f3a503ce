use Rattle.std.proofs.Common.{arith}
use Rattle.std.proofs.lemmas.Grind.{common_steps}
use Rattle.tca_gossip.proofs.contents.Contents.take_report.Goals as goal

pub same-self : goal.same-self
same-self c = grind (arith, common_steps)

pub returns-then-contains-clause-state : goal.returns-then-contains-clause-state
returns-then-contains-clause-state c = grind (arith, common_steps)

pub returns-then-contains-clause-fresh : goal.returns-then-contains-clause-fresh
returns-then-contains-clause-fresh c = grind (arith, common_steps)

pub same-self-2 : goal.same-self-2
same-self-2 c = grind (arith, common_steps)

pub same-append : goal.same-append
same-append c = grind (arith, common_steps)

pub append-requires-clause-own : goal.append-requires-clause-own
append-requires-clause-own c = grind (arith, common_steps)

pub append-requires-clause-other : goal.append-requires-clause-other
append-requires-clause-other c = grind (arith, common_steps)

pub returns-in_err-append-clause-state : goal.returns-in_err-append-clause-state
returns-in_err-append-clause-state c = grind (arith, common_steps)

pub returns-in_err-append-clause-fresh : goal.returns-in_err-append-clause-fresh
returns-in_err-append-clause-fresh c = grind (arith, common_steps)

pub returns-in_err-append-clause-err : goal.returns-in_err-append-clause-err
returns-in_err-append-clause-err c = grind (arith, common_steps)

pub returns-in_err-append-clause-unheld : goal.returns-in_err-append-clause-unheld
returns-in_err-append-clause-unheld c = grind (arith, common_steps)

pub returns-in_err-append-clause-fault : goal.returns-in_err-append-clause-fault
returns-in_err-append-clause-fault c = grind (arith, common_steps)

pub returns-clause-state : goal.returns-clause-state
returns-clause-state c = grind (arith, common_steps)

pub returns-clause-fresh : goal.returns-clause-fresh
returns-clause-fresh c = grind (arith, common_steps)
