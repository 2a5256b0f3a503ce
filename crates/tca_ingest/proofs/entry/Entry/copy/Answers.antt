use Rattle.std.proofs.Common.{arith}
use Rattle.std.proofs.lemmas.Grind.{common_steps}
use Rattle.tca_ingest.proofs.entry.Entry.copy.Goals as goal

pub returns-in_err-share-in-Took : goal.returns-in_err-share-in-Took
returns-in_err-share-in-Took c = grind (arith, common_steps)

pub returns-in_err-copies-in-Absorbed : goal.returns-in_err-copies-in-Absorbed
returns-in_err-copies-in-Absorbed c = grind (arith, common_steps)

pub returns-in_err-copy-in-Answered : goal.returns-in_err-copy-in-Answered
returns-in_err-copy-in-Answered c = grind (arith, common_steps)

pub returns-in_err-copy-in-Asked : goal.returns-in_err-copy-in-Asked
returns-in_err-copy-in-Asked c = grind (arith, common_steps)

pub returns-in_err-copy-in-Sent : goal.returns-in_err-copy-in-Sent
returns-in_err-copy-in-Sent c = grind (arith, common_steps)

pub returns-in_err-copy-in-Sent-2 : goal.returns-in_err-copy-in-Sent-2
returns-in_err-copy-in-Sent-2 c = grind (arith, common_steps)

pub same-result : goal.same-result
same-result c = grind (arith, common_steps)

pub returns : goal.returns
returns c = grind (arith, common_steps)
