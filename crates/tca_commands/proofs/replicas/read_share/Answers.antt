use Rattle.std.proofs.Common.{◌≡◌, Err, rules, arith}
use Rattle.std.proofs.lemmas.Grind.{common_steps}
use Rattle.tca_commands.proofs.RefusalLaws.{of_stranger}
use Rattle.tca_commands.proofs.replicas.read_share.Goals as goal

pub share_of-requires : goal.share_of-requires
share_of-requires g c = grind (arith, common_steps)

pub returns-in_err-share : goal.returns-in_err-share
returns-in_err-share g c = grind (arith, common_steps)

pub work_on-requires-clause-workers : goal.work_on-requires-clause-workers
work_on-requires-clause-workers g c κs within = grind (arith, common_steps)

pub work_on-requires-clause-inputs : goal.work_on-requires-clause-inputs
work_on-requires-clause-inputs g c κs within = grind (arith, common_steps)

pub put_answers-requires-clause-results : goal.put_answers-requires-clause-results
put_answers-requires-clause-results g c = grind (arith, common_steps)

pub put_answers-requires-clause-apart : goal.put_answers-requires-clause-apart
put_answers-requires-clause-apart g c = grind (arith, common_steps)

pub returns-in_err-put_answers : goal.returns-in_err-put_answers
returns-in_err-put_answers g c =
    let e = c.in_err-put_answers.field-0.0 in
    let is : c.from_residual-in_err-put_answers.result ≡ Err e = search rules in
    rw is (of_stranger e c.in_err-put_answers.ensures.refused)

pub returns : goal.returns
returns g c = grind (arith, common_steps)
