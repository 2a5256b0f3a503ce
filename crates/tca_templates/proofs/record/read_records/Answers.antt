use Rattle.std.proofs.lemmas.Grind.{common_steps}
use Rattle.std.proofs.Common.{arith}
use Rattle.tca_templates.proofs.record.read_records.Goals as goal

pub returns-in_ok-read_fixed-in-Some-clause-exact : goal.returns-in_ok-read_fixed-in-Some-clause-exact
returns-in_ok-read_fixed-in-Some-clause-exact g c = λ start records taken. c.in_ok-read_fixed-in-Some.ensures.exact start records c.args.at taken

pub returns-in_ok-read_fixed-in-Some-clause-few : goal.returns-in_ok-read_fixed-in-Some-clause-few
returns-in_ok-read_fixed-in-Some-clause-few g c = grind (arith, common_steps)
