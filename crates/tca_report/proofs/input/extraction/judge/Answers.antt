use Rattle.std.proofs.lemmas.Grind.{common_steps}
use Rattle.std.proofs.Common.{rules, arith}
use Rattle.tca_report.proofs.input.extraction.judge.Goals as goal

pub returns-in_default : goal.returns-in_default
returns-in_default c = search rules

pub returns-then-time-ge-TIME_END : goal.returns-then-time-ge-TIME_END
returns-then-time-ge-TIME_END c = grind (arith, common_steps)

pub returns-then-octets-lt1 : goal.returns-then-octets-lt1
returns-then-octets-lt1 c = grind (arith, common_steps)

pub returns-then-point-from : goal.returns-then-point-from
returns-then-point-from c = grind (arith, common_steps)

pub returns : goal.returns
returns c = grind (arith, common_steps)
