use Rattle.std.proofs.lemmas.Grind.{common_steps}
use Rattle.std.proofs.Common.{rules, arith}
use Rattle.tca_commands.proofs.ending.word_of.Goals as goal

pub returns-in-Bill-Plan : goal.returns-in-Bill-Plan
returns-in-Bill-Plan c = search rules

pub returns-in-Some : goal.returns-in-Some
returns-in-Some c = grind (arith, common_steps)

pub returns-in-Meter-Spec-text : goal.returns-in-Meter-Spec-text
returns-in-Meter-Spec-text c = grind (arith, common_steps)

pub returns-in-Bill-Plan-text : goal.returns-in-Bill-Plan-text
returns-in-Bill-Plan-text c = grind (arith, common_steps)

pub returns-in-Audit-Plan-text : goal.returns-in-Audit-Plan-text
returns-in-Audit-Plan-text c = grind (arith, common_steps)

pub returns-in-Audit-Export-text : goal.returns-in-Audit-Export-text
returns-in-Audit-Export-text c = grind (arith, common_steps)

pub returns-in_default-2 : goal.returns-in_default-2
returns-in_default-2 c = grind (arith, common_steps)
