use Rattle.std.proofs.Common.{rules}
use Rattle.tcatool.proofs.ending.word_of.Goals as goal

pub returns-in-List-Some-default-Plan : goal.returns-in-List-Some-default-Plan
returns-in-List-Some-default-Plan c = search rules

pub returns-in_default-2 : goal.returns-in_default-2
returns-in_default-2 c = search rules
