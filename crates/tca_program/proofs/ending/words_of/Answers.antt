use Rattle.std.proofs.Common.{rules}
use Rattle.tca_program.proofs.ending.words_of.Goals as goal

pub returns-in_ok-text-in-Err : goal.returns-in_ok-text-in-Err
returns-in_ok-text-in-Err g c = search rules
