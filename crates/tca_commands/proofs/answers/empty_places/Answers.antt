use Rattle.std.proofs.Common.{rules}
use Rattle.tca_commands.proofs.answers.empty_places.Goals as goal

pub loop-input-preserved : goal.loop-input-preserved
loop-input-preserved c = search rules
