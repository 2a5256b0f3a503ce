use Rattle.tca_split.proofs.PartsRead.{loses_nothing}
use Rattle.tca_split.proofs.laws.splitting_loses_nothing.Goals as goal

pub returns : goal.returns
returns c = loses_nothing
