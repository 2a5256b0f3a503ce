use Rattle.std.proofs.Common.{rules}
use Rattle.tca_join.proofs.by_key.refusal_at.Goals as goal

pub returns-in-Some-Clash : goal.returns-in-Some-Clash
returns-in-Some-Clash g c = search rules
