use Rattle.std.proofs.Common.{rules}
use Rattle.tcatool.specs.Json.{colours_json}
use Rattle.tcatool.proofs.json.ColoursJsonDisplay.fmt.Goals as goal

pub returns-clause-writes : goal.returns-clause-writes
unfolding colours_json
returns-clause-writes g c = search rules
