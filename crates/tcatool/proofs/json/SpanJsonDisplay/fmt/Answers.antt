use Rattle.std.proofs.Common.{rules}
use Rattle.tcatool.specs.Json.{span_json}
use Rattle.tcatool.proofs.json.SpanJsonDisplay.fmt.Goals as goal

pub returns-clause-writes : goal.returns-clause-writes
unfolding span_json
returns-clause-writes g c = search rules
