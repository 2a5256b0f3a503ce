use Rattle.tcatool.specs.Json.{account_json}
use Rattle.tcatool.proofs.json.AccountJsonDisplay.fmt.Goals as goal

pub returns-clause-writes : goal.returns-clause-writes
unfolding account_json
returns-clause-writes g c p ok = rw (← c.name-name.ensures, ← c.total.ensures, ← c.spans.ensures) (c.write.ensures.writes p ok)
