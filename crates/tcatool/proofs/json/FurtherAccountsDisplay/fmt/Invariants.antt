use Rattle.std.proofs.Common.{map, take}
use Rattle.std.specs.Fmt.{HasWritten, IsPlainFormatter}
use Rattle.tcatool.specs.Json.{account_json, further_json}
use Rattle.tcatool.proofs.json.FurtherAccountsDisplay.fmt.Given as goal

-- the items so far
abbrev pub invariant-loop-account : goal.invariant-loop-account
invariant-loop-account g l = IsPlainFormatter l.fn.f → HasWritten g.W.Write.write_str_gives l.fn.f (further_json (map (account_json l.period) (take l.account-index l.accounts))) l.f
