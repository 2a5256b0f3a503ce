use Rattle.std.proofs.Common.{◌≡◌}
use Rattle.std.specs.List.{list_all}
use Rattle.tca_accounts.proofs.TableKeys.{known}
use Rattle.tca_accounts.proofs.document.has_only.Given as goal

abbrev pub invariant-loop-name : goal.invariant-loop-name
invariant-loop-name l = list_all (known l.keys) l.initial.name-iterator ≡ list_all (known l.keys) l.name-iterator
