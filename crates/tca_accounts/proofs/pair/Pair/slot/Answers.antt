use Rattle.std.proofs.Common.{ℕ, ◌*◌, ◌/◌, ◌%◌, ap}
use Rattle.tca_accounts.specs.inside.Owners.{slot_of}
use Rattle.tca_accounts.proofs.pair.Pair.slot.Goals as goal

pub returns-clause-value : goal.returns-clause-value
unfolding slot_of
returns-clause-value c = ap (λ (n : ℕ). n * 11400714819323198485 % 18446744073709551616 / 4503599627370496) c.one_number.ensures.value
