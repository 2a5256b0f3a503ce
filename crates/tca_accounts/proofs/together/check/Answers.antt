use Rattle.std.proofs.lemmas.Grind.{common_steps}
use Rattle.std.proofs.Common.{◌≡◌, ◌&&◌, Ok, true, false, rules, arith}
use Rattle.toml.specs.View.{items_view}
use Rattle.tca_accounts.specs.Documents.{accounts_from}
use Rattle.tca_accounts.specs.inside.Readings.{are_few, names_differ, of_accounts, pairs_differ}
use Rattle.tca_accounts.proofs.AccountsTogether.{all_right, twice}
use Rattle.tca_accounts.proofs.together.check.Goals as goal

pub returns-then-not-names : goal.returns-then-not-names
returns-then-not-names c =
    let ds = items_view c.args.values.now in
    let few : Ok true ≡ of_accounts are_few 0 ds = search rules in
    let some : (c.in_ok-pairs.pairs && c.in_ok-names.names) ≡ false = search rules in
    twice c.in_ok-pairs.pairs c.in_ok-names.names (accounts_from 0 ds) few c.in_ok-pairs.ensures c.in_ok-names.ensures some

pub returns : goal.returns
returns c =
    let ds = items_view c.args.values.now in
    let few : Ok true ≡ of_accounts are_few 0 ds = search rules in
    let pairs : Ok true ≡ of_accounts pairs_differ 0 ds = search rules in
    let names : Ok true ≡ of_accounts names_differ 0 ds = search rules in
    all_right (accounts_from 0 ds) few pairs names

pub returns-in_err-has_few_pairs : goal.returns-in_err-has_few_pairs
returns-in_err-has_few_pairs c = grind (arith, common_steps)

pub returns-then-not-branch : goal.returns-then-not-branch
returns-then-not-branch c = grind (arith, common_steps)

pub returns-in_err-pairs : goal.returns-in_err-pairs
returns-in_err-pairs c = grind (arith, common_steps)

pub returns-in_err-names : goal.returns-in_err-names
returns-in_err-names c = grind (arith, common_steps)
