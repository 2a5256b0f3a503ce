use Rattle.std.proofs.Common.{◌≡◌, ◌≤◌, ◌<◌, ◌+◌, ◌∙◌, ◌++◌, suc, string_bytes, ap, sym, length, take, take_all, arith}
use Rattle.std.proofs.lemmas.List.{append_assoc}
use Rattle.std.proofs.lemmas.Slice.Zip.{length-zip}
use Rattle.std.specs.List.{zip}
use Rattle.tca_statements.specs.Statements.{account_lines}
use Rattle.tca_statements.proofs.AccountLines.{lines_of, lines_more}
use Rattle.tca_statements.proofs.statement.push_accounts.Goals as goal

pub loop-account-preserved : goal.loop-account-preserved
loop-account-preserved c =
    let n = c.loop-account.account in
    let pairs = zip c.args.plan.now.accounts c.args.tallies.now in
    let lines = account_lines c.name.result.now c.index-tallies-account.result in
    let before = string_bytes c.args.text.now in
    let below : n < length c.args.tallies.now = omega arith in
    let next : suc n ≡ n + 1 = omega arith in
    c.in_ok-push_account.ensures
    ∙ ap (λ text. text ++ lines) c.loop-account.invariant
    ∙ append_assoc before (lines_of (take n pairs)) lines
    ∙ ap (λ text. before ++ text) (sym (lines_more c.args.plan.now.accounts c.args.tallies.now n c.name.result.now c.index-tallies-account.result c.name.ensures below c.index-tallies-account.is))
    ∙ ap (λ k. before ++ lines_of (take k pairs)) next

pub returns : goal.returns
returns c =
    let pairs = zip c.args.plan.now.accounts c.args.tallies.now in
    let all : length pairs ≤ c.loop-account.account = omega (arith, length-zip c.args.plan.now.accounts c.args.tallies.now) in
    c.loop-account.invariant ∙ ap (λ zs. string_bytes c.args.text.now ++ lines_of zs) (take_all c.loop-account.account pairs all)
