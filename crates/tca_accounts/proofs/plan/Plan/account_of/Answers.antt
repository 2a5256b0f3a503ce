use Rattle.std.proofs.Common.{◌≡◌, ℕ, ◌+◌, Some, true, sym, ap, ◌∙◌, arith}
use Rattle.std.specs.List.{position_from}
use Rattle.tca_accounts.specs.Plans.{AccountPlan, account_of, are_distinct, owns}
use Rattle.tca_accounts.proofs.Owning.{owner_below, pairs_apart, sole_owner}
use Rattle.tca_accounts.proofs.plan.Plan.account_of.Goals as goal

pub returns-clause-account : goal.returns-clause-account
unfolding account_of
returns-clause-account c =
    let accounts : c.self.inside.accounts.items ≡ c.args.self.now.accounts = ap (λ (p : AccountPlan). p.accounts) c.self.view_is in
    c.get.ensures ∙ c.self.invariant.1 c.of.result ∙ ap (position_from (λ a. owns a c.of.result) 0) accounts ∙ ap (λ (q : ℕ × ℕ). position_from (λ a. owns a q) 0 c.args.self.now.accounts) c.of.ensures

pub returns-clause-below : goal.returns-clause-below
unfolding account_of
returns-clause-below c =
    let pair : ℕ × ℕ = c.of.result in
    let accounts : c.self.inside.accounts.items ≡ c.args.self.now.accounts = ap (λ (p : AccountPlan). p.accounts) c.self.view_is in
    let found : c.get.result ≡ position_from (λ a. owns a pair) 0 c.args.self.now.accounts =
    c.get.ensures ∙ c.self.invariant.1 pair ∙ ap (position_from (λ a. owns a pair) 0) accounts in
    rw found (owner_below pair c.args.self.now.accounts)

pub returns-clause-only : goal.returns-clause-only
returns-clause-only c n a at owned =
    let asked : ℕ × ℕ = c.of.result in
    let accounts : c.self.inside.accounts.items ≡ c.args.self.now.accounts = ap (λ (p : AccountPlan). p.accounts) c.self.view_is in
    let distinct : are_distinct c.args.self.now.accounts ≡ true = ap are_distinct (sym accounts) ∙ c.self.invariant.0.distinct in
    let found : c.get.result ≡ position_from (λ a. owns a asked) 0 c.args.self.now.accounts =
    c.get.ensures ∙ c.self.invariant.1 asked ∙ ap (position_from (λ a. owns a asked) 0) accounts in
    let place : 0 + n ≡ n = omega arith in
    found ∙ sole_owner asked 0 c.args.self.now.accounts n a (pairs_apart c.args.self.now.accounts distinct) at (ap (owns a) c.of.ensures ∙ owned) ∙ ap Some place
