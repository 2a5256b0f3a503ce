use Rattle.std.proofs.Common.{◌∙◌, length, ap}
use Rattle.tca_accounts.specs.Plans.{AccountPlan}
use Rattle.tca_commands.proofs.BillLemmas.{as_many_accounts}
use Rattle.tca_commands.proofs.replicated.statement_of.Goals as goal

pub of-requires : goal.of-requires
of-requires c =
    ap (λ b. length b.accounts) c.in_ok-bill.ensures
    ∙ as_many_accounts c.args.replica.now.plan c.args.replica.now.log
    ∙ ap (λ (p : AccountPlan). length p.accounts) c.requires
