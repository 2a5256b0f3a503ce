use Rattle.std.proofs.Common.{◌∙◌, length, ap}
use Rattle.tca_commands.proofs.BillLemmas.{as_many_accounts}
use Rattle.tca_commands.proofs.bill.statement_of.Goals as goal

pub of-requires : goal.of-requires
of-requires c = ap (λ b. length b.accounts) c.in_ok-bill.ensures ∙ as_many_accounts c.args.plan.now c.args.log.now
