use Rattle.std.proofs.Common.{◌≡◌, ◌∙◌, [], true, false, sym, append-nil}
use Rattle.tca_commands.proofs.replicated.are_all_of.Goals as goal

pub returns-else-come_next-clause-same : goal.returns-else-come_next-clause-same
returns-else-come_next-clause-same c = (
  λ next. let bad : true ≡ false = sym next ∙ c.if-come_next.false in absurd cc,
  λ same. c.come_next.ensures.others [] (c.reports-left.ensures.all ∙ sym same ∙ sym (append-nil c.args.reports.now)),
)
