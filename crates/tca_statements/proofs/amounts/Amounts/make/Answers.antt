use Rattle.std.proofs.Common.{◌∙◌, ◌++◌, [], ◌∷◌, ap, rules}
use Rattle.tca_statements.specs.Issues.{less, sum_of}
use Rattle.tca_statements.proofs.AmountSums.{less_computed, sum_made}
use Rattle.tca_statements.proofs.amounts.Amounts.make.Goals as goal

pub returns-clause-amount : goal.returns-clause-amount
returns-clause-amount c = less_computed c.args.due c.self.inside.sum c.self.inside.list.items c.requires c.self.invariant ∙ ap (λ amounts. less c.args.due (sum_of amounts)) c.self.view_is

pub invariant_of-self-2 : goal.invariant_of-self-2
invariant_of-self-2 c =
    let so_far = c.self.inside.list.items in (
      ap sum_of c.in_ok-push.ensures.items
          ∙ ap (λ a. sum_of (so_far ++ a ∷ [])) (less_computed c.args.due c.self.inside.sum so_far c.requires c.self.invariant)
          ∙ sum_made so_far c.args.due,
      c.requires,
    )

pub invariant_of-self : goal.invariant_of-self
invariant_of-self c = search rules
