use Rattle.std.proofs.Common.{◌∙◌, ap, true}
use Rattle.tca_join.specs.Chains.{chain}
use Rattle.tca_join.proofs.chain.Chain.reserve.Goals as goal

pub returns-clause-ok : goal.returns-clause-ok
returns-clause-ok g c = ap (λ items. chain items true) (c.in_ok-reserve.ensures.items ∙ ap (λ v. v.items) c.self.view_is)
