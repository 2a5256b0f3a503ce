use Rattle.std.proofs.Common.{◌∙◌, sym, subst, ◌≡◌}
use Rattle.tca_figures.proofs.Counts.{same_number}
use Rattle.tca_figures.specs.inside.Progress.{Progress}
use Rattle.tca_figures.specs.declared.reader.Stage.TheVariants as stages
use Rattle.tca_figures.proofs.reader.Reader.take_unassigned.Goals as goal

pub returns-in_default-clause-only : goal.returns-in_default-clause-only
returns-in_default-clause-only c q h e =
    let bad = sym c.in_default.is ∙ c.number_behind.ensures.only h.0 h.1.small h.1.line_is in
    cc

pub returns-clause-only : goal.returns-clause-only
returns-clause-only c q h =
    let same = same_number c.in-Some.unassigned h.0 (sym c.in-Some.is ∙ c.number_behind.ensures.only h.0 h.1.small h.1.line_is) in
    rw same (subst (λ (p : Progress). record { stage = stages.Account; stated = record p.stated { unassigned = h.0 }; account = p.account } ≡ q) (sym c.self.view_is) (sym h.2))
