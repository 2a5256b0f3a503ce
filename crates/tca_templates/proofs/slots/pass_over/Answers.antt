use Rattle.std.proofs.Common.{rules, sym, subst, ◌∙◌}
use Rattle.std.specs.Prelude.{Option}
use Rattle.tca_templates.specs.declared.ids.Ids.{Ids}
use Rattle.tca_templates.specs.inside.Slotted.{IsAmong}
use Rattle.tca_templates.proofs.KeyOrder.{kind_written, kind_elsewhere, kind_lookup}
use Rattle.tca_templates.proofs.CoverLaws.{among_one}
use Rattle.tca_templates.proofs.slots.pass_over.Goals as goal

pub returns-in-Some-clause-among : goal.returns-in-Some-clause-among
returns-in-Some-clause-among c =
    among_one c.args.kind _ _ _ (kind_written c.args.kind _ _ _ ((c.get_mut.follows.holds _).3 (search rules)).0) (λ i a. subst (λ (o : Option Ids). IsAmong o i) (sym (c.in-Some.ensures.value ∙ kind_lookup c.args.kind _)) a)

pub returns-in-Some-clause-others : goal.returns-in-Some-clause-others
returns-in-Some-clause-others c = kind_elsewhere c.args.kind _ _ _ ((c.get_mut.follows.holds _).3 (search rules)).0
