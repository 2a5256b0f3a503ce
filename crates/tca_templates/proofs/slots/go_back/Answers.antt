use Rattle.std.proofs.Common.{rules, Some, sym, subst, ◌∙◌}
use Rattle.std.specs.Prelude.{Option}
use Rattle.tca_templates.specs.declared.ids.Ids.{Ids}
use Rattle.tca_templates.specs.inside.Slotted.{IsAhead, IsAmong}
use Rattle.tca_templates.proofs.KeyOrder.{kind_written, kind_lookup}
use Rattle.tca_templates.proofs.CoverLaws.{ahead_one, among_one, one_is, among}
use Rattle.tca_templates.proofs.slots.go_back.Goals as goal

pub returns-in-Some-clause-ahead : goal.returns-in-Some-clause-ahead
returns-in-Some-clause-ahead c =
    ahead_one c.args.kind _ _ _ (kind_written c.args.kind _ _ _ ((c.get_mut.follows.holds _).3 (search rules)).0)
    (λ i a. among (Some c.in-Some.ids.now) i (subst (λ (o : Option Ids). IsAhead o i) (sym (c.in-Some.ensures.value ∙ kind_lookup c.args.kind _)) a))

pub returns-in-Some-clause-among : goal.returns-in-Some-clause-among
returns-in-Some-clause-among c =
    among_one c.args.kind _ _ _ (kind_written c.args.kind _ _ _ ((c.get_mut.follows.holds _).3 (search rules)).0) (λ i a. subst (λ (o : Option Ids). IsAmong o i) (sym (c.in-Some.ensures.value ∙ kind_lookup c.args.kind _)) a)

pub returns-in-Some-clause-all : goal.returns-in-Some-clause-all
returns-in-Some-clause-all c i a =
    subst (λ (o : Option Ids). IsAhead o i) (one_is c.args.kind c.args.kinds.now.entries _ _ (kind_written c.args.kind _ _ _ ((c.get_mut.follows.holds _).3 (search rules)).0))
    (subst (λ (o : Option Ids). IsAmong o i) (sym (c.in-Some.ensures.value ∙ kind_lookup c.args.kind _)) a)
