use Rattle.std.proofs.Common.{refl, subst}
use Rattle.std.specs.Prelude.{IfSome, Option}
use Rattle.tca_templates.specs.declared.numbers.Usual.{Usual}
use Rattle.tca_templates.specs.inside.Windows.{IsUsual}
use Rattle.tca_templates.proofs.WindowLaws.{usual_numbers}
use Rattle.tca_templates.proofs.record.Record.numbers.Goals as goal

pub returns : goal.returns
returns c =
    let r = c.self.inside in
    let u = c.in-Some.usual in
    let usual = subst (λ (o : Option Usual). IfSome o (λ u. IsUsual r.template.now.options r.spots.now u)) c.in-Some.is c.self.invariant.1 in
    rw (← c.self.view_is) (usual_numbers r.template.now.specs.items r.spots.now r.octets.now _ u c.numbers.result c.self.invariant.0 refl c.numbers.ensures.octets usual c.numbers.ensures.time c.numbers.ensures.size c.numbers.ensures.code_point c.numbers.ensures.interface_none c.numbers.ensures.interface_some)
