use Rattle.std.proofs.Common.{◌≡◌, ap}
use Rattle.tca_meters.specs.declared.colour.Colour.{Colour}
use Rattle.tca_meters.specs.declared.termed.InTerm.{InTerm}
use Rattle.tca_meters.specs.Termed.{termed_rule}
use Rattle.tca_accounts.specs.Metering.{answer_for}
use Rattle.tca_accounts.proofs.Steps.{stands_more}
use Rattle.tca_audit.specs.inside.Metering.{standing, state_of}
use Rattle.tca_audit.proofs.account.Account.add.Goals as goal

pub returns-clause-metering : goal.returns-clause-metering
returns-clause-metering c = λ whole later run.
    let old = c.args.self.now in
    let told = c.content-content.ensures.value in
    let found : (c.metered-colour.result.0, state_of c.metered-colour.result.1) ≡ answer_for (termed_rule old.meter) old.other (standing old) c.args.report.now = rw (c.precolour-pre.ensures, told) at c.metered-colour.ensures in
    let colour = ap (λ (p : Colour × InTerm). p.0) found in
    let state = ap (λ (p : Colour × InTerm). p.1) found in
    let ended = rw told at c.in_ok-count_in.ensures.ended in
    let current = rw (told, colour) at c.in_ok-count_in.ensures.current in
    let total = rw (told, colour) at c.count.ensures in
    rw (total, state, told, ended, current) (stands_more (termed_rule old.meter) old.other c.args.period whole c.args.report.now later (standing old) old.ended.items old.current c.requires.period c.requires.order run)
