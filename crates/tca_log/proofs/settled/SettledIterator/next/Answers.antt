use Rattle.std.proofs.Common.{◌≡◌, ◌∷◌, rules, sym, ap, ◌∙◌}
use Rattle.tca_join.specs.Sets.{has}
use Rattle.tca_report.specs.report.Identities.{identity_cmp}
use Rattle.tca_log.specs.Disputes.{settled_of}
use Rattle.tca_log.proofs.Undisputed.{settled_keep, settled_skip, settled_none}
use Rattle.tca_log.proofs.settled.SettledIterator.next.Goals as goal

pub returns-then-not-has_near-clause-steps : goal.returns-then-not-has_near-clause-steps
returns-then-not-has_near-clause-steps g c =
    sym c.loop-report.invariant ∙ ap (settled_of c.loop-report.self-inside.disputed.now.rows) c.in-Some.ensures.steps
    ∙ settled_keep c.loop-report.self-inside.disputed.now.rows c.in-Some.report.now c.next.new.self (ap (has identity_cmp c.loop-report.self-inside.disputed.now.rows) (sym c.identity.ensures) ∙ sym c.has_near.ensures ∙ c.if-not-has_near.true)

pub returns-then-not-has_near-clause-goes : goal.returns-then-not-has_near-clause-goes
returns-then-not-has_near-clause-goes g c =
    let now : c.args.self.now ≡ c.in-Some.report.now ∷ settled_of c.loop-report.self-inside.disputed.now.rows c.next.new.self =
    sym c.loop-report.invariant ∙ ap (settled_of c.loop-report.self-inside.disputed.now.rows) c.in-Some.ensures.steps
    ∙ settled_keep c.loop-report.self-inside.disputed.now.rows c.in-Some.report.now c.next.new.self (ap (has identity_cmp c.loop-report.self-inside.disputed.now.rows) (sym c.identity.ensures) ∙ sym c.has_near.ensures ∙ c.if-not-has_near.true) in
    search rules

pub loop-report-preserved : goal.loop-report-preserved
loop-report-preserved g c =
    sym (settled_skip c.loop-report.self-inside.disputed.now.rows c.in-Some.report.now c.next.new.self (ap (has identity_cmp c.loop-report.self-inside.disputed.now.rows) (sym c.identity.ensures) ∙ sym c.has_near.ensures ∙ c.if-not-has_near.false))
    ∙ ap (settled_of c.loop-report.self-inside.disputed.now.rows) (sym c.in-Some.ensures.steps) ∙ c.loop-report.invariant

pub returns-clause-steps : goal.returns-clause-steps
returns-clause-steps g c = (
  sym c.loop-report.invariant ∙ ap (settled_of c.loop-report.self-inside.disputed.now.rows) c.in_default.ensures.steps.0 ∙ settled_none c.loop-report.self-inside.disputed.now.rows,
  ap (settled_of c.loop-report.self-inside.disputed.now.rows) c.in_default.ensures.steps.1 ∙ settled_none c.loop-report.self-inside.disputed.now.rows,
)
