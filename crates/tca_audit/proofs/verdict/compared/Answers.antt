use Rattle.std.proofs.Common.{◌≡◌, length, arith}
use Rattle.std.specs.Prelude.{min}
use Rattle.std.proofs.lemmas.List.{take_more_same}
use Rattle.tca_audit.proofs.Verdicts.{at_end, at_octets, nowhere}
use Rattle.tca_audit.proofs.verdict.compared.Goals as goal

pub returns-then-text-at : goal.returns-then-text-at
returns-then-text-at c =
    let l = c.loop-at in
    at_octets c.args.text.now c.args.statement.now l.at (omega (arith, c.loop-at-test.true, c.min-shared.ensures)) (omega (arith, c.loop-at-test.true, c.min-shared.ensures)) l.invariant c.if-text-at.true

pub loop-at-preserved : goal.loop-at-preserved
loop-at-preserved c =
    let l = c.loop-at in
    take_more_same c.args.text.now c.args.statement.now l.at 0 (omega (arith, c.loop-at-test.true, c.min-shared.ensures)) (omega (arith, c.loop-at-test.true, c.min-shared.ensures)) l.invariant c.if-text-at.false

pub returns-then-text-statement : goal.returns-then-text-statement
returns-then-text-statement c =
    let l = c.loop-at in
    let whole : l.at ≡ min (length c.args.text.now) (length c.args.statement.now) = omega (arith, c.loop-at-test.false, l.auto.at-end, c.min-shared.ensures) in
    nowhere c.args.text.now c.args.statement.now l.at whole l.invariant c.if-text-statement.true

pub returns-else-text-statement : goal.returns-else-text-statement
returns-else-text-statement c =
    let l = c.loop-at in
    let end : l.at ≡ c.min-shared.result = omega (arith, c.loop-at-test.false, l.auto.at-end) in
    at_end c.args.text.now c.args.statement.now c.min-shared.result c.min-shared.ensures (rw end at l.invariant) c.if-text-statement.false
