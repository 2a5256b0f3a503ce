use Rattle.std.proofs.Common.{◌≡◌, Err, rules, arith}
use Rattle.tcatool.proofs.Adding.{next_sum, next_unfit, next_unread, sum_first}
use Rattle.tcatool.proofs.add.sum_of.Goals as goal

pub loop-before-init : goal.loop-before-init
loop-before-init c = sum_first c.args.first.now c.in_ok-sum.sum c.in_ok-sum.ensures.read

pub returns-in_err-more-clause-refused : goal.returns-in_err-more-clause-refused
returns-in_err-more-clause-refused c =
    let e = c.in_err-more.field-0.0 in
    let is : c.from_residual-in_err-more.result ≡ Err e = search rules in
    let fault = c.in_err-more.ensures.unread in
    rw is (next_unread c.args.first.now c.args.others.now c.loop-before.before c.index-others-before.result c.loop-before-test.true c.index-others-before.is c.deref.result.now c.deref.ensures.value
    _ fault.fault e c.loop-before.sum (omega arith) c.loop-before.invariant fault.first fault.is)

pub returns-in_err-sum-2-clause-refused : goal.returns-in_err-sum-2-clause-refused
returns-in_err-sum-2-clause-refused c =
    let e = c.in_err-sum-2.field-0.0 in
    let is : c.from_residual-in_err-sum-2.result ≡ Err e = search rules in
    let fault = c.in_err-sum-2.ensures.refused in
    rw is (next_unfit c.args.first.now c.args.others.now c.loop-before.before c.index-others-before.result c.loop-before-test.true c.index-others-before.is c.deref.result.now c.deref.ensures.value
    _ fault.0 e c.loop-before.sum c.in_ok-more.more (omega arith) c.loop-before.invariant c.in_ok-more.ensures.read fault.1 fault.2)

pub loop-before-preserved : goal.loop-before-preserved
loop-before-preserved c =
    let a = c.in_ok-sum-2.ensures.added in
    next_sum c.args.first.now c.args.others.now c.loop-before.before c.index-others-before.result c.loop-before-test.true c.index-others-before.is c.deref.result.now c.deref.ensures.value
    c.loop-before.sum c.in_ok-more.more c.in_ok-sum-2.sum c.loop-before.invariant c.in_ok-more.ensures.read a.1 a.2 a.0
