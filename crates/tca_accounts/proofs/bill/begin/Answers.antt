use Rattle.std.proofs.lemmas.Grind.{common_steps}
use Rattle.std.proofs.Common.{arith}
use Rattle.tca_accounts.proofs.Bills.{begun_more, all_begun}
use Rattle.tca_accounts.proofs.bill.begin.Goals as goal

pub loop-n-preserved : goal.loop-n-preserved
loop-n-preserved c =
    rw c.in_ok-push.ensures.items (begun_more c.args.plan.now c.loop-n.n c.loop-n.list.items c.meter.result c.other.result c.new.result c.loop-n.invariant (omega (arith, c.accounts-n-end.ensures.value)) c.meter.ensures.value c.other.ensures c.new.ensures.running c.new.ensures.time)

pub returns : goal.returns
returns c = all_begun c.args.plan.now c.loop-n.n c.loop-n.list.items c.loop-n.invariant (omega (arith, c.accounts-n-end.ensures.value))

pub returns-in_err-push : goal.returns-in_err-push
returns-in_err-push c = grind (arith, common_steps)
