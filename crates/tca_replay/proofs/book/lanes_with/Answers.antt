use Rattle.std.proofs.lemmas.Grind.{common_steps}
use Rattle.std.proofs.Common.{◌≡◌, ◌∷◌, arith}
use Rattle.std.specs.Prelude.{is_none}
use Rattle.tca_log.specs.Disputes.{undisputed}
use Rattle.tca_accounts.specs.Plans.{account_of}
use Rattle.tca_replay.specs.Books.{AreFilled}
use Rattle.tca_replay.proofs.Books.{few_one}
use Rattle.tca_replay.proofs.Filling.{filled_none, can_enter, number_few, filled_more}
use Rattle.tca_replay.proofs.book.lanes_with.Goals as goal

pub loop-report-init : goal.loop-report-init
loop-report-init g c =
    let all : c.into_iter-report-iterator.result ≡ undisputed c.args.log.now = cc in
    rw all (filled_none c.args.plan.now c.args.k (undisputed c.args.log.now) c.in_ok-lanes.lanes.items c.in_ok-lanes.ensures.lanes c.in_ok-lanes.ensures.empty)

pub fill-requires-clause-free : goal.fill-requires-clause-free
fill-requires-clause-free g c =
    let l = c.loop-report in
    let x = c.in-Some.report.now in
    let all = undisputed c.args.log.now in
    let f : AreFilled c.args.plan.now c.args.k all (x ∷ c.next.new.self) l.unassigned l.lanes.items = rw c.in-Some.ensures.steps at l.invariant in
    can_enter c.args.plan.now c.args.k all x c.next.new.self l.unassigned l.lanes.items f c.settled-report-items.ensures.rises c.settled-report-items.ensures.limit

pub overflow_add-unassigned : goal.overflow_add-unassigned
overflow_add-unassigned g c =
    let l = c.loop-report in
    let x = c.in-Some.report.now in
    let all = undisputed c.args.log.now in
    let f : AreFilled c.args.plan.now c.args.k all (x ∷ c.next.new.self) l.unassigned l.lanes.items = rw c.in-Some.ensures.steps at l.invariant in
    omega (arith, number_few c.args.plan.now c.args.k all x c.next.new.self l.unassigned l.lanes.items f c.settled-report-items.ensures.rises, c.settled-report-items.ensures.limit, c.in_ok-unassigned.ensures.none, few_one (is_none (account_of c.args.plan.now x)))

pub loop-report-preserved : goal.loop-report-preserved
loop-report-preserved g c =
    let l = c.loop-report in
    let x = c.in-Some.report.now in
    let all = undisputed c.args.log.now in
    let f : AreFilled c.args.plan.now c.args.k all (x ∷ c.next.new.self) l.unassigned l.lanes.items = rw c.in-Some.ensures.steps at l.invariant in
    rw (c.in_ok-unassigned.ensures.lanes, c.in_ok-unassigned.ensures.none) (filled_more c.args.plan.now c.args.k all x c.next.new.self l.unassigned l.lanes.items f c.settled-report-items.ensures.rises)

pub lanes_of-requires-clause-some_rows : goal.lanes_of-requires-clause-some_rows
lanes_of-requires-clause-some_rows g c = grind (arith, common_steps)

pub lanes_of-requires-clause-few_rows : goal.lanes_of-requires-clause-few_rows
lanes_of-requires-clause-few_rows g c = grind (arith, common_steps)

pub returns-in_err-lanes : goal.returns-in_err-lanes
returns-in_err-lanes g c = grind (arith, common_steps)

pub fill-requires-clause-lanes : goal.fill-requires-clause-lanes
fill-requires-clause-lanes g c = grind (arith, common_steps)

pub returns-in_err-unassigned : goal.returns-in_err-unassigned
returns-in_err-unassigned g c = grind (arith, common_steps)

pub returns : goal.returns
returns g c = grind (arith, common_steps)
