use Rattle.std.proofs.Common.{◌+◌, refl, arith}
use Rattle.std.specs.Prelude.{is_none}
use Rattle.tca_log.specs.declared.answer.Added.TheVariants.{NewDispute}
use Rattle.tca_report.specs.report.Reports.{PacketReport}
use Rattle.tca_accounts.specs.Plans.{account_of}
use Rattle.tca_replay.specs.Lanes.{lane_less}
use Rattle.tca_replay.specs.Books.{BookView, Takes}
use Rattle.tca_replay.proofs.Books.{can_leave, reports_few, was_unassigned, disputed_few, lanes_kept, one_less_if}
use Rattle.tca_replay.proofs.book.Book.dispute.Goals as goal

pub leave-requires-clause-there : goal.leave-requires-clause-there
leave-requires-clause-there g c =
    let i = c.self.inside in
    let q = c.args.withdrawn.now in
    let view : BookView = record { plan = i.plan; k = i.k; lanes = i.lanes.items; reports = i.reports; disputed = i.disputed; unassigned = i.unassigned } in
    let t : (r : PacketReport) × Takes view r (NewDispute q) = rw (← c.self.view_is) at c.requires.takes in
    can_leave view t.0 (NewDispute q) t.1 q refl

pub overflow_sub-self : goal.overflow_sub-self
overflow_sub-self g c =
    let i = c.self.inside in
    let q = c.args.withdrawn.now in
    let view : BookView = record { plan = i.plan; k = i.k; lanes = i.lanes.items; reports = i.reports; disputed = i.disputed; unassigned = i.unassigned } in
    let t : (r : PacketReport) × Takes view r (NewDispute q) = rw (← c.self.view_is) at c.requires.takes in
    omega (arith, was_unassigned view t.0 (NewDispute q) t.1 q refl, c.leave.ensures.none)

pub overflow_add-self : goal.overflow_add-self
overflow_add-self g c =
    let i = c.self.inside in
    let q = c.args.withdrawn.now in
    let view : BookView = record { plan = i.plan; k = i.k; lanes = i.lanes.items; reports = i.reports; disputed = i.disputed; unassigned = i.unassigned } in
    let t : (r : PacketReport) × Takes view r (NewDispute q) = rw (← c.self.view_is) at c.requires.takes in
    omega (arith, t.1.few, disputed_few view t.0 (NewDispute q) t.1 q refl)

pub overflow_add-self-2 : goal.overflow_add-self-2
overflow_add-self-2 g c =
    let i = c.self.inside in
    let q = c.args.withdrawn.now in
    let view : BookView = record { plan = i.plan; k = i.k; lanes = i.lanes.items; reports = i.reports; disputed = i.disputed; unassigned = i.unassigned } in
    let t : (r : PacketReport) × Takes view r (NewDispute q) = rw (← c.self.view_is) at c.requires.takes in
    omega (arith, t.1.few, reports_few view t.0 (NewDispute q) t.1)

pub invariant_of-self : goal.invariant_of-self
invariant_of-self g c = record {
  lanes_are = rw c.leave.ensures.lanes (lanes_kept c.self.inside.plan c.self.inside.k (λ l. lane_less l c.args.withdrawn.now) (λ l. refl) (account_of c.self.inside.plan c.args.withdrawn.now) c.self.inside.lanes.items c.self.invariant.lanes_are);
  some = c.self.invariant.some;
  small = c.self.invariant.small;
}

pub returns : goal.returns
returns g c r =
    let i = c.self.inside in
    let q = c.args.withdrawn.now in
    let count = one_less_if (is_none (account_of i.plan q)) i.unassigned c.leave.result c.leave.ensures.none in
    rw (← c.self.view_is) (λ j. record { plan = i.plan; k = i.k; lanes = c.leave.ensures.lanes j; reports = i.reports + 1; disputed = i.disputed + 1; unassigned = count j })
