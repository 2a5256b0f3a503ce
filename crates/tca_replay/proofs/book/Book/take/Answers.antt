use Rattle.std.proofs.Common.{◌+◌, refl, arith}
use Rattle.tca_log.specs.declared.answer.Added.TheVariants.{Fresh}
use Rattle.tca_accounts.specs.Plans.{account_of}
use Rattle.tca_replay.specs.Lanes.{lane_put}
use Rattle.tca_replay.specs.Books.{BookView, Takes, IsReady}
use Rattle.tca_replay.proofs.Books.{can_enter, reports_few, unassigned_few, few_one, lanes_kept, one_more_if}
use Rattle.std.specs.Prelude.{is_none}
use Rattle.tca_replay.proofs.book.Book.take.Goals as goal

pub enter-requires-clause-free : goal.enter-requires-clause-free
enter-requires-clause-free g c =
    let i = c.self.inside in
    let view : BookView = record { plan = i.plan; k = i.k; lanes = i.lanes.items; reports = i.reports; disputed = i.disputed; unassigned = i.unassigned } in
    let t : Takes view c.args.report Fresh = rw (← c.self.view_is) at c.requires.takes in
    let ready : IsReady view c.args.report = rw (← c.self.view_is) at c.requires.ready in
    can_enter view c.args.report Fresh t refl ready

pub overflow_add-self : goal.overflow_add-self
overflow_add-self g c =
    let i = c.self.inside in
    let view : BookView = record { plan = i.plan; k = i.k; lanes = i.lanes.items; reports = i.reports; disputed = i.disputed; unassigned = i.unassigned } in
    let t : Takes view c.args.report Fresh = rw (← c.self.view_is) at c.requires.takes in
    omega (arith, t.few, reports_few view c.args.report Fresh t, unassigned_few view c.args.report Fresh t, c.enter.ensures.none, few_one (is_none (account_of i.plan c.args.report)))

pub overflow_add-self-2 : goal.overflow_add-self-2
overflow_add-self-2 g c =
    let i = c.self.inside in
    let view : BookView = record { plan = i.plan; k = i.k; lanes = i.lanes.items; reports = i.reports; disputed = i.disputed; unassigned = i.unassigned } in
    let t : Takes view c.args.report Fresh = rw (← c.self.view_is) at c.requires.takes in
    omega (arith, t.few, reports_few view c.args.report Fresh t)

pub invariant_of-self : goal.invariant_of-self
invariant_of-self g c = record {
  lanes_are = rw c.enter.ensures.lanes (lanes_kept c.self.inside.plan c.self.inside.k (λ l. lane_put l c.args.report) (λ l. refl) (account_of c.self.inside.plan c.args.report) c.self.inside.lanes.items c.self.invariant.lanes_are);
  some = c.self.invariant.some;
  small = c.self.invariant.small;
}

pub returns : goal.returns
returns g c =
    let i = c.self.inside in
    let count = one_more_if (is_none (account_of i.plan c.args.report)) i.unassigned c.enter.result c.enter.ensures.none in
    rw (← c.self.view_is) (λ j. record { plan = i.plan; k = i.k; lanes = c.enter.ensures.lanes j; reports = i.reports + 1; disputed = i.disputed; unassigned = count j })
