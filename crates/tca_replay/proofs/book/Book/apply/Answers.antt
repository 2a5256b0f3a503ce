use Rattle.std.proofs.Common.{sym, subst, ◌∙◌, arith}
use Rattle.tca_join.specs.Sets.{put}
use Rattle.tca_report.specs.report.Reports.{report_cmp}
use Rattle.tca_log.specs.declared.answer.Added.TheVariants.{MoreDispute, Repeat, NewDispute, Fresh}
use Rattle.tca_replay.specs.Books.{BookView, Takes, Fits}
use Rattle.tca_replay.proofs.Books.{reports_few, fits_after}
use Rattle.tca_replay.proofs.book.Book.apply.Goals as goal

pub overflow_add-self : goal.overflow_add-self
overflow_add-self g c =
    let i = c.self.inside in
    let view : BookView = record { plan = i.plan; k = i.k; lanes = i.lanes.items; reports = i.reports; disputed = i.disputed; unassigned = i.unassigned } in
    let t : Takes view c.args.report c.args.added = rw (← c.self.view_is) at c.requires.takes in
    omega (arith, t.few, reports_few view c.args.report c.args.added t)

pub returns-in-Fresh-clause-fits : goal.returns-in-Fresh-clause-fits
returns-in-Fresh-clause-fits g c rs rises fits answer =
    subst (Fits (put report_cmp c.args.report rs)) (sym (c.take.ensures)) (fits_after c.args.self.now rs fits c.args.report Fresh rises (sym c.in-Fresh.is ∙ answer))

pub returns-in-Repeat-clause-fits : goal.returns-in-Repeat-clause-fits
returns-in-Repeat-clause-fits g c rs rises fits answer =
    fits_after c.args.self.now rs fits c.args.report Repeat rises (sym c.in-Repeat.is ∙ answer)

pub returns-in-NewDispute-clause-book : goal.returns-in-NewDispute-clause-book
returns-in-NewDispute-clause-book g c = rw c.in-NewDispute.is (c.dispute.ensures c.args.report)

pub returns-in-NewDispute-clause-fits : goal.returns-in-NewDispute-clause-fits
returns-in-NewDispute-clause-fits g c rs rises fits answer =
    subst (Fits (put report_cmp c.args.report rs)) (sym (c.dispute.ensures c.args.report)) (fits_after c.args.self.now rs fits c.args.report (NewDispute c.in-NewDispute.withdrawn) rises (sym c.in-NewDispute.is ∙ answer))

pub returns-in-MoreDispute-clause-fits : goal.returns-in-MoreDispute-clause-fits
returns-in-MoreDispute-clause-fits g c rs rises fits answer =
    let i = c.self.inside in
    let view : BookView = record { plan = i.plan; k = i.k; lanes = i.lanes.items; reports = i.reports; disputed = i.disputed; unassigned = i.unassigned } in
    let old : Fits rs view = rw (← c.self.view_is) at fits in
    fits_after view rs old c.args.report MoreDispute rises (sym c.in-MoreDispute.is ∙ answer)
