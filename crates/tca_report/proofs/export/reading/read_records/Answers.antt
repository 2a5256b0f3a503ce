use Rattle.std.proofs.Common.{◌≡◌, sym, subst, ◌∙◌, true, false, arith}
use Rattle.std.specs.Prelude.{None}
use Rattle.tca_report.specs.report.Reports.{PacketReport, ranged}
use Rattle.tca_report.specs.export.Reading.{record_at, above}
use Rattle.tca_report.proofs.lemmas.export.ReadingLoop.{goes_on, range_ends, order_ends, is_done, ranged_none, ranged_some, rest_length, size_left}
use Rattle.tca_report.proofs.export.reading.read_records.Goals as goal

pub returns-in_default-clause-fault : goal.returns-in_default-clause-fault
returns-in_default-clause-fault c =
    let none : None ≡ ranged (record_at c.args.format c.loop-n.rest.now).0 = sym c.in_default.is ∙ c.report_at-found.ensures.report in
    range_ends c.args.format c.loop-n.into.items c.args.count c.loop-n.n c.loop-n.last c.loop-n.rest.now _ c.loop-n-test.true c.loop-n.invariant.so_far (ranged_none (record_at c.args.format c.loop-n.rest.now).0 none)

pub returns-then-not-rises-clause-fault : goal.returns-then-not-rises-clause-fault
returns-then-not-rises-clause-fault c =
    let found = ranged_some (record_at c.args.format c.loop-n.rest.now).0 c.in-Some.report (sym c.in-Some.is ∙ c.report_at-found.ensures.report) in
    let order : above c.loop-n.last c.in-Some.report ≡ false = cc (c.follows-rises.ensures, c.if-not-rises.true) in
    order_ends c.args.format c.loop-n.into.items c.args.count c.loop-n.n c.loop-n.last c.loop-n.rest.now _ c.loop-n-test.true c.loop-n.invariant.so_far found.0 (subst (λ (r : PacketReport). above c.loop-n.last r ≡ false) found.1 order)

pub loop-n-preserved : goal.loop-n-preserved
loop-n-preserved c =
    let found = ranged_some (record_at c.args.format c.loop-n.rest.now).0 c.in-Some.report (sym c.in-Some.is ∙ c.report_at-found.ensures.report) in
    let order : above c.loop-n.last c.in-Some.report ≡ true = cc (c.follows-rises.ensures, c.if-not-rises.false) in
    record {
      so_far = rw (c.push_reserved.ensures.items, found.1, c.report_at-found.ensures.rest) (goes_on c.args.format c.loop-n.into.items c.args.count c.loop-n.n c.loop-n.last c.loop-n.rest.now _ c.loop-n-test.true c.loop-n.invariant.so_far found.0 (subst (λ (r : PacketReport). above c.loop-n.last r ≡ true) found.1 order));
      filled = omega arith;
      room = omega arith;
      enough = rw c.report_at-found.ensures.rest (omega (arith, rest_length c.args.format c.loop-n.rest.now, size_left c.args.format c.args.count c.loop-n.n c.loop-n-test.true, c.loop-n.invariant.enough));
    }

pub returns-clause-ok : goal.returns-clause-ok
returns-clause-ok c = is_done c.args.format c.loop-n.into.items c.args.count c.loop-n.n c.loop-n.last c.loop-n.rest.now _ c.loop-n-test.false c.loop-n.invariant.so_far
