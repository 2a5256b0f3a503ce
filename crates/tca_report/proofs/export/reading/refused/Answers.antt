use Rattle.std.proofs.Common.{◌≡◌, ◌-◌, ◌++◌, ◌∷◌, [], sym, subst, refl, ◌∙◌, true, false, arith, length-append}
use Rattle.std.specs.Prelude.{None}
use Rattle.tca_report.specs.report.Reports.{PacketReport, ranged}
use Rattle.tca_report.specs.export.Reading.{record_at, above}
use Rattle.tca_report.proofs.lemmas.export.ReadingLoop.{goes_on, range_ends, order_ends, is_done, ranged_none, ranged_some, rest_length, size_left, none_before, counted_whole}
use Rattle.tca_report.proofs.export.reading.refused.Goals as goal

pub loop-n-init : goal.loop-n-init
loop-n-init c =
    let all : c.args.count - 0 ≡ c.args.count = omega arith in
    record { so_far = ([], rw all (none_before _), refl); within = omega arith; enough = rw all (omega arith) }

pub returns-in_default-clause-fault : goal.returns-in_default-clause-fault
returns-in_default-clause-fault c =
    let s = c.loop-n.invariant.so_far in
    let none : None ≡ ranged (record_at c.args.format c.loop-n.rest.now).0 = sym c.in_default.is ∙ c.report_at-found.ensures.report in
    λ _. range_ends c.args.format s.0 c.args.count c.loop-n.n c.loop-n.last c.loop-n.rest.now _ c.loop-n-test.true s.1 (ranged_none (record_at c.args.format c.loop-n.rest.now).0 none)

pub returns-then-not-rises-clause-fault : goal.returns-then-not-rises-clause-fault
returns-then-not-rises-clause-fault c =
    let s = c.loop-n.invariant.so_far in
    let found = ranged_some (record_at c.args.format c.loop-n.rest.now).0 c.in-Some.report (sym c.in-Some.is ∙ c.report_at-found.ensures.report) in
    let order : above c.loop-n.last c.in-Some.report ≡ false = cc (c.follows-rises.ensures, c.if-not-rises.true) in
    λ _. order_ends c.args.format s.0 c.args.count c.loop-n.n c.loop-n.last c.loop-n.rest.now _ c.loop-n-test.true s.1 found.0 (subst (λ (r : PacketReport). above c.loop-n.last r ≡ false) found.1 order)

pub loop-n-preserved : goal.loop-n-preserved
loop-n-preserved c =
    let s = c.loop-n.invariant.so_far in
    let found = ranged_some (record_at c.args.format c.loop-n.rest.now).0 c.in-Some.report (sym c.in-Some.is ∙ c.report_at-found.ensures.report) in
    let order : above c.loop-n.last c.in-Some.report ≡ true = cc (c.follows-rises.ensures, c.if-not-rises.false) in
    record {
      so_far = (
        s.0 ++ (record_at c.args.format c.loop-n.rest.now).0 ∷ [],
        rw (found.1, c.report_at-found.ensures.rest) (goes_on c.args.format s.0 c.args.count c.loop-n.n c.loop-n.last c.loop-n.rest.now _ c.loop-n-test.true s.1 found.0 (subst (λ (r : PacketReport). above c.loop-n.last r ≡ true) found.1 order)),
        omega (arith, s.2, length-append s.0 ((record_at c.args.format c.loop-n.rest.now).0 ∷ [])),
      );
      within = omega arith;
      enough = rw c.report_at-found.ensures.rest (omega (arith, rest_length c.args.format c.loop-n.rest.now, size_left c.args.format c.args.count c.loop-n.n c.loop-n-test.true, c.loop-n.invariant.enough));
    }

pub returns-clause-memory : goal.returns-clause-memory
returns-clause-memory c =
    let s = c.loop-n.invariant.so_far in
    λ _. counted_whole s.0 c.args.count _ (is_done c.args.format s.0 c.args.count c.loop-n.n c.loop-n.last c.loop-n.rest.now _ c.loop-n-test.false s.1) (omega (arith, s.2, c.loop-n.invariant.within, c.loop-n-test.false))
