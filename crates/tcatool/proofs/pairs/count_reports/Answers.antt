use Rattle.std.proofs.Common.{◌≡◌, ◌∙◌, ◌<◌, List, [], ◌∷◌, ◌++◌, append_assoc, get_or, length, ap, sym, arith}
use Rattle.tca_report.specs.report.Reports.{PacketReport}
use Rattle.tcatool.specs.Paired.{pair_of, pairs_of}
use Rattle.tcatool.proofs.Pairing.{count_step, fewer, old_at, pair_few, pair_there, pairs_rise}
use Rattle.tcatool.proofs.pairs.count_reports.Goals as goal

pub place_of-requires-clause-rises : goal.place_of-requires-clause-rises
place_of-requires-clause-rises c = rw c.requires.pairs (pairs_rise c.args.log.now)

pub place_of-requires-clause-there : goal.place_of-requires-clause-there
place_of-requires-clause-there c =
    let so_far = c.loop-report.invariant in
    let x = c.in-Some.report.now in
    let rest = c.next.new.self in
    let parts : so_far.0 ++ x ∷ rest ≡ c.args.log.now = ap (λ (l : List PacketReport). so_far.0 ++ l) (sym c.in-Some.ensures.steps) ∙ so_far.1 in
    rw c.requires.pairs (pair_there c.args.log.now so_far.0 x rest parts)

pub count-requires : goal.count-requires
count-requires c =
    let l = c.loop-report in
    let so_far = l.invariant in
    let x = c.in-Some.report.now in
    let rest = c.next.new.self in
    let parts : so_far.0 ++ x ∷ rest ≡ c.args.log.now = ap (λ (xs : List PacketReport). so_far.0 ++ xs) (sym c.in-Some.ensures.steps) ∙ so_far.1 in
    let low : c.place_of.result < length (pairs_of c.args.log.now) = rw c.requires.pairs at c.place_of.ensures.inside in
    let is : get_or (pairs_of c.args.log.now) c.place_of.result (pair_of x) ≡ pair_of x = rw c.requires.pairs at c.place_of.ensures.pair in
    let old = c.index_mut-usage.result.now in
    let old_is = old_at so_far.0 [] x (pairs_of c.args.log.now) c.place_of.result (pairs_rise c.args.log.now) low is l.usages.items so_far.2 old old c.index_mut-usage.ensures.value in
    omega (arith, ap (λ u. u.reports) old_is, pair_few (pair_of x) so_far.0, fewer c.args.log.now so_far.0 x rest parts, c.reports-report-items.ensures.limit)

pub loop-report-preserved : goal.loop-report-preserved
loop-report-preserved c =
    let l = c.loop-report in
    let so_far = l.invariant in
    let x = c.in-Some.report.now in
    let rest = c.next.new.self in
    let parts : so_far.0 ++ x ∷ rest ≡ c.args.log.now = ap (λ (xs : List PacketReport). so_far.0 ++ xs) (sym c.in-Some.ensures.steps) ∙ so_far.1 in
    let low : c.place_of.result < length (pairs_of c.args.log.now) = rw c.requires.pairs at c.place_of.ensures.inside in
    let is : get_or (pairs_of c.args.log.now) c.place_of.result (pair_of x) ≡ pair_of x = rw c.requires.pairs at c.place_of.ensures.pair in
    let old = c.index_mut-usage.result.now in (
      so_far.0 ++ x ∷ [],
      append_assoc so_far.0 (x ∷ []) rest ∙ parts,
      count_step so_far.0 [] x (pairs_of c.args.log.now) c.place_of.result (pairs_rise c.args.log.now) low is l.usages.items so_far.2 old c.count.new.self c.index_mut-usage.ensures.value c.content.result.time (ap (λ k. k.time) c.content.ensures.value) c.count.ensures,
    )
