use Rattle.std.proofs.Common.{◌≡◌, ◌<◌, Some, length, get_or, sym, ap, ◌∙◌, arith}
use Rattle.tca_accounts.specs.Plans.{account_of}
use Rattle.tca_replay.specs.Lanes.{lane_less}
use Rattle.tca_replay.proofs.Books.{set_changed}
use Rattle.tca_replay.proofs.book.leave.Goals as goal

pub returns-clause-lanes : goal.returns-clause-lanes
returns-clause-lanes g c =
    let lanes = c.args.lanes.now.items in
    let d = c.index_mut-lane.result.now in
    let n = c.in-Some.n in
    let own : account_of c.args.plan.now c.args.report.now ≡ Some n = sym c.account_of.ensures.account ∙ c.in-Some.is in
    let below : n < length c.args.plan.now.accounts = c.in-Some.ensures.below in
    let inside : n < length lanes = omega (arith, below, c.requires.lanes) in
    let now : c.withdraw.new.self ≡ lane_less (get_or lanes n d) c.args.report.now = c.withdraw.ensures ∙ ap (λ l. lane_less l c.args.report.now) c.index_mut-lane.ensures.value in
    rw own (set_changed (λ l. lane_less l c.args.report.now) n lanes d c.withdraw.new.self inside now)
