use Rattle.std.proofs.Common.{◌≡◌, ◌<◌, Some, length, get_or, sym, ap, ◌∙◌, arith}
use Rattle.tca_accounts.specs.Plans.{account_of}
use Rattle.tca_replay.specs.Lanes.{lane_put}
use Rattle.tca_replay.proofs.Books.{set_changed}
use Rattle.tca_replay.proofs.book.enter.Goals as goal

pub returns-clause-lanes : goal.returns-clause-lanes
returns-clause-lanes g c =
    let lanes = c.args.lanes.now.items in
    let d = c.index_mut-lane.result.now in
    let n = c.in-Some.n in
    let own : account_of c.args.plan.now c.args.report ≡ Some n = sym c.account_of.ensures.account ∙ c.in-Some.is in
    let below : n < length c.args.plan.now.accounts = c.in-Some.ensures.below in
    let inside : n < length lanes = omega (arith, below, c.requires.lanes) in
    let now : c.put.new.self ≡ lane_put (get_or lanes n d) c.args.report = c.put.ensures ∙ ap (λ l. lane_put l c.args.report) c.index_mut-lane.ensures.value in
    rw own (set_changed (λ l. lane_put l c.args.report) n lanes d c.put.new.self inside now)
