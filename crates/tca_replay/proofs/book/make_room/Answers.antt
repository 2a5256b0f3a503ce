use Rattle.std.proofs.Common.{◌≡◌, ◌<◌, Some, length, sym, ap, ◌∙◌, arith}
use Rattle.tca_accounts.specs.Plans.{account_of}
use Rattle.tca_replay.specs.Lanes.{lane_ready}
use Rattle.tca_replay.proofs.Books.{set_changed, on_ok}
use Rattle.tca_replay.proofs.book.make_room.Goals as goal

pub returns-clause-ok : goal.returns-clause-ok
returns-clause-ok g c =
    let lanes = c.args.lanes.now.items in
    let d = c.index_mut-lane.result.now in
    let n = c.in-Some.n in
    let own : account_of c.args.plan.now c.args.report.now ≡ Some n = sym c.account_of.ensures.account ∙ c.in-Some.is in
    let below : n < length c.args.plan.now.accounts = c.in-Some.ensures.below in
    let inside : n < length lanes = omega (arith, below, c.requires.lanes) in
    rw own (on_ok c.reserve_row.result (λ now. set_changed lane_ready n lanes d c.reserve_row.new.self inside (now ∙ ap lane_ready c.index_mut-lane.ensures.value)) c.reserve_row.ensures.ok)
