use Rattle.std.proofs.Common.{◌≡◌, ◌<◌, Some, length, get_or, sym, ap, ◌∙◌, arith}
use Rattle.tca_accounts.specs.Plans.{account_of}
use Rattle.tca_replay.specs.Lanes.{lane_put, lane_ready}
use Rattle.tca_replay.specs.Books.{CanPut}
use Rattle.tca_replay.proofs.Books.{set_changed, changed_twice, lane_free}
use Rattle.tca_replay.proofs.book.fill.Goals as goal

pub put-requires-clause-new : goal.put-requires-clause-new
put-requires-clause-new g c =
    let lanes = c.args.lanes.now.items in
    let n = c.in-Some.n in
    let old = c.index_mut-lane.result.now in
    let own : account_of c.args.plan.now c.args.report.now ≡ Some n = sym c.account_of.ensures.account ∙ c.in-Some.is in
    let inside : n < length lanes = omega (arith, c.in-Some.ensures.below, c.requires.lanes) in
    let free : CanPut (lane_ready old) c.args.report.now = lane_free c.args.plan.now c.args.report.now lanes n old old c.requires.free own inside c.index_mut-lane.ensures.value in
    rw c.in_ok-reserve_row.ensures.ok free.new

pub put-requires-clause-few : goal.put-requires-clause-few
put-requires-clause-few g c =
    let lanes = c.args.lanes.now.items in
    let n = c.in-Some.n in
    let old = c.index_mut-lane.result.now in
    let own : account_of c.args.plan.now c.args.report.now ≡ Some n = sym c.account_of.ensures.account ∙ c.in-Some.is in
    let inside : n < length lanes = omega (arith, c.in-Some.ensures.below, c.requires.lanes) in
    let free : CanPut (lane_ready old) c.args.report.now = lane_free c.args.plan.now c.args.report.now lanes n old old c.requires.free own inside c.index_mut-lane.ensures.value in
    rw c.in_ok-reserve_row.ensures.ok free.few

pub returns-clause-lanes : goal.returns-clause-lanes
returns-clause-lanes g c =
    let lanes = c.args.lanes.now.items in
    let n = c.in-Some.n in
    let old = c.index_mut-lane.result.now in
    let r = c.args.report.now in
    let own : account_of c.args.plan.now r ≡ Some n = sym c.account_of.ensures.account ∙ c.in-Some.is in
    let inside : n < length lanes = omega (arith, c.in-Some.ensures.below, c.requires.lanes) in
    let now : c.put.new.self ≡ lane_put (lane_ready (get_or lanes n old)) r = c.put.ensures ∙ ap (λ l. lane_put l r) (c.in_ok-reserve_row.ensures.ok ∙ ap lane_ready c.index_mut-lane.ensures.value) in
    rw own (set_changed (λ l. lane_put (lane_ready l) r) n lanes old c.put.new.self inside now ∙ sym (changed_twice lane_ready (λ l. lane_put l r) n lanes))
