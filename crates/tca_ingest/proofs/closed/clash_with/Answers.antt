use Rattle.std.proofs.Common.{◌≡◌, ◌-◌, ◌∙◌, length, arith}
use Rattle.tca_join.specs.Chains.{differ_at}
use Rattle.tca_join.specs.Maps.{clash_key}
use Rattle.tca_gossip.specs.Runs.{same_report}
use Rattle.tca_ingest.proofs.ClashSearch.{among_more, among_none}
use Rattle.tca_ingest.proofs.closed.clash_with.Goals as goal

pub loop-i-init : goal.loop-i-init
loop-i-init c = record { within = omega arith; least = among_none c.args.replica.now c.args.others.now (length c.args.others.now) (omega arith) }

pub loop-i-preserved : goal.loop-i-preserved
loop-i-preserved c =
    let l = c.loop-i in
    let v = c.args.replica.now in
    let key : c.fork.result ≡ clash_key (differ_at same_report) v.chains c.index-others-i.result.replica.chains = c.fork.ensures ∙ (λ k. clash_key (differ_at same_report) v.chains (c.other.view_is k).replica.chains) in
    record {
      within = omega (arith, l.invariant.within);
      least = c.lesser-least.ensures ∙ among_more c.args.others.now (l.i - 1) l.i c.index-others-i.result (omega (arith, l.invariant.within, c.loop-i-test.true)) c.index-others-i.is (omega (arith, c.loop-i-test.true)) v c.fork.result l.least key l.invariant.least;
    }
