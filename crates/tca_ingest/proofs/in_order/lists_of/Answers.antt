use Rattle.std.proofs.Common.{◌≡◌, subst}
use Rattle.std.specs.List.{AllByRecursion}
use Rattle.tca_ingest.specs.Entries.{pass_of}
use Rattle.tca_ingest.specs.Passes.{PassView}
use Rattle.tca_ingest.proofs.Collecting.{all_more, calls_more, list_more}
use Rattle.tca_ingest.proofs.in_order.lists_of.Goals as goal

pub loop-pass-preserved : goal.loop-pass-preserved
loop-pass-preserved g c =
    let Own : PassView → Type 0 = λ p. AllByRecursion (λ e. pass_of e ≡ p.number) p.calls in (
      calls_more c.args.passes.now c.loop-pass.pass-index c.pass-item.result _ _ _ c.loop-pass-test.true c.pass-item.is c.loop-pass.invariant.0
          (list_more c.loop-pass.left.items c.push.new.self.items c.calls.result c.in_ok-push.ensures.items) c.calls.ensures.calls,
      all_more Own c.args.passes.now c.loop-pass.pass-index c.pass-item.result c.loop-pass-test.true c.loop-pass.invariant.1 (subst Own c.pass-item.is c.calls.ensures.whose),
    )
