use Rattle.std.proofs.Common.{ℕ}
use Rattle.std.specs.Global.{Vec}
use Rattle.std.specs.BTreeMap.{get}
use Rattle.std.specs.Ordering.{nat_cmp}
use Rattle.tca_split.proofs.BufferSteps.{empty_more}
use Rattle.tca_split.proofs.buffers.Buffers.new.Goals as goal

pub loop-domain-preserved : goal.loop-domain-preserved
loop-domain-preserved c = record {
  made = λ d. empty_more (λ (v : Vec ℕ). v.items) c.args.domains.now c.loop-domain.domain-index d _ (get nat_cmp c.loop-domain.buffers d) (get nat_cmp c.insert.new.self d) c.loop-domain-test.true
      c.in_ok-with_capacity.ensures.items (c.loop-domain.invariant.made d) (c.in_ok-insert.ensures.updates.0 d);
}
