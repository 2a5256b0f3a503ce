use Rattle.tca_gossip.proofs.Agreeing.{nothing_agrees}
use Rattle.tca_gossip.proofs.contents.Contents.new.Goals as goal

pub invariant_of-result : goal.invariant_of-result
invariant_of-result c = rw (c.new.ensures, c.new-2.ensures) (nothing_agrees c.args.name c.in_ok-new.field-0 c.in_ok-new.ensures.bills)
