use Rattle.std.proofs.Common.{ap}
use Rattle.tca_gossip.specs.inside.Storage.{ContentsView}
use Rattle.tca_gossip.proofs.absorb.append_runs.Goals as goal

pub append_rests-requires-clause-good : goal.append_rests-requires-clause-good
append_rests-requires-clause-good c = rw (ap (λ (v : ContentsView). v.replica) (c.append_at_once.ensures.same c.if-append_at_once.false)) c.requires.good

pub returns-clause-state : goal.returns-clause-state
returns-clause-state c = rw (ap (λ (v : ContentsView). v.replica) (c.append_at_once.ensures.same c.if-append_at_once.false)) at c.append_rests.ensures.state

pub returns-clause-count : goal.returns-clause-count
returns-clause-count c = rw (ap (λ (v : ContentsView). v.replica) (c.append_at_once.ensures.same c.if-append_at_once.false)) at c.append_rests.ensures.count

pub returns-clause-stop : goal.returns-clause-stop
returns-clause-stop c = rw (ap (λ (v : ContentsView). v.replica) (c.append_at_once.ensures.same c.if-append_at_once.false)) at c.append_rests.ensures.stop
