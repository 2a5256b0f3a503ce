use Rattle.tca_ingest.specs.EntryViews.{entry_views}
use Rattle.tca_ingest.proofs.Replayed.{replayed_of}
use Rattle.tca_ingest.proofs.held.Held.replica.Goals as goal

pub returns-clause-replayed : goal.returns-clause-replayed
returns-clause-replayed g c =
    replayed_of g.L.Side.plan g.L.Side.called (record { replica = c.self.inside.replica; journal = entry_views c.self.inside.journal.items; passes = c.self.inside.passes }) c.args.self.now c.self.view_is c.self.invariant.0
