use Rattle.std.proofs.Common.{◌<◌, length, rules}
use Rattle.tca_ingest.specs.EntryViews.{entry_view}
use Rattle.tca_ingest.proofs.Collecting.{front_taken}
use Rattle.tca_ingest.proofs.in_order.take_at.Goals as goal

pub returns-in-Some-clause-taken : goal.returns-in-Some-clause-taken
returns-in-Some-clause-taken c taken =
    let low : c.args.at < length c.args.left.now.items = search rules in
    front_taken c.args.left.now.items c.args.at c.index.result.now c.in-Some.rest (entry_view c.args.entry.now) low c.index.ensures c.in-Some.ensures
