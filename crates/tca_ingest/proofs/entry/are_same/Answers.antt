use Rattle.std.proofs.lemmas.Slice.Eq.{slice_eq-Decides}
use Rattle.tca_gossip.proofs.Exact.{report_decides}
use Rattle.tca_ingest.proofs.entry.are_same.Goals as goal

pub returns : goal.returns
returns c = slice_eq-Decides report_decides c.args.first.now c.args.second.now c.eq.result c.eq.ensures
