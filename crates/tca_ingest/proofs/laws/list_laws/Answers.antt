use Rattle.tca_ingest.specs.Journals.{no_lists}
use Rattle.tca_ingest.proofs.Histories.{right_at}
use Rattle.tca_ingest.proofs.Listings.{own_took, own_absorbed, part_took, part_absorbed, after_reads, fresh_last}
use Rattle.tca_ingest.proofs.laws.list_laws.Goals as goal

pub returns : goal.returns
returns c = record {
  fresh = fresh_last;
  own_took = own_took;
  own_absorbed = own_absorbed;
  part_took = part_took;
  part_absorbed = part_absorbed;
  after = after_reads;
  each = λ plan name before rest e right. right_at plan name no_lists before rest e right;
}
