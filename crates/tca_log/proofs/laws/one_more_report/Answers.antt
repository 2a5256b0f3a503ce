use Rattle.tca_log.proofs.Next.{undisputed_next, disputed_next, reports_next, kept_next, count_next, fresh_is_new, withdrawn_is_there}
use Rattle.tca_log.proofs.laws.one_more_report.Goals as goal

pub returns : goal.returns
returns c = record {
  undisputed = undisputed_next;
  disputed = disputed_next;
  kept = kept_next;
  count = count_next;
  reports = reports_next;
  new = fresh_is_new;
  there = withdrawn_is_there;
}
