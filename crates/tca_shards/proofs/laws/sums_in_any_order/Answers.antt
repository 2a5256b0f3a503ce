use Rattle.tca_shards.proofs.SpanBySpan.{spans_add_up}
use Rattle.tca_shards.proofs.AnyOrder.{sums_associate, sums_commute}
use Rattle.tca_shards.proofs.laws.sums_in_any_order.Goals as goal

pub returns : goal.returns
returns c = record { spans = spans_add_up; commute = sums_commute; associate = sums_associate }
