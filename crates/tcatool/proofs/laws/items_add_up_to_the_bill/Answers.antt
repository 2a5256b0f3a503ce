use Rattle.tcatool.proofs.Itemised.{octets_add_up, packets_add_up, period_octets_add_up, period_packets_add_up}
use Rattle.tcatool.proofs.laws.items_add_up_to_the_bill.Goals as goal

pub returns : goal.returns
returns c = record {
  lines = λ plan rs items are. are.reports;
  octets = octets_add_up;
  packets = packets_add_up;
  period_octets = period_octets_add_up;
  period_packets = period_packets_add_up;
}
