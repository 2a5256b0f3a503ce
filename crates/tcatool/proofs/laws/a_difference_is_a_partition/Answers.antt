use Rattle.tcatool.proofs.Partition.{all_counted, equal_if_none, lines_counted, members_both, members_first, members_second, members_shared, none_if_equal}
use Rattle.tcatool.proofs.laws.a_difference_is_a_partition.Goals as goal

pub returns : goal.returns
returns c = record {
  union = members_both;
  first = members_first;
  second = members_second;
  both = members_shared;
  counts = all_counted;
  lines = lines_counted;
  equal = equal_if_none;
  no_line = none_if_equal;
}
