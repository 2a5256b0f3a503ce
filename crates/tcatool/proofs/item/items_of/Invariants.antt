use Rattle.std.proofs.Common.{◌≡◌, ◌++◌, map, filter}
use Rattle.std.specs.List.Sorted.{IsStrictlySortedBy}
use Rattle.tca_report.specs.report.Reports.{report_cmp}
use Rattle.tcatool.specs.Listed.{is_settled, item_alone}
use Rattle.tcatool.specs.inside.Settling.{ahead}
use Rattle.tcatool.proofs.item.items_of.Given as goal

-- the items so far, and those of what is left, are all; and the settled ones of what is left come next
abbrev pub invariant-loop-report : goal.invariant-loop-report
invariant-loop-report l = record {
  items : l.items.items ++ map (item_alone l.log) l.report-iterator ≡ map (item_alone l.log) l.log;
  settled : ahead l.next l.settled ≡ filter (is_settled l.log) l.report-iterator;
  rises : IsStrictlySortedBy report_cmp l.report-iterator;
}
