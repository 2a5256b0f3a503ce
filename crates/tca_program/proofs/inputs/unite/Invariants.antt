use Rattle.std.proofs.Common.{◌≡◌, List, [], map, take, drop, Ok}
use Rattle.std.specs.List.Sorted.{IsStrictlySortedBy}
use Rattle.tca_report.specs.report.Reports.{PacketReport, report_cmp}
use Rattle.tca_report.specs.input.Inputs.{input_view}
use Rattle.tca_program.specs.Unions.{united_from}
use Rattle.tca_program.proofs.UnionLaws.{IsUnionWith}
use Rattle.tca_program.proofs.NotedLaws.{Completed}
use Rattle.tca_program.proofs.inputs.unite.Given as goal

-- what is left, added to what was united, is the whole
abbrev pub invariant-loop-n : goal.invariant-loop-n
invariant-loop-n l = record {
  exact : united_from l.n l.log (map input_view (drop l.n l.inputs)) ≡ united_from 0 [] (map input_view l.inputs);
  taken : united_from 0 [] (map input_view (take l.n l.inputs)) ≡ Ok l.log;
  union : (rs : List PacketReport) → IsUnionWith l.log (map input_view (drop l.n l.inputs)) rs → IsUnionWith [] (map input_view l.inputs) rs;
  noted : Completed (map input_view l.inputs) (map input_view (drop l.n l.inputs)) l.all.items;
  rises : IsStrictlySortedBy report_cmp l.log;
}
