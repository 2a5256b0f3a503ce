use Rattle.std.proofs.Common.{◌≡◌, ◌≤◌, ◌++◌, length, take, drop}
use Rattle.std.specs.List.{flat_map}
use Rattle.std.specs.Io.KnownBytes.{Appends}
use Rattle.tca_report.specs.export.Spelling.{export, record_octets}
use Rattle.tca_report.specs.declared.export.Format.TheVariants.{Version2}
use Rattle.tca_report.proofs.export.writing.write_export.Given as goal

-- what is still to go out is the buffer, and then the records of the reports that are left
abbrev pub invariant-loop-report : goal.invariant-loop-report
invariant-loop-report g l = record {
  went : Appends (g.W.Write.written l.initial.out) (g.W.Write.written l.out) (take l.written (export l.reports));
  left : drop l.written (export l.reports) ≡ l.buffer.items ++ flat_map (record_octets Version2) (drop l.report-index l.reports);
  within : l.written ≤ length (export l.reports);
  quiet : g.W.Write.failures l.out ≡ g.W.Write.failures l.initial.out;
}
