use Rattle.std.proofs.Common.{◌≡◌, ◌-◌, ◌≤◌, List, length}
use Rattle.std.specs.Prelude.{None}
use Rattle.tca_report.specs.report.Reports.{PacketReport}
use Rattle.tca_report.specs.export.Spelling.{records_size}
use Rattle.tca_report.specs.export.Reading.{records_at}
use Rattle.tca_report.proofs.lemmas.export.ReadingLoop.{with_front}
use Rattle.tca_report.proofs.export.reading.refused.Given as goal

abbrev pub invariant-loop-n : goal.invariant-loop-n
invariant-loop-n l = record {
  so_far : (front : List PacketReport) × (with_front front (records_at l.format (l.count - l.n) l.n l.last l.rest) ≡ records_at l.format l.count 0 None l.octets) × (length front ≡ l.n);
  within : l.n ≤ l.count;
  enough : records_size l.format (l.count - l.n) ≤ length l.rest;
}
