use Rattle.std.proofs.Common.{◌≡◌, ◌-◌, ◌≤◌, length, vec_len}
use Rattle.std.specs.Prelude.{None, vec_capacity}
use Rattle.tca_report.specs.export.Spelling.{records_size}
use Rattle.tca_report.specs.export.Reading.{records_at}
use Rattle.tca_report.proofs.lemmas.export.ReadingLoop.{with_front}
use Rattle.tca_report.proofs.export.reading.read_records.Given as goal

abbrev pub invariant-loop-n : goal.invariant-loop-n
invariant-loop-n l = record {
  so_far : with_front l.into.items (records_at l.format (l.count - l.n) l.n l.last l.rest) ≡ records_at l.format l.count 0 None l.octets;
  filled : vec_len l.into ≡ l.n;
  room : l.count ≤ vec_capacity l.into;
  enough : records_size l.format (l.count - l.n) ≤ length l.rest;
}
