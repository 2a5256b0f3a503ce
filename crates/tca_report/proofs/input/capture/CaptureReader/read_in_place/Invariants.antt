use Rattle.std.proofs.Common.{ℕ, ◌-◌, length}
use Rattle.tca_report.specs.inside.CaptureReaders.{StandsIn}
use Rattle.tca_report.proofs.input.capture.CaptureReader.read_in_place.Given as goal

abbrev pub invariant-loop-reader : goal.invariant-loop-reader
invariant-loop-reader l = record {
  held : (session : ℕ) × StandsIn session l.octets l.reader;
  so_far : (session : ℕ) → StandsIn session l.octets l.fn.self → StandsIn session l.octets l.reader;
}

abbrev pub decreases-loop-reader : goal.decreases-loop-reader
decreases-loop-reader l = length l.octets - l.reader.at
