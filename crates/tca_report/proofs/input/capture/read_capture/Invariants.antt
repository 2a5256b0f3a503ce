use Rattle.std.proofs.Common.{◌≡◌, ◌++◌, ℕ, List, length}
use Rattle.tca_report.specs.inside.CaptureReaders.{HasRead}
use Rattle.tca_report.proofs.input.capture.read_capture.Given as goal

-- what was read, in front of the rest
abbrev pub invariant-loop-rest : goal.invariant-loop-rest
invariant-loop-rest l = record {
  so_far : (done : List ℕ) × HasRead l.session done l.framer l.reader × (l.octets ≡ done ++ l.rest);
}

abbrev pub decreases-loop-rest : goal.decreases-loop-rest
decreases-loop-rest l = length l.rest
