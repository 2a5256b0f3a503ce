use Rattle.std.proofs.Common.{◌≡◌, ◌+◌, length}
use Rattle.std.specs.List.{AllByRecursion, concat}
use Rattle.tca_wire.specs.Frames.{IsFrame}
use Rattle.tca_report.specs.input.Inputs.{CaptureSoFar, capture_after}
use Rattle.tca_report.specs.inside.CaptureReaders.{Agrees, IsWantedAmong}
use Rattle.tca_report.proofs.input.capture.CaptureReader.take_messages.Given as goal

abbrev pub invariant-loop-message : goal.invariant-loop-message
invariant-loop-message l =
    let rest = l.message-iterator in
    record {
      so_far : (so_far : CaptureSoFar) → Agrees l.fn.self so_far → (now : CaptureSoFar) × Agrees l.reader now × (capture_after l.reader.at now rest ≡ capture_after l.fn.self.at so_far l.fn.messages)
          × (IsWantedAmong l.reader.at now rest → IsWantedAmong l.fn.self.at so_far l.fn.messages);
      frames : AllByRecursion IsFrame rest;
      at : l.reader.at + length (concat rest) ≡ l.fn.self.at + length (concat l.fn.messages);
    }
