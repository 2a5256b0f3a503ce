use Rattle.std.proofs.Common.{length, ◌-◌, ◌≡◌, ◌≤◌, take}
use Rattle.std.specs.Io.KnownBytes.{Appends}
use Rattle.tca_report.proofs.device.octets.put_all.Given as goal

-- the octets before `done` went out, and nothing failed
abbrev pub invariant-loop-done : goal.invariant-loop-done
invariant-loop-done g l =
    (l.done ≤ length l.octets)
    × Appends (g.W.Write.written l.initial.out) (g.W.Write.written l.out) (take l.done l.octets)
    × (g.W.Write.failures l.out ≡ g.W.Write.failures l.initial.out)

abbrev pub decreases-loop-done : goal.decreases-loop-done
decreases-loop-done g l = length l.octets - l.done
