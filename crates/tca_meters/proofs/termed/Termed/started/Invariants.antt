use Rattle.std.proofs.Common.{ℕ, ◌<◌, ◌≤◌, get_or}
use Rattle.tca_meters.specs.declared.any_meter.AnyMeter.{AnyMeter}
use Rattle.tca_meters.proofs.termed.Termed.started.Given as goal

abbrev pub invariant-loop-n : goal.invariant-loop-n
invariant-loop-n l = (k : ℕ) (d : ℕ × AnyMeter) → k < l.n → (get_or l.self-inside.later.terms k d).0 ≤ l.time
