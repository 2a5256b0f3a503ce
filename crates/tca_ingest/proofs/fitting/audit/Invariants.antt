use Rattle.std.proofs.Common.{◌≡◌, ◌+◌, length}
use Rattle.tca_ingest.specs.Passes.{count_of}
use Rattle.tca_ingest.proofs.fitting.audit.Given as goal

-- each call is of a pass that is left, or is counted in the share
abbrev pub invariant-loop-pass : goal.invariant-loop-pass
invariant-loop-pass g l = count_of l.left.items + l.all.amount ≡ count_of l.fn.passes.items

abbrev pub decreases-loop-pass : goal.decreases-loop-pass
decreases-loop-pass g l = length l.left.items
