use Rattle.std.proofs.Common.{◌≡◌, ◌+◌, length, drop}
use Rattle.tca_log.specs.inside.Chunks.{joined}
use Rattle.tca_log.proofs.rows.locate.count_of.Given as goal

abbrev pub invariant-loop-chunk : goal.invariant-loop-chunk
invariant-loop-chunk g l = l.count + length (joined (drop l.chunk-index l.chunks)) ≡ length (joined l.chunks)
