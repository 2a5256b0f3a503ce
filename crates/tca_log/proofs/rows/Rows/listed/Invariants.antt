use Rattle.std.proofs.Common.{◌≡◌, ◌++◌, drop}
use Rattle.tca_log.specs.inside.Chunks.{joined}
use Rattle.tca_log.proofs.rows.Rows.listed.Given as goal

-- the rows so far, and then those of the chunks that are left
abbrev pub invariant-loop-chunk : goal.invariant-loop-chunk
invariant-loop-chunk g l = l.list.items ++ joined (drop l.chunk-index l.chunk-items) ≡ l.self.rows
