use Rattle.std.proofs.Common.{◌≡◌, ◌<◌, ◌≤◌, ◌++◌, length}
use Rattle.std.specs.List.{All}
use Rattle.tca_log.specs.inside.Chunks.{joined}
use Rattle.tca_log.proofs.rows.cut.Given as goal

-- the chunks so far, and then what is left to cut
abbrev pub invariant-loop-part : goal.invariant-loop-part
invariant-loop-part g l = record {
  all : joined l.chunks.items ++ l.part-iterator.rest.now ≡ l.rows;
  size : l.part-iterator.size ≡ 256;
  some : All (λ c. 0 < length c) l.chunks.items;
  small : All (λ c. length c ≤ 256) l.chunks.items;
}
