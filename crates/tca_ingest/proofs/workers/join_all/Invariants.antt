use Rattle.std.proofs.Common.{◌≡◌, ◌+◌, vec_capacity, vec_len}
use Rattle.tca_ingest.proofs.workers.join_all.Given as goal

abbrev pub invariant-loop : goal.invariant-loop
invariant-loop g l =
    (vec_len l.passes + vec_len l.left ≡ vec_len l.fn.passes + vec_len l.fn.running)
    × (vec_capacity l.passes ≡ vec_capacity l.fn.passes)
    × (vec_len l.left + l.counter ≡ l.end)
