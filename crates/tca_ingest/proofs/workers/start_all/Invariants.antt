use Rattle.std.proofs.Common.{◌≡◌, ◌+◌, vec_capacity, vec_len}
use Rattle.tca_ingest.proofs.workers.start_all.Given as goal

abbrev pub invariant-loop-mine : goal.invariant-loop-mine
invariant-loop-mine g l =
    (goal.iterator-loop-mine g).can_next l.mine-iterator
    × (goal.iterator-loop-mine g).is_finite l.mine-iterator
    × (vec_len l.passes + vec_len l.running ≡ vec_len l.fn.passes + vec_len l.fn.running)
    × (vec_capacity l.passes ≡ vec_capacity l.fn.passes)
    × (vec_capacity l.running ≡ vec_capacity l.fn.running)
