use Rattle.std.proofs.Common.{◌≡◌, ◌+◌, length, take, vec_capacity, vec_len}
use Rattle.tca_ingest.specs.Works.{AreUnused}
use Rattle.tca_ingest.proofs.workers.make_passes.Given as goal

abbrev pub invariant-loop : goal.invariant-loop
invariant-loop g l = record {
  count : vec_len l.passes ≡ vec_len l.fn.passes + l.counter;
  kept : take (length l.fn.passes.items) l.passes.items ≡ l.fn.passes.items;
  unused : AreUnused l.fn.passes.items → AreUnused l.passes.items;
  room : vec_capacity l.passes ≡ vec_capacity l.fn.passes;
}
