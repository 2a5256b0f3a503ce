use Rattle.std.proofs.Common.{◌≡◌, sum_by, drop, ◌+◌, ◌*◌, ◌≤◌}
use Rattle.tca_commands.proofs.notes.left_out.Given as goal

-- what was summed and what is left are the whole
abbrev pub invariant-loop-count : goal.invariant-loop-count
invariant-loop-count l = record {
  sum : l.records + sum_by (λ n. n) (drop l.count-index l.counts) ≡ sum_by (λ n. n) l.counts;
  room : l.records ≤ 18446744073709551615 * l.count-index;
}
