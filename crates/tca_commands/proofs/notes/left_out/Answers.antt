use Rattle.std.proofs.Common.{◌<◌, ◌≤◌, length, slice_index_or, arith, rules}
use Rattle.std.proofs.lemmas.List.Sums.{sum_by-drop_more}
use Rattle.tca_commands.proofs.notes.left_out.Goals as goal

pub loop-count-preserved : goal.loop-count-preserved
loop-count-preserved c =
    let l = c.loop-count in
    let counts = c.args.counts.now in
    let inside : l.count-index < length counts = omega (arith, c.loop-count-test.true, c.told-counts) in
    let fits : slice_index_or counts l.count-index 0 ≤ 18446744073709551615 = search rules in
    record {
      sum = omega (arith, l.invariant.sum, sum_by-drop_more (λ n. n) counts l.count-index 0 inside);
      room = omega (arith, fits, l.invariant.room);
    }
