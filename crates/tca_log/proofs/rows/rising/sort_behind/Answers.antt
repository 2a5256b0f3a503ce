use Rattle.std.proofs.Common.{sym, subst, ◌++◌}
use Rattle.std.specs.List.Sorted.{IsPermutation}
use Rattle.std.proofs.lemmas.List.Sorted.{IsPermutation-append_right}
use Rattle.tca_log.proofs.rows.rising.sort_behind.Goals as goal

pub returns-clause-permutation : goal.returns-clause-permutation
returns-clause-permutation g c =
    let front = c.split_at_mut-behind.result.0.now in
    subst (λ l. IsPermutation l (front ++ c.put_in_order.new.rows)) (sym c.split_at_mut-behind.ensures.value) (IsPermutation-append_right front c.split_at_mut-behind.result.1.now c.put_in_order.new.rows c.put_in_order.ensures)
