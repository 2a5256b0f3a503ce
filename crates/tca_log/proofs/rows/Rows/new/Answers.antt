use Rattle.std.proofs.Common.{arith}
use Rattle.tca_log.proofs.OrderedRows.Whole.{no_chunks}
use Rattle.tca_log.proofs.rows.Rows.new.Goals as goal

pub invariant_of-result : goal.invariant_of-result
invariant_of-result g c =
    rw c.new.ensures.items (record {
      chunks = no_chunks g.K.Ord.cmp g.met.K.Ord.total;
      count = omega arith;
      limit = omega arith;
      spare = tt;
      spare_fits = λ e. absurd cc;
      small_with_spare = λ e. absurd cc;
      small_if_many = λ h. absurd (omega arith);
    })
