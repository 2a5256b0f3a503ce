use Rattle.std.proofs.Common.{◌≡◌, ◌+◌, length, ap, arith, false}
use Rattle.tca_join.specs.Sets.{has}
use Rattle.tca_log.specs.inside.Chunks.{joined}
use Rattle.tca_log.proofs.OrderedRows.Positions.{length_put}
use Rattle.tca_log.proofs.rows.Rows.put.Goals as goal

pub invariant_of-self : goal.invariant_of-self
invariant_of-self g c =
    let new : has g.K.Ord.cmp (joined c.self.inside.chunks.items) c.args.key ≡ false = rw (← c.self.view_is) at c.requires.new in
    let more : length (joined c.put_in.new.chunks.items) ≡ length (joined c.self.inside.chunks.items) + 1 = rw c.put_in.ensures.joined (length_put g.K.Ord.cmp g.met.K.Ord.total c.args.key (joined c.self.inside.chunks.items) new) in
    record {
      chunks = c.put_in.ensures.chunks;
      count = omega (arith, more, c.self.invariant.count);
      limit = omega (arith, more, ap (λ v. length v.rows) c.self.view_is);
      spare = c.put_in.ensures.spare;
      spare_fits = λ e. omega (arith, c.put_in.ensures.room e);
      small_with_spare = λ e. c.put_in.ensures.small;
      small_if_many = λ h. c.put_in.ensures.small;
    }
