use Rattle.std.proofs.Common.{◌≡◌, ◌+◌, length, arith, true}
use Rattle.tca_join.specs.Sets.{has}
use Rattle.tca_log.specs.inside.Chunks.{joined}
use Rattle.tca_log.proofs.OrderedRows.Positions.{length_without}
use Rattle.tca_log.proofs.OrderedRows.Whole.{has_some}
use Rattle.tca_log.proofs.rows.Rows.withdraw.Goals as goal

pub overflow_sub-self : goal.overflow_sub-self
overflow_sub-self g c =
    let there : has g.K.Ord.cmp (joined c.self.inside.chunks.items) c.args.key.now ≡ true = rw (← c.self.view_is) at c.requires.there in
    omega (arith, (has_some g.K.Ord.cmp g.met.K.Ord.total c.self.inside.chunks.items c.args.key.now there).1, c.self.invariant.count)

pub take_from-requires-clause-some : goal.take_from-requires-clause-some
take_from-requires-clause-some g c =
    let there : has g.K.Ord.cmp (joined c.self.inside.chunks.items) c.args.key.now ≡ true = rw (← c.self.view_is) at c.requires.there in
    omega (arith, (has_some g.K.Ord.cmp g.met.K.Ord.total c.self.inside.chunks.items c.args.key.now there).0)

pub invariant_of-self : goal.invariant_of-self
invariant_of-self g c =
    let there : has g.K.Ord.cmp (joined c.self.inside.chunks.items) c.args.key.now ≡ true = rw (← c.self.view_is) at c.requires.there in
    let less : length (joined c.take_from.new.chunks.items) + 1 ≡ length (joined c.self.inside.chunks.items) = rw c.take_from.ensures.joined (length_without g.K.Ord.cmp g.met.K.Ord.total c.args.key.now (joined c.self.inside.chunks.items) c.self.invariant.chunks.rises there) in
    record {
      chunks = c.take_from.ensures.chunks;
      count = omega (arith, less, c.self.invariant.count);
      limit = omega (arith, less, c.self.invariant.limit);
      spare = c.self.invariant.spare;
      spare_fits = λ e. omega (arith, c.self.invariant.spare_fits e, c.take_from.ensures.fewer, c.take_from.ensures.capacity);
      small_with_spare = λ e. c.take_from.ensures.small (c.self.invariant.small_with_spare e);
      small_if_many = λ h. c.take_from.ensures.small (c.self.invariant.small_if_many (omega (arith, c.take_from.ensures.fewer, h)));
    }
