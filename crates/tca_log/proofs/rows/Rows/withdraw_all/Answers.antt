use Rattle.std.proofs.Common.{length, sym, ap, ◌∙◌, arith}
use Rattle.tca_log.specs.Rows.Ordered.{without_each}
use Rattle.tca_log.specs.inside.Chunks.{joined}
use Rattle.tca_log.proofs.OrderedRows.Each.{beyond_shorter, without_each_after, without_each_past, without_none}
use Rattle.tca_log.proofs.rows.Rows.withdraw_all.Goals as goal

pub count_of-self-inside-requires : goal.count_of-self-inside-requires
count_of-self-inside-requires g c =
    omega (arith, ap (λ l. length (joined l)) c.deref.ensures.value, ap length c.take_all_from.ensures.joined, beyond_shorter g.K.Ord.cmp g.met.K.Ord.total c.args.other.now.rows (joined c.self.inside.chunks.items), c.self.invariant.limit)

pub invariant_of-self : goal.invariant_of-self
invariant_of-self g c =
    record {
      chunks = c.take_all_from.ensures.chunks;
      count = c.count_of-self-inside.ensures ∙ ap (λ l. length (joined l)) c.deref.ensures.value;
      limit = omega (arith, ap length c.take_all_from.ensures.joined, beyond_shorter g.K.Ord.cmp g.met.K.Ord.total c.args.other.now.rows (joined c.self.inside.chunks.items), c.self.invariant.limit);
      spare = c.self.invariant.spare;
      spare_fits = λ e. omega (arith, c.self.invariant.spare_fits e, c.len.ensures, c.if-len-eq1.true, c.take_all_from.ensures.fewer, c.take_all_from.ensures.capacity);
      small_with_spare = λ e. c.take_all_from.ensures.small (c.self.invariant.small_with_spare e);
      small_if_many = λ h. absurd (omega (arith, c.take_all_from.ensures.fewer, h));
    }

pub loop-key-preserved-then-contains : goal.loop-key-preserved-then-contains
loop-key-preserved-then-contains g c =
    rw c.withdraw.ensures.rows (without_each_after g.K.Ord.cmp g.met.K.Ord.total c.next.new.self c.loop-key.self.rows c.in-Some.key.now ∙ ap (λ l. without_each g.K.Ord.cmp l c.loop-key.self.rows) (sym c.in-Some.ensures.steps) ∙ c.loop-key.invariant)

pub loop-key-preserved : goal.loop-key-preserved
loop-key-preserved g c =
    without_each_past g.K.Ord.cmp g.met.K.Ord.total c.in-Some.key.now c.next.new.self c.loop-key.self.rows (sym c.contains.ensures ∙ c.if-contains.false) ∙ ap (λ l. without_each g.K.Ord.cmp l c.loop-key.self.rows) (sym c.in-Some.ensures.steps) ∙ c.loop-key.invariant

pub returns : goal.returns
returns g c =
    sym (without_none g.K.Ord.cmp g.met.K.Ord.total c.loop-key.self.rows) ∙ ap (λ l. without_each g.K.Ord.cmp l c.loop-key.self.rows) (sym c.in-None.ensures.steps.0) ∙ c.loop-key.invariant
