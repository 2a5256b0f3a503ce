use Rattle.std.proofs.lemmas.Grind.{common_steps}
use Rattle.std.proofs.Common.{length, sym, ap, subst, ◌∙◌, arith}
use Rattle.tca_log.specs.Rows.Ordered.{without_each}
use Rattle.tca_log.proofs.OrderedRows.Each.{beyond_held, beyond_new, beyond_none, beyond_shorter}
use Rattle.tca_log.proofs.OrderedRows.Passing.{ArePassing, passing_next}
use Rattle.tca_log.proofs.rows.beyond.count_beyond.Goals as goal

pub overflow_sub-count : goal.overflow_sub-count
overflow_sub-count g c =
    let R = g.K.Ord.cmp in
    let rows = c.args.rows.now.rows in
    let was = subst (λ l. ArePassing R l rows c.loop-key.finder) c.in-Some.ensures.steps c.loop-key.invariant.passing in
    let held = beyond_held R g.met.K.Ord.total rows c.in-Some.key.now c.next.new.self (sym was.same.0 ∙ sym c.has.ensures.there ∙ c.if-has.true) in
    let step = ap (λ l. length (without_each R rows l)) c.in-Some.ensures.steps in
    omega (arith, c.loop-key.invariant.count, ap length held, step, ap length c.in-Some.ensures.steps, beyond_shorter R g.met.K.Ord.total rows c.next.new.self)

pub loop-key-preserved-then-has : goal.loop-key-preserved-then-has
loop-key-preserved-then-has g c =
    let R = g.K.Ord.cmp in
    let rows = c.args.rows.now.rows in
    let was = subst (λ l. ArePassing R l rows c.loop-key.finder) c.in-Some.ensures.steps c.loop-key.invariant.passing in
    let held = beyond_held R g.met.K.Ord.total rows c.in-Some.key.now c.next.new.self (sym was.same.0 ∙ sym c.has.ensures.there ∙ c.if-has.true) in
    let step = ap (λ l. length (without_each R rows l)) c.in-Some.ensures.steps in
    record {
      passing = passing_next R g.met.K.Ord.total c.in-Some.key.now c.next.new.self rows c.loop-key.finder c.has.new.self was c.has.ensures.rises c.has.ensures.later;
      count = omega (arith, c.loop-key.invariant.count, ap length held, step, ap length c.in-Some.ensures.steps, beyond_shorter R g.met.K.Ord.total rows c.next.new.self);
    }

pub loop-key-preserved : goal.loop-key-preserved
loop-key-preserved g c =
    let R = g.K.Ord.cmp in
    let rows = c.args.rows.now.rows in
    let was = subst (λ l. ArePassing R l rows c.loop-key.finder) c.in-Some.ensures.steps c.loop-key.invariant.passing in
    let new = beyond_new R g.met.K.Ord.total rows c.in-Some.key.now c.next.new.self (sym was.same.0 ∙ sym c.has.ensures.there ∙ c.if-has.false) in
    let step = ap (λ l. length (without_each R rows l)) c.in-Some.ensures.steps in
    record {
      passing = passing_next R g.met.K.Ord.total c.in-Some.key.now c.next.new.self rows c.loop-key.finder c.has.new.self was c.has.ensures.rises c.has.ensures.later;
      count = omega (arith, c.loop-key.invariant.count, ap length new, step, ap length c.in-Some.ensures.steps);
    }

pub returns : goal.returns
returns g c =
    let step = ap (λ l. length (without_each g.K.Ord.cmp c.args.rows.now.rows l)) c.in-None.ensures.steps.0 in
    omega (arith, c.loop-key.invariant.count, step, ap length (beyond_none g.K.Ord.cmp g.met.K.Ord.total c.args.rows.now.rows), ap length c.in-None.ensures.steps.0)

pub has-requires : goal.has-requires
has-requires g c = grind (arith, common_steps)
