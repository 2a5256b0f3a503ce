use Rattle.std.proofs.Common.{[], ◌∙◌, refl, sym, ap, arith}
use Rattle.std.specs.Ordering.{is_lt}
use Rattle.std.proofs.lemmas.List.Sorted.{IsPermutation-refl, IsPermutation-trans}
use Rattle.tca_log.proofs.OrderedRows.Among.{rises_swapped}
use Rattle.tca_log.proofs.OrderedRows.Rising.{rises_first}
use Rattle.tca_log.proofs.rows.rising.rising_first.Goals as goal
use Rattle.tca_log.proofs.rows.rising.rising_first.Goals.{then-is_lt, else-is_lt}

pub returns-then-is_empty-clause-rises : goal.returns-then-is_empty-clause-rises
returns-then-is_empty-clause-rises g c = rises_first g.K.Ord.cmp g.met.K.Ord.total []

pub loop-at-init : goal.loop-at-init
loop-at-init g c =
    record {
      some = omega arith;
      bound = omega arith;
      long = refl;
      rises = rises_first g.K.Ord.cmp g.met.K.Ord.total c.args.rows.now;
      moved = IsPermutation-refl c.args.rows.now;
    }

pub loop-at-preserved : goal.loop-at-preserved
loop-at-preserved g c =
    let before = c.loop-at.invariant in
    elim c.if-is_lt.branch [
      | then-is_lt w ↦
          let less = ap is_lt (sym c.cmp.ensures) ∙ sym c.is_lt.ensures ∙ w.if-is_lt.true in
          rw (w.rows-is, w.rising-is) (record {
            some = omega arith;
            bound = omega (arith, before.bound);
            long = w.swap.ensures.len ∙ before.long;
            rises = rises_swapped g.K.Ord.cmp g.met.K.Ord.total c.loop-at.rows w.swap.new.self c.loop-at.rising c.loop-at.at c.index-rows-rising.result c.index-rows-at.result before.some before.bound (omega arith) w.swap.ensures.after w.swap.ensures.by_index c.index-rows-rising.is c.index-rows-at.is less before.rises;
            moved = IsPermutation-trans c.args.rows.now c.loop-at.rows w.swap.new.self before.moved w.swap.ensures.permutation;
          })
      | else-is_lt w ↦
          rw (w.rows-is, w.rising-is) (record {
            some = before.some;
            bound = omega (arith, before.bound);
            long = before.long;
            rises = before.rises;
            moved = before.moved;
          })
    ]
