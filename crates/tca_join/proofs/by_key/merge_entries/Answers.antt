use Rattle.std.proofs.Common.{arith}
use Rattle.std.specs.declared.cmp.Ordering.TheVariants.{Less, Equal, Greater}
use Rattle.std.proofs.lemmas.Cmp.{ranked}
use Rattle.tca_join.proofs.Differ.{rest_is}
use Rattle.tca_join.proofs.Steps.{less_step, greater_step, both_step, values_join, left_done, right_done}
use Rattle.tca_join.proofs.by_key.merge_entries.Goals as goal
use Rattle.tca_join.proofs.by_key.merge_entries.Goals.{then-loop-i-test+else-j-second, else-loop-i-test}

pub loop-i-preserved-in-Less : goal.loop-i-preserved-in-Less
loop-i-preserved-in-Less g c =
    record {
      merge = rw c.in_ok-push_copy-in-Less.ensures (less_step g.V.Join.clash g.V.Join.full g.V.Join.joined c.args.first.now c.args.second.now c.loop-i.out.items c.loop-i.i c.loop-i.j c.index-first-i.result c.index-second-j.result c.requires.first c.requires.second c.loop-i-test.true c.if-j-second.true c.index-first-i.is c.index-second-j.is c.loop-i.invariant.merge (ranked c.index-first-i.result.0 c.index-second-j.result.0 Less c.in-Less.ensures));
      first_in = omega (arith, c.loop-i-test.true);
      second_in = c.loop-i.invariant.second_in;
    }

pub loop-i-preserved-in-Greater : goal.loop-i-preserved-in-Greater
loop-i-preserved-in-Greater g c =
    record {
      merge = rw c.in_ok-push_copy-in-Greater.ensures (greater_step g.V.Join.clash g.V.Join.full g.V.Join.joined c.args.first.now c.args.second.now c.loop-i.out.items c.loop-i.i c.loop-i.j c.index-first-i.result c.index-second-j.result c.requires.first c.requires.second c.loop-i-test.true c.if-j-second.true c.index-first-i.is c.index-second-j.is c.loop-i.invariant.merge (ranked c.index-first-i.result.0 c.index-second-j.result.0 Greater c.in-Greater.ensures));
      first_in = c.loop-i.invariant.first_in;
      second_in = omega (arith, c.if-j-second.true);
    }

pub push_joined-requires : goal.push_joined-requires
push_joined-requires g c = values_join g.V.Join.clash g.V.Join.full g.V.Join.joined c.args.first.now c.args.second.now c.loop-i.out.items c.loop-i.i c.loop-i.j c.index-first-i.result c.index-second-j.result c.requires.first c.requires.second c.loop-i-test.true c.if-j-second.true c.index-first-i.is c.index-second-j.is c.loop-i.invariant.merge (ranked c.index-first-i.result.0 c.index-second-j.result.0 Equal c.in-Equal.ensures)

pub loop-i-preserved : goal.loop-i-preserved
loop-i-preserved g c =
    record {
      merge = rw c.in_ok-push_joined-in-Equal.ensures.joined (both_step g.V.Join.clash g.V.Join.full g.V.Join.joined c.args.first.now c.args.second.now c.loop-i.out.items c.loop-i.i c.loop-i.j c.index-first-i.result c.index-second-j.result c.requires.first c.requires.second c.loop-i-test.true c.if-j-second.true c.index-first-i.is c.index-second-j.is c.loop-i.invariant.merge (ranked c.index-first-i.result.0 c.index-second-j.result.0 Equal c.in-Equal.ensures));
      first_in = omega (arith, c.loop-i-test.true);
      second_in = omega (arith, c.if-j-second.true);
    }

pub returns-clause-ok : goal.returns-clause-ok
returns-clause-ok g c =
    rw (c.in_ok-push_copies-2.ensures, c.in_ok-push_copies.ensures, rest_is c.args.first.now c.loop-i.i, rest_is c.args.second.now c.loop-i.j)
    (elim c.loop-i-test.branch [
      | then-loop-i-test+else-j-second w ↦ right_done g.V.Join.clash g.V.Join.full g.V.Join.joined c.args.first.now c.args.second.now c.loop-i.out.items c.loop-i.i c.loop-i.j w.if-j-second.false c.loop-i.invariant.merge
      | else-loop-i-test w ↦ left_done g.V.Join.clash g.V.Join.full g.V.Join.joined c.args.first.now c.args.second.now c.loop-i.out.items c.loop-i.i c.loop-i.j c.requires.second w.loop-i-test.false c.loop-i.invariant.merge
    ])
