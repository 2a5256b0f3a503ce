use Rattle.std.proofs.Common.{◌≡◌, ◌-◌, ◌+◌, ◌∙◌, length, drop, sym, subst, ap, arith}
use Rattle.std.proofs.lemmas.List.Elements.{All-from_recursion}
use Rattle.std.specs.List.{AllByRecursion}
use Rattle.tca_gossip.specs.Replicas.{IsReplica}
use Rattle.tca_ingest.specs.Closed.{ClosedView, IsClash, clash_all, clash_among, replicas_of}
use Rattle.tca_ingest.proofs.Clashes.{clash_is}
use Rattle.tca_ingest.proofs.ClashSearch.{all_more, all_none, known_more, known_none, to_end}
use Rattle.tca_ingest.proofs.closed.clash_in.Goals as goal

pub loop-i-init : goal.loop-i-init
loop-i-init c =
    let cs = c.args.closed.now in
    record { within = omega arith; least = all_none cs (length cs) (omega arith); known = known_none cs (length cs) (omega arith) }

pub loop-i-preserved : goal.loop-i-preserved
loop-i-preserved c =
    let l = c.loop-i in
    let cs = c.args.closed.now in
    let it = c.index-closed-i.result in
    let next : l.i ≡ (l.i - 1) + 1 = omega (arith, c.loop-i-test.true) in
    let others : c.clash_with.result ≡ clash_among it.replica (replicas_of (drop l.i cs)) = c.clash_with.ensures ∙ (λ k. clash_among (c.this.view_is k).replica (replicas_of (to_end cs (l.i - 1 + 1) k))) ∙ (λ k. clash_among it.replica (replicas_of (drop (sym next k) cs))) in
    record {
      within = omega (arith, l.invariant.within);
      least = c.lesser-least.ensures ∙ all_more cs (l.i - 1) l.i it (omega (arith, l.invariant.within, c.loop-i-test.true)) c.index-closed-i.is next c.clash_with.result l.least others l.invariant.least;
      known = known_more cs (l.i - 1) l.i it (omega (arith, l.invariant.within, c.loop-i-test.true)) c.index-closed-i.is next (subst (λ (z : ClosedView). IsReplica z.replica) c.this.view_is c.log-known.ensures.replica) l.invariant.known;
    }

pub returns : goal.returns
returns c =
    let cs = c.args.closed.now in
    let l = c.loop-i in
    let end : l.i ≡ 0 = omega (arith, c.loop-i-test.false) in
    let known : AllByRecursion IsReplica (replicas_of cs) = subst (λ n. AllByRecursion IsReplica (replicas_of (drop n cs))) end l.invariant.known in
    let least : l.least ≡ clash_all (replicas_of cs) = l.invariant.least ∙ ap (λ n. clash_all (replicas_of (drop n cs))) end in
    subst (IsClash (replicas_of cs)) (sym least) (clash_is (replicas_of cs) (All-from_recursion IsReplica (replicas_of cs) known))
