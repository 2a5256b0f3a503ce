use Rattle.std.proofs.lemmas.Grind.{common_steps}
use Rattle.std.proofs.Common.{◌≡◌, ◌∙◌, ◌+◌, [], ◌∷◌, ◌++◌, take, ap, sym, subst, rules, arith}
use Rattle.std.specs.List.{All}
use Rattle.std.proofs.lemmas.List.{map-append, take_all, take_more}
use Rattle.std.proofs.lemmas.Result.{IfErr-weaker, IfOk-weaker}
use Rattle.tca_gossip.specs.Replicas.{ReplicaView}
use Rattle.tca_ingest.specs.Closed.{ClosedView, replicas_of}
use Rattle.tca_ingest.specs.Passes.{AreClosing, calls_of}
use Rattle.tca_commands.specs.inside.Absorbs.{Absorbs, AbsorbsEach, HasAbsorbed}
use Rattle.tca_commands.specs.Replicated.{IsReadingRefused, IsExchangeRefused}
use Rattle.tca_commands.proofs.RefusalLaws.{in_run}
use Rattle.tca_commands.proofs.AbsorbLaws.{all_last, one_more, same_number}
use Rattle.tca_commands.proofs.replicas.absorb_and_close.Goals as goal

pub loop-other-preserved : goal.loop-other-preserved
loop-other-preserved g c =
    let l = c.loop-other in
    let others = c.args.others.now in
    let item = c.other-item.result in
    let absorbs : Absorbs item.replica l.mine c.absorb_lacking.new.mine = subst (λ (v : ReplicaView). Absorbs v l.mine c.absorb_lacking.new.mine) (ap (λ (v : ClosedView). v.replica) c.other.view_is) c.in_ok-absorb_lacking.ensures.absorbs in
    let next : take (l.other-index + 1) others ≡ take l.other-index others ++ item ∷ [] = take_more others l.other-index item c.loop-other-test.true ∙ ap (λ (v : ClosedView). take l.other-index others ++ v ∷ []) (sym c.other-item.is) in
    let more : replicas_of (take (l.other-index + 1) others) ≡ replicas_of (take l.other-index others) ++ item.replica ∷ [] = ap replicas_of next ∙ map-append (λ v. v.replica) (take l.other-index others) (item ∷ []) in
    let so_far = replicas_of (take l.other-index others) in
    rw more (subst (λ n. AbsorbsEach (so_far ++ item.replica ∷ []) (record { number = n; calls = [] }) c.absorb_lacking.new.mine) (sym (same_number item.replica l.mine c.absorb_lacking.new.mine absorbs))
    (one_more so_far item.replica (record { number = l.mine.number; calls = [] }) l.mine c.absorb_lacking.new.mine l.invariant absorbs))

pub returns-clause-absorbed : goal.returns-clause-absorbed
returns-clause-absorbed g c =
    let l = c.loop-other in
    let others = c.args.others.now in
    let absorbed : AbsorbsEach (replicas_of others) (record { number = l.mine.number; calls = [] }) l.mine = rw (take_all l.other-index others c.loop-other-test.false) at l.invariant in
    let passes : c.push.new.self.items ≡ c.args.passes.items ++ l.mine ∷ [] = search rules in
    IfOk-weaker c.close.result (λ x. AreClosing x.journal c.push.new.self.items) (λ x. HasAbsorbed (replicas_of others) x.journal)
    (λ x closing. record {
      pass = l.mine;
      calls = all_last (λ p. calls_of p.number x.journal ≡ p.calls) c.args.passes.items l.mine (subst (All (λ p. calls_of p.number x.journal ≡ p.calls)) passes closing.each);
      absorbed = absorbed;
    }) c.close.ensures.closing

pub returns-in_err-mine-clause-replayed : goal.returns-in_err-mine-clause-replayed
returns-in_err-mine-clause-replayed g c = grind (arith, common_steps)

pub returns-in_err-mine-clause-absorbed : goal.returns-in_err-mine-clause-absorbed
returns-in_err-mine-clause-absorbed g c = grind (arith, common_steps)

pub returns-in_err-mine-clause-refused : goal.returns-in_err-mine-clause-refused
returns-in_err-mine-clause-refused g c = grind (arith, common_steps)

pub loop-other-init : goal.loop-other-init
loop-other-init g c = grind (arith, common_steps)

pub offset_bounds-others-other-index : goal.offset_bounds-others-other-index
offset_bounds-others-other-index g c = grind (arith, common_steps)

pub returns-in_err-absorb_lacking-clause-replayed : goal.returns-in_err-absorb_lacking-clause-replayed
returns-in_err-absorb_lacking-clause-replayed g c = grind (arith, common_steps)

pub returns-in_err-absorb_lacking-clause-absorbed : goal.returns-in_err-absorb_lacking-clause-absorbed
returns-in_err-absorb_lacking-clause-absorbed g c = grind (arith, common_steps)

pub returns-in_err-absorb_lacking-clause-refused : goal.returns-in_err-absorb_lacking-clause-refused
returns-in_err-absorb_lacking-clause-refused g c = grind (arith, common_steps)

pub same-mine : goal.same-mine
same-mine g c = grind (arith, common_steps)

pub returns-then-is_err-clause-refused : goal.returns-then-is_err-clause-refused
returns-then-is_err-clause-refused g c = grind (arith, common_steps)

pub returns-clause-replayed : goal.returns-clause-replayed
returns-clause-replayed g c = grind (arith, common_steps)

pub returns-clause-refused : goal.returns-clause-refused
returns-clause-refused g c = IfErr-weaker c.close.result IsReadingRefused IsExchangeRefused (λ e h. in_run e h) c.close.ensures.refused
