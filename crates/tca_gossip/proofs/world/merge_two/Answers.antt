use Rattle.std.proofs.lemmas.Grind.{common_steps}
use Rattle.std.proofs.Common.{◌≡◌, vec_len, rules, sym, arith}
use Rattle.std.specs.List.{insert}
use Rattle.std.proofs.lemmas.Result.{on_ok_weaker, on_err_weaker, IfErr-weaker}
use Rattle.tca_report.specs.contracts.report.ReportPartialEq.TheImpl as report_eq
use Rattle.tca_join.specs.Faults.{IsJoinFault}
use Rattle.tca_gossip.specs.Replicas.{merge_clash, merge_full}
use Rattle.tca_gossip.specs.Worlds.{OfBoth}
use Rattle.tca_gossip.proofs.Finding.{other_within, two_merged, two_stay, two_refused}
use Rattle.tca_gossip.proofs.world.merge_two.Goals as goal

pub place_without-at-requires : goal.place_without-at-requires
place_without-at-requires c = λ e. c.requires.apart (sym e)

pub index-requires : goal.index-requires
index-requires c = other_within c.args.replicas.now.items c.args.into c.args.other c.place_without-at.result c.requires.apart c.place_without-at.ensures.before c.place_without-at.ensures.after c.requires.into_there c.requires.other_there (vec_len c.remove-own.new.self) (omega (arith, c.remove-own.ensures.len, c.args.replicas.now.ok.0))

pub returns-clause-ok : goal.returns-clause-ok
returns-clause-ok c =
    let put : c.insert.new.self.items ≡ insert c.remove-own.new.self.items c.args.into c.merge-result.new.self = search rules in
    on_ok_weaker c.merge-result.result
    (two_merged c.args.replicas.now.items c.args.into c.args.other c.place_without-at.result c.requires.apart c.place_without-at.ensures.before c.place_without-at.ensures.after c.requires.into_there c.remove-own.result c.index.result.now c.remove-own.ensures.value (rw c.remove-own.ensures.items at c.index.ensures) c.merge-result.new.self c.insert.new.self.items (rw c.remove-own.ensures.items at put))
    c.merge-result.ensures.ok

pub returns-clause-err : goal.returns-clause-err
returns-clause-err c =
    let put : c.insert.new.self.items ≡ insert c.remove-own.new.self.items c.args.into c.merge-result.new.self = search rules in
    on_err_weaker c.merge-result.result
    (two_stay c.args.replicas.now.items c.args.into c.args.other c.place_without-at.result c.requires.apart c.place_without-at.ensures.before c.place_without-at.ensures.after c.requires.into_there c.remove-own.result c.index.result.now c.remove-own.ensures.value (rw c.remove-own.ensures.items at c.index.ensures) c.merge-result.new.self c.insert.new.self.items (rw c.remove-own.ensures.items at put))
    c.merge-result.ensures.err

pub returns-clause-fault : goal.returns-clause-fault
returns-clause-fault c =
    let put : c.insert.new.self.items ≡ insert c.remove-own.new.self.items c.args.into c.merge-result.new.self = search rules in
    IfErr-weaker c.merge-result.result (IsJoinFault (merge_clash report_eq.ghosts.eq c.remove-own.result c.index.result.now) (merge_full c.remove-own.result c.index.result.now))
    (λ e. OfBoth c.args.replicas.now.items c.args.into c.args.other (λ v u. IsJoinFault (merge_clash report_eq.ghosts.eq v u) (merge_full v u) e))
    (two_refused c.args.replicas.now.items c.args.into c.args.other c.place_without-at.result c.requires.apart c.place_without-at.ensures.before c.place_without-at.ensures.after c.requires.into_there c.remove-own.result c.index.result.now c.remove-own.ensures.value (rw c.remove-own.ensures.items at c.index.ensures) c.merge-result.new.self c.insert.new.self.items (rw c.remove-own.ensures.items at put) report_eq.ghosts.eq)
    c.merge-result.ensures.fault

pub remove-own-requires : goal.remove-own-requires
remove-own-requires c = grind (arith, common_steps)

pub insert-requires : goal.insert-requires
insert-requires c = grind (arith, common_steps)
