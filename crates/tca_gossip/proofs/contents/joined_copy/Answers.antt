use Rattle.std.proofs.Common.{◌∙◌}
use Rattle.std.proofs.lemmas.Result.{err_from_is_err_and}
use Rattle.tca_report.proofs.lemmas.report.Order.{report_eq}
use Rattle.tca_join.specs.Chains.{chain_clash, chain_full}
use Rattle.tca_join.specs.Faults.{IsJoinFault}
use Rattle.tca_join.specs.Maps.{clash_key, map_full}
use Rattle.tca_gossip.proofs.Clashing.{memory_alone}
use Rattle.tca_gossip.proofs.contents.joined_copy.Goals as goal

pub returns-clause-all : goal.returns-clause-all
returns-clause-all c = rw c.in_ok-all.ensures at c.in_ok-join_from.ensures.ok

pub returns-clause-fault : goal.returns-clause-fault
returns-clause-fault c = tt

pub returns-in_err-all-clause-all : goal.returns-in_err-all-clause-all
returns-in_err-all-clause-all c =
    let p = err_from_is_err_and c.from_residual.result c.from_residual.ensures.1 in
    rw (p.1) tt

pub returns-in_err-all-clause-fault : goal.returns-in_err-all-clause-fault
returns-in_err-all-clause-fault c =
    let p = err_from_is_err_and c.from_residual.result c.from_residual.ensures.1 in
    rw (p.1) (p.2)

pub returns-in_err-join_from-clause-all : goal.returns-in_err-join_from-clause-all
returns-in_err-join_from-clause-all c =
    let p = err_from_is_err_and c.from_residual-in_err-join_from.result c.from_residual-in_err-join_from.ensures.1 in
    rw (p.1) tt

pub returns-in_err-join_from-clause-fault : goal.returns-in_err-join_from-clause-fault
returns-in_err-join_from-clause-fault c =
    let es = c.args.chains.now in
    let fs = c.args.others.now in
    let e = c.in_err-join_from.field-0.0 in
    let fault : IsJoinFault (clash_key (chain_clash report_eq) es fs) (map_full chain_full es fs) e = rw c.in_ok-all.ensures at c.in_err-join_from.ensures.fault in
    let p = err_from_is_err_and c.from_residual-in_err-join_from.result c.from_residual-in_err-join_from.ensures.1 in
    rw (p.1) (p.2 ∙ memory_alone report_eq es fs e fault c.requires)
