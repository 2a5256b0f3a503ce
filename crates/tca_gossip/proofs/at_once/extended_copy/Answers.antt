use Rattle.std.proofs.lemmas.Result.{err_from_is_err_and}
use Rattle.tca_gossip.proofs.at_once.extended_copy.Goals as goal

pub extend-requires : goal.extend-requires
extend-requires c = rw (c.in_ok-all.ensures, c.in_ok-share.ensures) c.requires

pub returns-clause-rises : goal.returns-clause-rises
returns-clause-rises c = c.keys-rises.ensures.rises

pub returns-clause-kept : goal.returns-clause-kept
returns-clause-kept c = λ q. rw (c.in_ok-all.ensures, c.in_ok-share.ensures) at (c.in_ok-extend.ensures q)

pub returns-in_err-all-clause-rises : goal.returns-in_err-all-clause-rises
returns-in_err-all-clause-rises c =
    let p = err_from_is_err_and c.from_residual.result c.from_residual.ensures.1 in
    rw (p.1) tt

pub returns-in_err-all-clause-kept : goal.returns-in_err-all-clause-kept
returns-in_err-all-clause-kept c =
    let p = err_from_is_err_and c.from_residual.result c.from_residual.ensures.1 in
    rw (p.1) tt

pub returns-in_err-share-clause-rises : goal.returns-in_err-share-clause-rises
returns-in_err-share-clause-rises c =
    let p = err_from_is_err_and c.from_residual-in_err-share.result c.from_residual-in_err-share.ensures.1 in
    rw (p.1) tt

pub returns-in_err-share-clause-kept : goal.returns-in_err-share-clause-kept
returns-in_err-share-clause-kept c =
    let p = err_from_is_err_and c.from_residual-in_err-share.result c.from_residual-in_err-share.ensures.1 in
    rw (p.1) tt

pub returns-in_err-extend-clause-rises : goal.returns-in_err-extend-clause-rises
returns-in_err-extend-clause-rises c =
    let p = err_from_is_err_and c.from_residual-in_err-extend.result c.from_residual-in_err-extend.ensures.1 in
    rw (p.1) tt

pub returns-in_err-extend-clause-kept : goal.returns-in_err-extend-clause-kept
returns-in_err-extend-clause-kept c =
    let p = err_from_is_err_and c.from_residual-in_err-extend.result c.from_residual-in_err-extend.ensures.1 in
    rw (p.1) tt
