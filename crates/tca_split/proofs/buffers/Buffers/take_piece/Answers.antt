use Rattle.std.proofs.lemmas.Grind.{common_steps}
use Rattle.std.proofs.Common.{◌≡◌, ◌∙◌, ◌++◌, arith}
use Rattle.std.proofs.lemmas.Result.{err_from_is_err_and}
use Rattle.tca_split.proofs.FrontSteps.{piece_stopped}
use Rattle.tca_split.proofs.buffers.Buffers.take_piece.Goals as goal

pub returns-in_err-left-clause-err : goal.returns-in_err-left-clause-err
returns-in_err-left-clause-err g c =
    let p = err_from_is_err_and c.from_residual.result c.from_residual.ensures.1 in
    let parts : c.as_slice.result.now ≡ c.args.held.now.items ++ c.args.piece.now = c.as_slice.ensures.value ∙ c.in-Ok.ensures.items in
    rw (p.1, p.2) (piece_stopped _ _ c.as_slice.result.now _ _ _ parts _ c.in_err-left.ensures.err)

pub returns-clause-ok : goal.returns-clause-ok
returns-clause-ok g c = grind (arith, common_steps)
