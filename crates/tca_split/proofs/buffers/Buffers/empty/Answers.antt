use Rattle.std.proofs.Common.{[]}
use Rattle.tca_split.proofs.OnResults.{err_of}
use Rattle.tca_split.proofs.BufferSteps.{begins_more}
use Rattle.tca_split.proofs.buffers.Buffers.empty.Goals as goal

pub returns-in_err-empty_one-clause-err : goal.returns-in_err-empty_one-clause-err
returns-in_err-empty_one-clause-err g c =
    err_of _ c.from_residual.result
    (begins_more [] [] _ _ _ (g.F.Folder.files c.loop-domain.folder) _ c.loop-domain.invariant.taken c.in_err-empty_one.ensures.err)
