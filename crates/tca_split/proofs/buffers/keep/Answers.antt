use Rattle.std.proofs.Common.{arith}
use Rattle.tca_split.proofs.OnResults.{err_of, err_map, ok_map, other}
use Rattle.tca_split.proofs.FileSteps.{starts_longer, leaves_more, starts_more}
use Rattle.tca_split.proofs.buffers.keep.Goals as goal

pub returns-in_err-make_room-clause-err : goal.returns-in_err-make_room-clause-err
returns-in_err-make_room-clause-err g c = err_of _ c.from_residual.result (starts_longer _ _ _ _ _ c.in_err-make_room.ensures.err)

pub returns-then-message-capacity-clause-ok : goal.returns-then-message-capacity-clause-ok
returns-then-message-capacity-clause-ok g c =
    ok_map _ _ c.append_all.result (λ k. leaves_more _ _ _ _ _ _ _ c.in_ok-make_room.ensures.ok (other c.in_ok-make_room.ensures.room (λ fits. omega (arith, fits))) k) c.append_all.ensures.all

pub returns-then-message-capacity-clause-err : goal.returns-then-message-capacity-clause-err
returns-then-message-capacity-clause-err g c =
    err_map _ _ c.append_all.result (λ k. starts_more _ _ _ _ _ _ _ c.in_ok-make_room.ensures.ok (other c.in_ok-make_room.ensures.room (λ fits. omega (arith, fits))) k) c.append_all.ensures.part
