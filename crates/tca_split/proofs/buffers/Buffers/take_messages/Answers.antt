use Rattle.std.proofs.Common.{◌∙◌, List, ℕ, sym, subst}
use Rattle.std.proofs.lemmas.Result.{err_from_is_err_and}
use Rattle.tca_wire.specs.Frames.{IsFrame}
use Rattle.tca_split.proofs.FrontSteps.{taken_more, at_message, at_fault}
use Rattle.tca_split.proofs.buffers.Buffers.take_messages.Goals as goal

pub returns-in_err-take_message-in-Ok-Some-clause-err : goal.returns-in_err-take_message-in-Ok-Some-clause-err
returns-in_err-take_message-in-Ok-Some-clause-err g c =
    let p = err_from_is_err_and c.from_residual.result c.from_residual.ensures.1 in
    let frame = rw c.in-Ok-Some.field-0-is at c.in-Ok-Some.ensures.frame in
    let m = c.in_err-take_message-in-Ok-Some.ensures in
    rw (p.1, p.2) (at_message _ _ _ _ _ _ c.loop-length.invariant.taken c.split_at.result.0.now c.split_at.result.1.now _ _ c.split_at.ensures.by_index.0
    (subst (λ (o : List ℕ). IsFrame o) (sym c.split_at.ensures.front) frame) c.loop-length.invariant.same m.err m.fault)

pub loop-length-preserved : goal.loop-length-preserved
loop-length-preserved g c =
    let frame = rw c.in-Ok-Some.field-0-is at c.in-Ok-Some.ensures.frame in
    let m = c.in_ok-take_message-in-Ok-Some.ensures in
    record {
      same = λ d. m.same d ∙ c.loop-length.invariant.same d;
      taken = taken_more _ _ _ _ _ _ c.loop-length.invariant.taken c.split_at.result.0.now c.split_at.result.1.now _ _ c.split_at.ensures.by_index.0
          (subst (λ (o : List ℕ). IsFrame o) (sym c.split_at.ensures.front) frame) m.ok;
      calm = m.count ∙ c.loop-length.invariant.calm;
    }

pub returns-in-Err-clause-err : goal.returns-in-Err-clause-err
returns-in-Err-clause-err g c = at_fault _ _ _ _ _ _ c.loop-length.invariant.taken c.in-Err.fault c.in-Err.ensures.fault
