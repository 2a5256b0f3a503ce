use Rattle.std.proofs.Common.{◌≤◌, ◌∙◌, arith, length, take_all}
use Rattle.tca_ingest.proofs.workers.lent.Goals as goal

pub returns : goal.returns
returns c =
    let past : length c.args.inputs.now ≤ c.loop-input.input-index = omega (arith, c.loop-input-test.false) in
    c.loop-input.invariant ∙ take_all _ c.args.inputs.now past
