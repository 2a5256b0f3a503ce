use Rattle.std.proofs.Common.{◌≡◌, ◌∙◌, ◌-◌, length, refl}
use Rattle.tca_wire.proofs.Lending.{cut_more, cut_at, cut_short}
use Rattle.tca_wire.proofs.framer.cut_frames.Goals.{in-Ok-None, in-Err}
use Rattle.tca_wire.proofs.framer.cut_frames.Goals as goal

pub loop-length-preserved : goal.loop-length-preserved
loop-length-preserved c =
    let frame = rw c.in-Ok-Some.field-0-is at c.in-Ok-Some.ensures.frame in
    rw c.split_at.ensures.back (cut_more c.args.octets.now c.loop-length.rest.now c.in-Ok-Some.length c.loop-length.invariant frame)

pub returns-clause-frames : goal.returns-clause-frames
returns-clause-frames c =
    let n = length c.args.octets.now - length c.loop-length.rest.now in
    let cut = cut_at c.args.octets.now c.loop-length.rest.now n c.loop-length.invariant (cut_short c.args.octets.now c.loop-length.rest.now c.loop-length.invariant) in
    rw c.split_at-2.ensures.front cut.front

pub returns-clause-ends : goal.returns-clause-ends
returns-clause-ends c =
    let n = length c.args.octets.now - length c.loop-length.rest.now in
    let cut = cut_at c.args.octets.now c.loop-length.rest.now n c.loop-length.invariant (cut_short c.args.octets.now c.loop-length.rest.now c.loop-length.invariant) in
    let back : c.split_at-2.result.1.now ≡ c.loop-length.rest.now = c.split_at-2.ensures.back ∙ cut.behind in
    rw back (elim c.match-frame_length.branch [
      | in-Ok-None w ↦ rw w.fault-is (refl, rw w.in-Ok-None.field-0-is at w.in-Ok-None.ensures.part)
      | in-Err w ↦ rw w.fault-is w.in-Err.ensures.fault
    ])
