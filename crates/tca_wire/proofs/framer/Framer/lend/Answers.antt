use Rattle.std.proofs.Common.{◌≡◌, ◌<◌, ◌++◌, [], List, ℕ, length, take, sym, ap, ◌∙◌, arith}
use Rattle.std.proofs.lemmas.Bool.Decides.{nat_tests}
use Rattle.std.proofs.lemmas.List.{length-append}
use Rattle.std.proofs.lemmas.Result.{err_from_is_err_and}
use Rattle.tca_wire.specs.Frames.{framing}
use Rattle.tca_wire.proofs.Lending.{no_frames, one_frame, faulty_feeds, feed_needs, lend_needs, holds_part}
use Rattle.tca_wire.proofs.framer.Framer.lend.Goals as goal

pub lend_from-requires-clause-frames : goal.lend_from-requires-clause-frames
lend_from-requires-clause-frames c =
    let well = c.in_default.is in
    let held = c.self.inside.held.items in
    let none : length held ≡ 0 = grind (arith, nat_tests, c.is_empty.ensures, c.if-is_empty.true) in
    (held, sym c.self.view_is ∙ ap (framing held) well, no_frames (held ++ []) (omega (arith, none, length-append held [])))

pub lend_from-requires-in-Ok-Some-clause-frames : goal.lend_from-requires-in-Ok-Some-clause-frames
lend_from-requires-in-Ok-Some-clause-frames c =
    let well = c.in_default.is in
    let held = c.as_slice.result.now in
    let is = ap (λ (h : List ℕ). framing h c.self.inside.fault) c.as_slice.ensures.value ∙ c.self.view_is in
    let frame = rw c.in-Ok-Some.field-0-is at c.in-Ok-Some.ensures.frame in
    (held, sym is ∙ ap (framing held) well, one_frame (held ++ take c.in-Ok-Some.ended c.args.piece.now) frame)

pub returns-in_err-extend_from_slice-in-Ok-None-clause-needed :
    goal.returns-in_err-extend_from_slice-in-Ok-None-clause-needed
returns-in_err-extend_from_slice-in-Ok-None-clause-needed c =
    let p = err_from_is_err_and c.from_residual.result c.from_residual.ensures.1 in
    let well = c.in_default.is in
    let held = c.as_slice.result.now in
    let is = ap (λ (h : List ℕ). framing h c.self.inside.fault) c.as_slice.ensures.value ∙ c.self.view_is in
    let some : 0 < length held = grind (arith, nat_tests, c.is_empty.ensures, c.if-is_empty.false, c.as_slice.ensures.len) in
    let part = holds_part held c.args.self.now (sym is ∙ ap (framing held) well) some in
    let more : 0 < length (held ++ c.args.piece.now) = omega (arith, length-append held c.args.piece.now, some) in
    rw p.1 (λ frames after feeds.
    lend_needs c.args.self.now frames after part
    (feed_needs held c.args.piece.now c.self.inside.fault c.args.self.now c.in-Ok-None.field-0 is well c.in-Ok-None.ensures.frame c.in-Ok-None.ensures.part more frames after feeds))

pub returns-in-Err-clause-stream : goal.returns-in-Err-clause-stream
returns-in-Err-clause-stream c =
    let well = c.in_default.is in
    let is = ap (λ (h : List ℕ). framing h c.self.inside.fault) c.as_slice.ensures.value ∙ c.self.view_is in
    rw (c.fail.ensures, c.nothing-in-Err.ensures.none) (faulty_feeds c.as_slice.result.now c.args.piece.now c.self.inside.fault c.args.self.now c.in-Err.fault is well c.in-Err.ensures.fault)
