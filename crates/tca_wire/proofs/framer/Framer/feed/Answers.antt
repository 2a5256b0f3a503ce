use Rattle.std.proofs.lemmas.Grind.{common_steps}
use Rattle.std.proofs.Common.{◌≡◌, ◌<◌, ◌++◌, List, ℕ, length, sym, ap, ◌∙◌, arith, rules}
use Rattle.std.proofs.lemmas.List.{length-append}
use Rattle.std.proofs.lemmas.Result.{err_from_is_err_and}
use Rattle.tca_wire.specs.Frames.{framing}
use Rattle.tca_wire.proofs.Lending.{no_fault, faulty_feeds, feed_needs, not_part_some}
use Rattle.tca_wire.proofs.framer.Framer.feed.Goals as goal

pub returns-after-is_some-2-clause-stream : goal.returns-after-is_some-2-clause-stream
returns-after-is_some-2-clause-stream c = search rules

pub returns-in-Err-clause-stream : goal.returns-in-Err-clause-stream
returns-in-Err-clause-stream c =
    let well = no_fault c.self.inside.fault (sym c.is_some.ensures ∙ c.if-is_some.false) in
    let is = ap (λ (h : List ℕ). framing h c.self.inside.fault) c.as_slice.ensures.value ∙ c.self.view_is in
    rw (c.fail.ensures, c.new-in-Err.ensures.items) (faulty_feeds c.as_slice.result.now c.args.octets.now c.self.inside.fault c.args.self.now c.in-Err.fault is well c.in-Err.ensures.fault)

pub returns-in_err-extend_from_slice-clause-needed :
    goal.returns-in_err-extend_from_slice-clause-needed
returns-in_err-extend_from_slice-clause-needed c =
    let p = err_from_is_err_and c.from_residual.result c.from_residual.ensures.1 in
    let held = c.as_slice.result.now in
    let well = no_fault c.self.inside.fault (sym c.is_some.ensures ∙ c.if-is_some.false) in
    let is = ap (λ (h : List ℕ). framing h c.self.inside.fault) c.as_slice.ensures.value ∙ c.self.view_is in
    let some : 0 < length (held ++ c.args.octets.now) = omega (arith, length-append held c.args.octets.now, ap length c.as_slice.ensures.value, c.in_err-extend_from_slice.ensures.full) in
    rw p.1 (feed_needs held c.args.octets.now c.self.inside.fault c.args.self.now c.in_default.field-0 is well c.in_default.ensures.frame c.in_default.ensures.part some)

pub returns-in-Err-frames_in-clause-needed : goal.returns-in-Err-frames_in-clause-needed
returns-in-Err-frames_in-clause-needed c =
    let held = c.as_slice.result.now in
    let well = no_fault c.self.inside.fault (sym c.is_some.ensures ∙ c.if-is_some.false) in
    let is = ap (λ (h : List ℕ). framing h c.self.inside.fault) c.as_slice.ensures.value ∙ c.self.view_is in
    let all : c.as_slice-2.result.now ≡ held ++ c.args.octets.now =
    c.as_slice-2.ensures.value ∙ c.in_ok-extend_from_slice.ensures.items ∙ ap (λ (h : List ℕ). h ++ c.args.octets.now) (sym c.as_slice.ensures.value) in
    let some : 0 < length (held ++ c.args.octets.now) = not_part_some (held ++ c.args.octets.now) (rw (sym all) c.in-Err-frames_in.ensures.needed) in
    feed_needs held c.args.octets.now c.self.inside.fault c.args.self.now c.in_default.field-0 is well c.in_default.ensures.frame c.in_default.ensures.part some

pub invariant_of-self-else-is_some-2 : goal.invariant_of-self-else-is_some-2
invariant_of-self-else-is_some-2 c = search rules

pub invariant_of-self-then-is_some-2 : goal.invariant_of-self-then-is_some-2
invariant_of-self-then-is_some-2 c = search rules

pub invariant_of-self-in-Err-frames_in : goal.invariant_of-self-in-Err-frames_in
invariant_of-self-in-Err-frames_in c = grind (arith, common_steps)

pub returns-in-Err-frames_in-clause-unchanged : goal.returns-in-Err-frames_in-clause-unchanged
returns-in-Err-frames_in-clause-unchanged c = grind (arith, common_steps)

pub returns-in-Err-frames_in-clause-some : goal.returns-in-Err-frames_in-clause-some
returns-in-Err-frames_in-clause-some c = grind (arith, common_steps)
