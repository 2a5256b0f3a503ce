use Rattle.std.proofs.lemmas.Grind.{common_steps}
use Rattle.std.proofs.Common.{◌≡◌, ℕ, List, [], ◌∷◌, ◌++◌, take, sym, ap, subst, ◌∙◌, arith}
use Rattle.std.specs.List.{concat, AllByRecursion}
use Rattle.std.proofs.lemmas.List.{map_push, take-append-drop}
use Rattle.std.proofs.lemmas.Result.{err_from_is_err_and}
use Rattle.tca_wire.specs.Frames.{IsFrame, octets_of}
use Rattle.tca_wire.proofs.Framings.{frame_more, each_both, not_part_of_one}
use Rattle.tca_wire.proofs.framer.frames_in.Goals as goal

pub loop-length-preserved : goal.loop-length-preserved
loop-length-preserved c =
    let rest = c.loop-length.rest.now in
    let n = c.in-Ok-Some.length in
    let before = octets_of c.loop-length.messages.items in
    let message : c.in_ok-from_slice-in-Ok-Some.field-0.items ≡ take n rest = c.in_ok-from_slice-in-Ok-Some.ensures.items ∙ c.split_at.ensures.front in
    let now : octets_of c.push.new.self.items ≡ before ++ take n rest ∷ [] =
    ap octets_of c.in_ok-push-in-Ok-Some.ensures.items ∙ map_push (λ m. m.items) c.loop-length.messages.items c.in_ok-from_slice-in-Ok-Some.field-0
    ∙ ap (λ (z : List ℕ). before ++ z ∷ []) message in
    let parts : rest ≡ take n rest ++ c.split_at.result.1.now = sym (take-append-drop n rest) ∙ ap (λ (z : List ℕ). take n rest ++ z) (sym c.split_at.ensures.back) in
    let frame = rw c.in-Ok-Some.field-0-is at c.in-Ok-Some.ensures.frame in
    record {
      whole = subst (λ (z : List (List ℕ)). c.args.octets.now ≡ concat z ++ c.split_at.result.1.now) (sym now)
          (frame_more c.args.octets.now before (take n rest) rest c.split_at.result.1.now c.loop-length.invariant.whole parts);
      each = subst (λ (z : List (List ℕ)). AllByRecursion IsFrame z) (sym now) (each_both before (take n rest ∷ []) c.loop-length.invariant.each (frame, tt));
    }

pub returns-in_err-from_slice-in-Ok-Some-clause-needed : goal.returns-in_err-from_slice-in-Ok-Some-clause-needed
returns-in_err-from_slice-in-Ok-Some-clause-needed c =
    let p = err_from_is_err_and c.from_residual.result c.from_residual.ensures.1 in
    let frame = rw c.in-Ok-Some.field-0-is at c.in-Ok-Some.ensures.frame in
    rw p.1 (not_part_of_one c.args.octets.now (octets_of c.loop-length.messages.items) c.loop-length.rest.now c.in-Ok-Some.length c.loop-length.invariant.whole c.loop-length.invariant.each frame)

pub returns-in_err-push-in-Ok-Some-clause-needed : goal.returns-in_err-push-in-Ok-Some-clause-needed
returns-in_err-push-in-Ok-Some-clause-needed c =
    let p = err_from_is_err_and c.from_residual-in_err-push-in-Ok-Some.result c.from_residual-in_err-push-in-Ok-Some.ensures.1 in
    let frame = rw c.in-Ok-Some.field-0-is at c.in-Ok-Some.ensures.frame in
    rw p.1 (not_part_of_one c.args.octets.now (octets_of c.loop-length.messages.items) c.loop-length.rest.now c.in-Ok-Some.length c.loop-length.invariant.whole c.loop-length.invariant.each frame)

pub overflow_sub-taken : goal.overflow_sub-taken
overflow_sub-taken c = grind (arith, common_steps)

pub returns-clause-stream : goal.returns-clause-stream
returns-clause-stream c = grind (arith, common_steps)
