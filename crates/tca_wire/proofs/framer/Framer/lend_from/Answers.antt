use Rattle.std.proofs.Common.{◌≡◌, ◌<◌, ◌++◌, List, ℕ, length, take, sym, ap, ap₂, subst, ◌∙◌, arith}
use Rattle.std.specs.Prelude.{not}
use Rattle.std.specs.Global.{Vec}
use Rattle.std.proofs.lemmas.List.{length-append}
use Rattle.std.proofs.lemmas.Result.{err_from_is_err_and}
use Rattle.tca_wire.specs.Frames.{Framing, Feeds, framing, frames_of_both}
use Rattle.tca_wire.proofs.Lending.{holds_same, failed_same, holds_rest, lends, part_needs, begun_needs}
use Rattle.tca_wire.proofs.framer.Framer.lend_from.Goals.{then-is_none+in_ok-extend_from_slice, else-is_none}
use Rattle.tca_wire.proofs.framer.Framer.lend_from.Goals as goal

pub returns-in_err-extend_from_slice-clause-needed :
    goal.returns-in_err-extend_from_slice-clause-needed
returns-in_err-extend_from_slice-clause-needed c =
    let p = err_from_is_err_and c.from_residual.result c.from_residual.ensures.1 in
    let cut = c.cut_frames-fault.ensures in
    let whole = c.cut_frames-fault.result.0.now in
    let part = c.cut_frames-fault.result.1.now in
    let fault = c.cut_frames-fault.result.2 in
    let parts = sym c.split_at.ensures.back ∙ cut.parts in
    let some : 0 < length part = omega (arith, c.in_err-extend_from_slice.ensures.full, c.new-kept.ensures.len) in
    let left = holds_rest part fault (c.is_none.ensures ∙ ap not c.if-is_none.true) some in
    rw p.1 (part_needs c.requires.frames.0 c.args.piece.now c.args.ended whole part c.args.self.now (framing part fault) c.requires.frames.1 c.requires.frames.2 cut.frames parts cut.ends left)

pub returns-in_err-extend_from_slice-2-clause-needed :
    goal.returns-in_err-extend_from_slice-2-clause-needed
returns-in_err-extend_from_slice-2-clause-needed c =
    let p = err_from_is_err_and c.from_residual-in_err-extend_from_slice-2.result c.from_residual-in_err-extend_from_slice-2.ensures.1 in
    let cut = c.cut_frames-fault.ensures in
    let held = c.requires.frames.0 in
    let end = take c.args.ended c.args.piece.now in
    let whole = c.cut_frames-fault.result.0.now in
    let part = c.cut_frames-fault.result.1.now in
    let fault = c.cut_frames-fault.result.2 in
    let parts = sym c.split_at.ensures.back ∙ cut.parts in
    let some : 0 < c.args.ended = grind (arith, c.in_err-extend_from_slice-2.ensures.full, c.split_at.ensures.front_len) in
    let more : 0 < length (held ++ end) = omega (arith, length-append held end, ap length c.split_at.ensures.front, c.split_at.ensures.front_len, some) in
    rw p.1 (begun_needs held c.args.piece.now c.args.ended whole part c.args.self.now (framing part fault) c.requires.frames.1 c.requires.frames.2 cut.frames parts cut.ends (c.requires.begun some) more)

pub returns-clause-stream : goal.returns-clause-stream
returns-clause-stream c =
    let cut = c.cut_frames-fault.ensures in
    let held = c.requires.frames.0 in
    let end = take c.args.ended c.args.piece.now in
    let whole = c.cut_frames-fault.result.0.now in
    let part = c.cut_frames-fault.result.1.now in
    let fault = c.cut_frames-fault.result.2 in
    let parts = sym c.split_at.ensures.back ∙ cut.parts in
    let all = lends held c.args.piece.now c.args.ended whole part c.args.self.now (framing part fault) c.requires.frames.1 c.requires.frames.2 cut.frames parts cut.ends in
    let same = holds_same c.self.inside.held.items held c.self.inside.fault c.args.self.now c.self.view_is c.requires.frames.1 in
    let begun : c.replace-begun.result.items ≡ held ++ end =
    ap (λ (v : Vec ℕ). v.items) c.replace-begun.ensures.value ∙ c.in_ok-extend_from_slice-2.ensures.items ∙ ap₂ (λ (a b : List ℕ). a ++ b) same c.split_at.ensures.front in
    let kept : framing c.if-is_none.kept.items fault ≡ framing part fault = elim c.if-is_none.branch [
      | then-is_none+in_ok-extend_from_slice w ↦ ap (λ (k : List ℕ). framing k fault) (ap (λ (v : Vec ℕ). v.items) w.kept-is ∙ w.in_ok-extend_from_slice.ensures.items ∙ ap (λ (k : List ℕ). k ++ part) c.new-kept.ensures.items)
      | else-is_none w ↦ failed_same c.if-is_none.kept.items part fault (c.is_none.ensures ∙ ap not w.if-is_none.false)
    ] in
    let state : framing c.replace-begun.new.dest.items fault ≡ framing part fault = ap (λ (v : Vec ℕ). framing v.items fault) c.replace-begun.ensures.after ∙ kept in
    subst (λ (z : List ℕ). Feeds c.args.self.now c.args.piece.now (frames_of_both z whole) (framing c.replace-begun.new.dest.items fault)) (sym begun)
    (subst (λ (x : Framing). Feeds c.args.self.now c.args.piece.now (frames_of_both (held ++ end) whole) x) (sym state) all)
