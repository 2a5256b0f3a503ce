use Rattle.std.proofs.Common.{◌≡◌, ◌<◌, ◌≤◌, List, [], ◌∷◌, ◌++◌, length, append_assoc, sym, ap, ◌∙◌, arith}
use Rattle.std.proofs.lemmas.List.{append-nil}
use Rattle.std.proofs.lemmas.List.Elements.{All-append}
use Rattle.std.proofs.lemmas.Grind.{flat_map-append, common_steps}
use Rattle.tca_log.specs.inside.Chunks.{joined}
use Rattle.tca_log.proofs.OrderedRows.Small.{all_one}
use Rattle.tca_log.proofs.rows.cut.Goals as goal

pub loop-part-preserved : goal.loop-part-preserved
loop-part-preserved g c =
    let K = g.row.K.Denot in
    let old = c.loop-part.chunks.items in
    let part : List K = c.in-Some.part.now in
    let chunk : List K = c.in_ok-of.field-0 in
    let rest : List K = c.next.new.self.rest.now in
    let same : chunk ≡ part = c.in_ok-of.ensures in
    let items : c.push.new.self.items ≡ old ++ chunk ∷ [] = c.in_ok-push.ensures.items in
    let more : joined (old ++ chunk ∷ []) ≡ joined old ++ part =
    flat_map-append (λ (l : List K). l) old (chunk ∷ []) ∙ ap (λ (l : List K). joined old ++ l) (append-nil chunk ∙ same) in
    let some : 0 < length part = omega (arith, c.in-Some.ensures.steps.1.1, c.in-Some.ensures.steps.1.2, c.loop-part.invariant.size) in
    let few : length part ≤ 256 = omega (arith, c.in-Some.ensures.steps.1.1, c.in-Some.ensures.steps.1.2, c.loop-part.invariant.size) in
    record {
      all = rw (items, more) (append_assoc (joined old) part rest ∙ ap (λ (l : List K). joined old ++ l) (sym c.in-Some.ensures.steps.1.0) ∙ c.loop-part.invariant.all);
      size = c.in-Some.ensures.steps.0 ∙ c.loop-part.invariant.size;
      some = rw items (All-append (λ (l : List K). 0 < length l) old (chunk ∷ []) c.loop-part.invariant.some (all_one (λ (l : List K). 0 < length l) chunk (rw same some)));
      small = rw items (All-append (λ (l : List K). length l ≤ 256) old (chunk ∷ []) c.loop-part.invariant.small (all_one (λ (l : List K). length l ≤ 256) chunk (rw same few)));
    }

pub chunks-part-items-requires : goal.chunks-part-items-requires
chunks-part-items-requires g c = grind (arith, common_steps)

pub loop-part-init-derived : goal.loop-part-init-derived
loop-part-init-derived g c = grind (arith, common_steps)

pub of-requires : goal.of-requires
of-requires g c = grind (arith, common_steps)

pub returns-in_err-of-clause-joined : goal.returns-in_err-of-clause-joined
returns-in_err-of-clause-joined g c = grind (arith, common_steps)

pub returns-in_err-of-clause-some : goal.returns-in_err-of-clause-some
returns-in_err-of-clause-some g c = grind (arith, common_steps)

pub returns-in_err-of-clause-small : goal.returns-in_err-of-clause-small
returns-in_err-of-clause-small g c = grind (arith, common_steps)

pub loop-part-preserved-derived : goal.loop-part-preserved-derived
loop-part-preserved-derived g c = grind (arith, common_steps)

pub returns-in_err-push-clause-joined : goal.returns-in_err-push-clause-joined
returns-in_err-push-clause-joined g c = grind (arith, common_steps)

pub returns-in_err-push-clause-some : goal.returns-in_err-push-clause-some
returns-in_err-push-clause-some g c = grind (arith, common_steps)

pub returns-in_err-push-clause-small : goal.returns-in_err-push-clause-small
returns-in_err-push-clause-small g c = grind (arith, common_steps)

pub returns-clause-joined : goal.returns-clause-joined
returns-clause-joined g c = grind (arith, common_steps)

pub returns-clause-some : goal.returns-clause-some
returns-clause-some g c = grind (arith, common_steps)

pub returns-clause-small : goal.returns-clause-small
returns-clause-small g c = grind (arith, common_steps)
