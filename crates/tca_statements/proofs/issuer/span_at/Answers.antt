use Rattle.std.proofs.Common.{rules, ◌∙◌, sym, refl}
use Rattle.std.proofs.lemmas.List.Sorted.{answers_always}
use Rattle.std.proofs.lemmas.Option.{slice_get_read}
use Rattle.tca_statements.proofs.SpanSearch.{found, missing}
use Rattle.tca_statements.proofs.issuer.span_at.Goals as goal

pub returns-in-Ok : goal.returns-in-Ok
returns-in-Ok c =
    let equal = c.in-Ok.ensures.position (λ s. s.index) (answers_always _ _ _ (λ f a r g called. search rules)) in
    sym (found c.args.spans.now c.requires c.args.index c.in-Ok.at c.in-Ok.ensures.bound equal ∙ slice_get_read c.args.spans.now _ c.in-Ok.at _ refl c.in-Ok.ensures.bound c.index-spans-at.is)

pub returns-in-Err : goal.returns-in-Err
returns-in-Err c = sym (missing c.args.spans.now c.requires c.args.index c.in-Err.field-0 (c.in-Err.ensures.position (λ s. s.index) (answers_always _ _ _ (λ f a r g called. search rules))))
