use Rattle.std.proofs.Common.{◌≡◌, [], ◌∷◌, ◌++◌, sym, ap, ◌∙◌, arith}
use Rattle.std.proofs.lemmas.List.{nil_from_length, append-nil}
use Rattle.tca_log.specs.inside.Chunks.{joined}
use Rattle.tca_log.proofs.rows.Rows.into_list.Goals as goal

pub returns-in-Some : goal.returns-in-Some
returns-in-Some g c =
    let none : c.pop.new.self.items ≡ [] = nil_from_length c.pop.new.self.items (omega (arith, c.in-Some.ensures.cases)) in
    c.into_list.ensures ∙ sym (append-nil c.in-Some.chunk) ∙ ap joined (sym (c.in-Some.ensures.items ∙ ap (λ l. l ++ c.in-Some.chunk ∷ []) none)) ∙ ap (λ o. o.rows) c.self.view_is
