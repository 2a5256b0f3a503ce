use Rattle.std.proofs.Common.{◌==◌, ◌∙◌, refl, sym, ap}
use Rattle.std.specs.Option.{option_copied}
use Rattle.std.specs.List.{find}
use Rattle.std.proofs.lemmas.Option.{slice_get_read}
use Rattle.tca_accounts.specs.declared.span.Span.{Span}
use Rattle.tca_statements.specs.Issues.{due_now, octets_of, spans_of}
use Rattle.tca_statements.proofs.issuer.due_now.Goals as goal

pub returns-in-Some-clause-value : goal.returns-in-Some-clause-value
unfolding due_now
returns-in-Some-clause-value c =
    let known = slice_get_read c.args.bill.now.accounts _ c.args.account c.index-as_slice-account.result refl c.requires (rw c.as_slice.ensures at c.index-as_slice-account.is) in
    c.octets_of.ensures.value ∙ ap (λ o. octets_of (option_copied o)) (sym c.in-Some.is) ∙ ap octets_of c.span_at.ensures ∙ ap (λ xs. octets_of (find (λ (s : Span). s.index == c.args.span) xs)) (c.as_slice-2.ensures.list ∙ ap spans_of (sym known))
