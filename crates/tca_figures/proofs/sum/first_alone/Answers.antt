use Rattle.std.proofs.Common.{◌≡◌, ◌∙◌, sym, ap, subst, []}
use Rattle.std.proofs.lemmas.List.{nil_from_length}
use Rattle.std.specs.Option.{MatchOption}
use Rattle.tca_figures.specs.Sums.{AreInOrder, IsFirst, added_spans}
use Rattle.tca_figures.proofs.Firsts.{none_in_order, nothing_added, only_right}
use Rattle.tca_figures.proofs.sum.first_alone.Goals as goal

pub returns-in_err-span : goal.returns-in_err-span
returns-in_err-span c =
    let none = nil_from_length c.args.spans.now c.in_err-span.ensures.cases in
    subst (λ r. MatchOption r (added_spans c.args.none.now c.args.spans.now ≡ []) (λ n. IsFirst c.args.none.now c.args.spans.now n.0 n.1.now n.2.now)) (sym c.from_residual.ensures)
    (ap (λ z. added_spans z c.args.spans.now) c.requires.nothing ∙ (ap (added_spans []) none ∙ nothing_added))

pub returns : goal.returns
returns c =
    only_right c.args.none.now c.args.spans.now (subst AreInOrder (sym c.requires.nothing) none_in_order) c.requires.order c.in_ok-span.span.now c.in_ok-span.behind.now c.requires.nothing c.in_ok-span.ensures.cases.0
