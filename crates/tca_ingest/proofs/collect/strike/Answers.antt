use Rattle.std.proofs.Common.{◌≡◌, ◌≢◌, ◌<◌, List, slice_index_or, ◌++◌, length, rules, sym, ap, ◌∙◌, subst, refl}
use Rattle.std.specs.List.{AllByRecursion}
use Rattle.std.specs.List.Sorted.{IsPermutation}
use denote.Bor.{Bor}
use Rattle.tca_ingest.specs.declared.entry.Entry.{Entry}
use Rattle.tca_ingest.specs.EntryViews.{entry_view}
use Rattle.tca_ingest.specs.Works.{views_of, entry_in}
use Rattle.tca_ingest.proofs.Collecting.{strikes}
use Rattle.tca_ingest.proofs.collect.strike.Goals as goal

pub returns-in-Some-clause-struck : goal.returns-in-Some-clause-struck
returns-in-Some-clause-struck c struck =
    let left = c.args.left.now.items in
    let x = c.remove.result in
    let low : c.in-Some.at < length left = search rules in
    let says : entry_view x.now ≡ entry_view c.in-Ok.receipt.entry =
    ap (λ (b : Bor Entry). entry_view b.now) (c.remove.ensures.value ∙ ap (λ (es : List (Bor Entry)). slice_index_or es c.in-Some.at x) (sym c.deref.ensures.value)) ∙ c.in-Some.ensures.at.1 x in
    let whole = strikes left c.remove.new.self.items c.in-Some.at x (entry_view c.in-Ok.receipt.entry) low c.remove.ensures.value says c.remove.ensures.items in
    subst (λ answer. IsPermutation (views_of left) (entry_in answer ++ views_of c.remove.new.self.items)) (sym c.in-Ok.is) whole

pub returns-in-None-clause-lacks : goal.returns-in-None-clause-lacks
returns-in-None-clause-lacks c missed = record {
  entry = entry_view c.in-Ok.receipt.entry;
  its = ap entry_in c.in-Ok.is;
  lacks = subst (λ (es : List (Bor Entry)). AllByRecursion (λ e. e ≢ entry_view c.in-Ok.receipt.entry) (views_of es)) c.deref.ensures.value (c.in-None.ensures.none refl);
}

pub returns-in-None-clause-struck : goal.returns-in-None-clause-struck
returns-in-None-clause-struck c = search rules
