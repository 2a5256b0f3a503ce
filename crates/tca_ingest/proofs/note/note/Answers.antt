use Rattle.std.proofs.Common.{◌∙◌, [], ◌∷◌, ◌++◌, ap, rules}
use Rattle.std.proofs.lemmas.List.{map-append}
use Rattle.tca_ingest.specs.Entries.{EntryView}
use Rattle.tca_ingest.specs.EntryViews.{entry_view, entry_views}
use Rattle.tca_ingest.proofs.note.note.Goals as goal

pub returns-clause-journal : goal.returns-clause-journal
returns-clause-journal g c =
    let old = c.args.journal.now.items in
    let first = c.entry.inside.journal in
    ap entry_views c.push_reserved-2.ensures.items
    ∙ map-append entry_view old (first ∷ [])
    ∙ ap (λ (e : EntryView). entry_views old ++ e ∷ []) c.entry.view_is

pub returns-clause-places : goal.returns-clause-places
returns-clause-places g c = search rules
