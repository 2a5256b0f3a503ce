use Rattle.std.proofs.Common.{rules}
use Rattle.std.proofs.lemmas.List.Sorted.{answers_always}
use Rattle.tca_join.proofs.Positions.{searched}
use Rattle.tca_join.proofs.by_key.search.Goals as goal

pub returns : goal.returns
returns g c =
    let facts = c.binary_search_by_key.ensures in
    let by_key = facts.position (λ e. e.0) (answers_always _ _ _ (λ f a r h called. search rules)) in
    searched c.args.entries.now c.args.key c.binary_search_by_key.result c.requires facts.bound by_key
