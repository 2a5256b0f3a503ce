use Rattle.std.proofs.Common.{◌≡◌, true, false, [], sym, ◌∙◌, subst}
use Rattle.std.proofs.lemmas.List.{take_all}
use Rattle.tca_ingest.specs.EntryViews.{entry_views}
use Rattle.tca_ingest.specs.Passes.{AllOwned, IsDiffering}
use Rattle.tca_ingest.proofs.CallSearch.{differing_at, owned_more}
use Rattle.tca_ingest.proofs.Matches.{views_length}
use Rattle.tca_ingest.proofs.Refusals.{closing_owned}
use Rattle.tca_ingest.proofs.fitting.first_differing.Goals as goal

pub loop-i-init : goal.loop-i-init
unfolding AllOwned
loop-i-init g c = tt

pub loop-i-preserved : goal.loop-i-preserved
loop-i-preserved g c = owned_more (entry_views c.args.journal.now) c.args.passes.now c.loop-i.i c.index-passes-i.result c.loop-i-test.true c.index-passes-i.is c.loop-i.invariant (c.owns.ensures.0 c.if-not-owns.false)

never : {P : Type 0} → true ≡ false → P
never e = absurd cc

pub returns-then-not-owns-clause-fault : goal.returns-then-not-owns-clause-fault
returns-then-not-owns-clause-fault g c =
    let journal = entry_views c.args.journal.now in
    let count = c.requires ∙ sym (views_length c.args.journal.now) in
    subst (IsDiffering journal c.args.passes.now) (sym c.number.ensures)
    (differing_at journal c.args.passes.now c.loop-i.i c.index-passes-i.result c.loop-i-test.true c.index-passes-i.is c.loop-i.invariant count (λ own. never (sym (c.owns.ensures.1 own) ∙ c.if-not-owns.true)))

pub returns-clause-none : goal.returns-clause-none
returns-clause-none g c none =
    let journal = entry_views c.args.journal.now in
    let passes = c.args.passes.now in
    (closing_owned journal passes).1 (c.requires ∙ sym (views_length c.args.journal.now), subst (AllOwned journal []) (take_all c.loop-i.i passes c.loop-i-test.false) c.loop-i.invariant)
