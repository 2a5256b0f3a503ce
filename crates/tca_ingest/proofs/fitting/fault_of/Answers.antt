use Rattle.std.proofs.lemmas.Grind.{common_steps}
use Rattle.std.proofs.Common.{sym, ◌∙◌, arith}
use Rattle.tca_ingest.specs.EntryViews.{entry_views}
use Rattle.tca_ingest.proofs.Finding.{found_closing}
use Rattle.tca_ingest.proofs.Matches.{views_length}
use Rattle.tca_ingest.proofs.fitting.fault_of.Goals as goal

pub returns-then-are_found-clause-none : goal.returns-then-are_found-clause-none
returns-then-are_found-clause-none g c none =
    found_closing (entry_views c.args.journal.now) c.args.passes.now (c.are_found.ensures.apart c.if-are_found.true) (c.are_found.ensures.found c.if-are_found.true)
    (sym c.given_by-given.ensures ∙ c.if-given-journal.false ∙ sym (views_length c.args.journal.now))

pub overflow_cast-journal : goal.overflow_cast-journal
overflow_cast-journal g c = grind (arith, common_steps)

pub overflow_cast-result : goal.overflow_cast-result
overflow_cast-result g c = grind (arith, common_steps)

pub returns-then-given-journal-clause-none : goal.returns-then-given-journal-clause-none
returns-then-given-journal-clause-none g c = grind (arith, common_steps)

pub returns-then-given-journal-clause-fault : goal.returns-then-given-journal-clause-fault
returns-then-given-journal-clause-fault g c = grind (arith, common_steps)

pub first_differing-requires : goal.first_differing-requires
first_differing-requires g c = grind (arith, common_steps)

pub returns-clause-none : goal.returns-clause-none
returns-clause-none g c = grind (arith, common_steps)

pub returns-clause-fault : goal.returns-clause-fault
returns-clause-fault g c = grind (arith, common_steps)
