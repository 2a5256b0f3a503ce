use Rattle.std.proofs.lemmas.Grind.{common_steps}
use Rattle.std.proofs.Common.{rules, arith}
use Rattle.std.proofs.lemmas.Bool.{eq-eqb}
use Rattle.tca_ingest.proofs.Matches.{ends}
use Rattle.tca_ingest.proofs.fitting.is_calls_of.Goals as goal

pub returns : goal.returns
returns c =
    let l = c.loop-entry in
    let e = ends c.args.number c.args.journal.now c.args.calls.now l.entry-index l.met (omega arith) l.invariant.met l.invariant.rest in
    ((λ yes. e.0 (search rules)), (λ same. eq-eqb _ _ (e.1 same)))

pub loop-entry-init : goal.loop-entry-init
loop-entry-init c = grind (arith, common_steps)

pub offset_bounds-journal-entry-index : goal.offset_bounds-journal-entry-index
offset_bounds-journal-entry-index c = grind (arith, common_steps)

pub offset_bounds-calls-met : goal.offset_bounds-calls-met
offset_bounds-calls-met c = grind (arith, common_steps)

pub bounds-calls-met : goal.bounds-calls-met
bounds-calls-met c = grind (arith, common_steps)

pub returns-then-met-calls : goal.returns-then-met-calls
returns-then-met-calls c = grind (arith, common_steps)

pub overflow_add-met : goal.overflow_add-met
overflow_add-met c = grind (arith, common_steps)

pub loop-entry-preserved : goal.loop-entry-preserved
loop-entry-preserved c = grind (arith, common_steps)
