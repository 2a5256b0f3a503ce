use Rattle.std.proofs.lemmas.Grind.{common_steps}
use Rattle.std.proofs.Common.{sym, ap, ◌∙◌, ◌++◌, length, arith}
use Rattle.tca_log.specs.inside.Chunks.{joined}
use Rattle.tca_log.proofs.rows.iter.RowsIterIterator.next.Goals as goal

pub returns-clause-steps : goal.returns-clause-steps
returns-clause-steps g c = sym c.loop-self.invariant ∙ ap (λ s. s ++ joined c.loop-self.self-inside.later.now) c.in_ok-first.ensures.cases.0

pub returns-clause-goes : goal.returns-clause-goes
returns-clause-goes g c = record { on = λ _. (tt, tt, omega (arith, ap length (returns-clause-steps g c))); keeps = tt; rests = λ _. tt }

pub loop-self-init : goal.loop-self-init
loop-self-init g c = grind (arith, common_steps)

pub returns-in_err-chunk-clause-steps : goal.returns-in_err-chunk-clause-steps
returns-in_err-chunk-clause-steps g c = grind (arith, common_steps)

pub returns-in_err-chunk-clause-goes : goal.returns-in_err-chunk-clause-goes
returns-in_err-chunk-clause-goes g c = grind (arith, common_steps)

pub loop-self-smaller : goal.loop-self-smaller
loop-self-smaller g c = grind (arith, common_steps)

pub loop-self-preserved : goal.loop-self-preserved
loop-self-preserved g c = grind (arith, common_steps)

pub returns-in_err-first-clause-steps : goal.returns-in_err-first-clause-steps
returns-in_err-first-clause-steps g c = grind (arith, common_steps)

pub returns-in_err-first-clause-goes : goal.returns-in_err-first-clause-goes
returns-in_err-first-clause-goes g c = grind (arith, common_steps)
