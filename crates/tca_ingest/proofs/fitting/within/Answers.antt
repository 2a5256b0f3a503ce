use Rattle.std.proofs.Common.{arith}
use Rattle.std.proofs.lemmas.Grind.{common_steps}
use Rattle.tca_ingest.proofs.fitting.within.Goals as goal

pub overflow_cast-journal : goal.overflow_cast-journal
overflow_cast-journal g c = grind (arith, common_steps)

pub returns-then-given_by-journal-clause-same : goal.returns-then-given_by-journal-clause-same
returns-then-given_by-journal-clause-same g c = grind (arith, common_steps)

pub returns-then-given_by-journal-clause-within : goal.returns-then-given_by-journal-clause-within
returns-then-given_by-journal-clause-within g c = grind (arith, common_steps)

pub unreachable-requires : goal.unreachable-requires
unreachable-requires g c = grind (arith, common_steps)

pub unreachable-unreachable : goal.unreachable-unreachable
unreachable-unreachable g c = grind (arith, common_steps)
