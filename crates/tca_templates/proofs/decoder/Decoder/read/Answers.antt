use Rattle.std.proofs.lemmas.Grind.{common_steps}
use Rattle.std.proofs.Common.{arith}
use Rattle.tca_templates.proofs.SessionLaws.{templates_have, reading_holds, reading_given}
use Rattle.tca_templates.proofs.FirstFaults.{reading_refused}
use Rattle.tca_templates.proofs.decoder.Decoder.read.Goals as goal

pub returns-clause-found : goal.returns-clause-found
returns-clause-found c = rw (← c.self.view_is, ← c.of-source.ensures) (reading_holds _ _ _ _ _ _ _ (templates_have c.self.inside.templates) c.read_message.ensures.exact)

pub returns-clause-only : goal.returns-clause-only
returns-clause-only c = rw (← c.self.view_is, ← c.of-source.ensures) (reading_given _ _ _ _ _ _ _ c.read_message.ensures.exact)

pub returns-clause-first : goal.returns-clause-first
returns-clause-first c = rw (← c.self.view_is, ← c.of-source.ensures) (reading_refused _ _ _ _ _ _ _ (templates_have c.self.inside.templates) c.read_message.ensures.exact)

pub returns-clause-exact : goal.returns-clause-exact
returns-clause-exact c = grind (arith, common_steps)

pub returns-clause-err : goal.returns-clause-err
returns-clause-err c = grind (arith, common_steps)

pub returns-clause-wanted : goal.returns-clause-wanted
returns-clause-wanted c = grind (arith, common_steps)

pub returns-clause-memory : goal.returns-clause-memory
returns-clause-memory c = grind (arith, common_steps)
