use Rattle.std.proofs.Common.{arith}
use Rattle.std.proofs.lemmas.Grind.{common_steps}
use Rattle.tca_templates.specs.Specifiers.{change_at}
use Rattle.tca_templates.proofs.specifiers.read_change.Goals as goal

pub returns-then-count-eq0-clause-exact : goal.returns-then-count-eq0-clause-exact
unfolding change_at
returns-then-count-eq0-clause-exact c = grind (arith, common_steps)

pub returns-then-id-lt256-clause-exact : goal.returns-then-id-lt256-clause-exact
unfolding change_at
returns-then-id-lt256-clause-exact c = grind (arith, common_steps)

pub returns-then-count-eq0-2-clause-exact : goal.returns-then-count-eq0-2-clause-exact
unfolding change_at
returns-then-count-eq0-2-clause-exact c = grind (arith, common_steps)

pub returns-then-count-gt-MOST_FIELDS-clause-exact : goal.returns-then-count-gt-MOST_FIELDS-clause-exact
unfolding change_at
returns-then-count-gt-MOST_FIELDS-clause-exact c = grind (arith, common_steps)

pub returns-in_err-head-clause-exact : goal.returns-in_err-head-clause-exact
unfolding change_at
returns-in_err-head-clause-exact c = grind (arith, common_steps)

pub returns-in_err-shortest-clause-exact : goal.returns-in_err-shortest-clause-exact
unfolding change_at
returns-in_err-shortest-clause-exact c = grind (arith, common_steps)

pub returns-then-shortest-eq0-clause-exact : goal.returns-then-shortest-eq0-clause-exact
unfolding change_at
returns-then-shortest-eq0-clause-exact c = grind (arith, common_steps)

pub returns-clause-exact : goal.returns-clause-exact
unfolding change_at
returns-clause-exact c = grind (arith, common_steps)

pub returns-then-count-eq0-clause-within : goal.returns-then-count-eq0-clause-within
unfolding change_at
returns-then-count-eq0-clause-within c = grind (arith, common_steps)

pub returns-then-count-eq0-clause-no_memory : goal.returns-then-count-eq0-clause-no_memory
unfolding change_at
returns-then-count-eq0-clause-no_memory c = grind (arith, common_steps)

pub returns-then-id-lt256-clause-within : goal.returns-then-id-lt256-clause-within
unfolding change_at
returns-then-id-lt256-clause-within c = grind (arith, common_steps)

pub returns-then-id-lt256-clause-no_memory : goal.returns-then-id-lt256-clause-no_memory
unfolding change_at
returns-then-id-lt256-clause-no_memory c = grind (arith, common_steps)

pub returns-then-count-eq0-2-clause-within : goal.returns-then-count-eq0-2-clause-within
unfolding change_at
returns-then-count-eq0-2-clause-within c = grind (arith, common_steps)

pub returns-then-count-eq0-2-clause-no_memory : goal.returns-then-count-eq0-2-clause-no_memory
unfolding change_at
returns-then-count-eq0-2-clause-no_memory c = grind (arith, common_steps)

pub returns-in_err-head-clause-within : goal.returns-in_err-head-clause-within
unfolding change_at
returns-in_err-head-clause-within c = grind (arith, common_steps)

pub returns-in_err-head-clause-no_memory : goal.returns-in_err-head-clause-no_memory
unfolding change_at
returns-in_err-head-clause-no_memory c = grind (arith, common_steps)

pub returns-in_err-shortest-clause-within : goal.returns-in_err-shortest-clause-within
unfolding change_at
returns-in_err-shortest-clause-within c = grind (arith, common_steps)

pub returns-in_err-shortest-clause-no_memory : goal.returns-in_err-shortest-clause-no_memory
unfolding change_at
returns-in_err-shortest-clause-no_memory c = grind (arith, common_steps)

pub returns-then-shortest-eq0-clause-within : goal.returns-then-shortest-eq0-clause-within
unfolding change_at
returns-then-shortest-eq0-clause-within c = grind (arith, common_steps)

pub returns-then-shortest-eq0-clause-no_memory : goal.returns-then-shortest-eq0-clause-no_memory
unfolding change_at
returns-then-shortest-eq0-clause-no_memory c = grind (arith, common_steps)

pub invariant_of-definition : goal.invariant_of-definition
unfolding change_at
invariant_of-definition c = grind (arith, common_steps)

pub returns-clause-within : goal.returns-clause-within
unfolding change_at
returns-clause-within c = grind (arith, common_steps)

pub returns-clause-no_memory : goal.returns-clause-no_memory
unfolding change_at
returns-clause-no_memory c = grind (arith, common_steps)
