use Rattle.std.proofs.lemmas.Grind.{common_steps}
use Rattle.std.proofs.Common.{sym, arith}
use Rattle.tca_join.proofs.Differ.{differ_ends_right}
use Rattle.tca_join.specs.Chains.{differ_at}
use Rattle.tca_gossip.specs.Runs.{same_report}
use Rattle.tca_gossip.proofs.absorb.difference.Goals as goal

pub returns-else-i-second-clause-value : goal.returns-else-i-second-clause-value
returns-else-i-second-clause-value c = sym (differ_ends_right same_report c.args.first.now c.args.second.now c.loop-i.i (differ_at same_report c.args.first.now c.args.second.now) c.if-i-second.false c.loop-i.invariant.so_far)

pub returns-else-i-second-clause-within : goal.returns-else-i-second-clause-within
returns-else-i-second-clause-within c = differ_ends_right same_report c.args.first.now c.args.second.now c.loop-i.i (differ_at same_report c.args.first.now c.args.second.now) c.if-i-second.false c.loop-i.invariant.so_far

pub loop-i-init : goal.loop-i-init
loop-i-init c = grind (arith, common_steps)

pub offset_bounds-first-i : goal.offset_bounds-first-i
offset_bounds-first-i c = grind (arith, common_steps)

pub bounds-first-i : goal.bounds-first-i
bounds-first-i c = grind (arith, common_steps)

pub offset_bounds-second-i : goal.offset_bounds-second-i
offset_bounds-second-i c = grind (arith, common_steps)

pub bounds-second-i : goal.bounds-second-i
bounds-second-i c = grind (arith, common_steps)

pub returns-then-is_ne-clause-value : goal.returns-then-is_ne-clause-value
returns-then-is_ne-clause-value c = grind (arith, common_steps)

pub returns-then-is_ne-clause-within : goal.returns-then-is_ne-clause-within
returns-then-is_ne-clause-within c = grind (arith, common_steps)

pub overflow_add-i : goal.overflow_add-i
overflow_add-i c = grind (arith, common_steps)

pub loop-i-smaller : goal.loop-i-smaller
loop-i-smaller c = grind (arith, common_steps)

pub loop-i-preserved : goal.loop-i-preserved
loop-i-preserved c = grind (arith, common_steps)

pub returns-after-loop-i-clause-value : goal.returns-after-loop-i-clause-value
returns-after-loop-i-clause-value c = grind (arith, common_steps)

pub returns-after-loop-i-clause-within : goal.returns-after-loop-i-clause-within
returns-after-loop-i-clause-within c = grind (arith, common_steps)
