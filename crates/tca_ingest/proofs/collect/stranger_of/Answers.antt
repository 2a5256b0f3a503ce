use Rattle.std.proofs.lemmas.Grind.{common_steps}
use Rattle.std.proofs.Common.{◌≡◌, ◌≢◌, ◌==◌, ◌∙◌, ℕ, Bool, true, false, arith, inr, length, rules, sym, vec_len}
use Rattle.std.proofs.lemmas.Bool.{eq-eqb}
use Rattle.tca_ingest.specs.Works.{views_of, all_calls, entries_in}
use Rattle.tca_ingest.proofs.Collecting.{have_more, strike_more}
use Rattle.tca_ingest.proofs.collect.stranger_of.Goals as goal

pub loop-job-preserved : goal.loop-job-preserved
loop-job-preserved g c =
    strike_more c.args.done.now c.loop-job.job c.index-done-job.result (views_of c.loop-job.left.items) (views_of c.strike.new.left.items) (all_calls c.args.passes.now)
    c.loop-job-test.true c.loop-job.invariant (c.strike.ensures.struck c.if-not-strike.false)

pub returns-in_default-clause-entries : goal.returns-in_default-clause-entries
unfolding entries_in
returns-in_default-clause-entries g c = grind (arith, common_steps)

pub returns-in_default-clause-own : goal.returns-in_default-clause-own
unfolding entries_in
returns-in_default-clause-own g c = grind (arith, common_steps)

pub returns-in_default-clause-fault : goal.returns-in_default-clause-fault
unfolding entries_in
returns-in_default-clause-fault g c = grind (arith, common_steps)

pub loop-job-init : goal.loop-job-init
unfolding entries_in
loop-job-init g c = grind (arith, common_steps)

pub offset_bounds-done-job : goal.offset_bounds-done-job
unfolding entries_in
offset_bounds-done-job g c = grind (arith, common_steps)

pub bounds-done-job : goal.bounds-done-job
unfolding entries_in
bounds-done-job g c = grind (arith, common_steps)

pub returns-then-not-strike-clause-entries : goal.returns-then-not-strike-clause-entries
unfolding entries_in
returns-then-not-strike-clause-entries g c = grind (arith, common_steps)

pub returns-then-not-strike-clause-own : goal.returns-then-not-strike-clause-own
unfolding entries_in
returns-then-not-strike-clause-own g c = grind (arith, common_steps)

pub returns-then-not-strike-clause-fault : goal.returns-then-not-strike-clause-fault
unfolding entries_in
returns-then-not-strike-clause-fault g c = grind (arith, common_steps)

pub returns-then-is_empty-clause-entries : goal.returns-then-is_empty-clause-entries
unfolding entries_in
returns-then-is_empty-clause-entries g c = grind (arith, common_steps)

pub returns-then-is_empty-clause-own : goal.returns-then-is_empty-clause-own
unfolding entries_in
returns-then-is_empty-clause-own g c = grind (arith, common_steps)

pub returns-clause-entries : goal.returns-clause-entries
unfolding entries_in
returns-clause-entries g c = grind (arith, common_steps)

pub returns-clause-own : goal.returns-clause-own
unfolding entries_in
returns-clause-own g c = grind (arith, common_steps)

pub returns-clause-fault : goal.returns-clause-fault
unfolding entries_in
returns-clause-fault g c = grind (arith, common_steps)

some_left : (n m : ℕ) (b : Bool) → b ≡ (n == 0) → b ≡ false → m ≡ n → m ≢ 0
some_left n m b is not same none = other (sym not ∙ is ∙ eq-eqb n 0 (sym same ∙ none)) where
  other : false ≡ true → ⊥
  other e = cc

pub returns-clause-stranger : goal.returns-clause-stranger
returns-clause-stranger g c =
    let left = c.loop-job.left in
    let n : vec_len left ≡ length left.items = search rules in
    λ small. inr (
      c.number_of-else-is_empty.ensures small,
      have_more c.args.done.now c.args.passes.now c.loop-job.job left.items c.loop-job-test.false c.loop-job.invariant (some_left (vec_len left) (length left.items) c.is_empty.result c.is_empty.ensures c.if-is_empty.false (sym n)),
    )
