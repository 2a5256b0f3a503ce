use Rattle.std.proofs.lemmas.Grind.{common_steps}
use Rattle.std.proofs.Common.{◌≡◌, ◌∷◌, ◌++◌, [], refl, sym, subst, rules, true≢false, arith}
use Rattle.std.proofs.Math.ListN.{drop_of_length-le}
use Rattle.tca_report.specs.input.Inputs.{input_view}
use Rattle.tca_program.proofs.InputLaws.{may_lack_if_read}
use Rattle.tca_program.proofs.Uniting.{all_in, cut_here, goes_on, in_turn, none_taken, one_taken, refused}
use Rattle.tca_program.proofs.UnionLaws.{IsUnionWith, in_front, no_input, as_union}
use Rattle.tca_program.proofs.NotedLaws.{all_noted, one_noted}
use Rattle.tca_program.proofs.inputs.unite.Goals as goal

pub loop-n-init : goal.loop-n-init
loop-n-init c = rw (c.new-log.ensures, c.new-all.ensures.items) (record { exact = refl; taken = none_taken; union = λ rs all. all; noted = λ more all. all; rises = search rules })

pub returns-in-Err-clause-refused : goal.returns-in-Err-clause-refused
returns-in-Err-clause-refused c = record {
  due = refused input_view c.args.inputs.now c.loop-n.n c.loop-n.log _ c.loop-n.invariant.exact c.index-inputs-n.result c.in-Err.fault c.loop-n-test.true c.index-inputs-n.is (c.in-Err.ensures.exact);
  turn = in_turn input_view c.args.inputs.now c.loop-n.n c.loop-n.log c.loop-n-test.true c.loop-n.invariant.taken c.index-inputs-n.result c.in-Err.fault c.index-inputs-n.is c.in-Err.ensures.named (c.in-Err.ensures.log_memory) (c.in-Err.ensures.memory_last);
  no_write = c.in-Err.ensures.no_write;
}

pub loop-n-preserved : goal.loop-n-preserved
loop-n-preserved c =
    let l = c.loop-n in
    let input = c.index-inputs-n.result in
    let found = c.in-Ok.ensures.found in
    let cut = cut_here input_view c.args.inputs.now l.n l.log _ l.invariant.exact input c.loop-n-test.true c.index-inputs-n.is in
    let pushed : c.push.new.self.items ≡ l.all.items ++ (c.in-Ok.notes ∷ []) = search rules in
    record {
      exact = goes_on input_view c.args.inputs.now l.n l.log _ l.invariant.exact input c.add_input.new.log c.loop-n-test.true c.index-inputs-n.is (c.in-Ok.ensures.exact);
      taken = one_taken input_view c.args.inputs.now l.n l.log c.loop-n-test.true l.invariant.taken input c.add_input.new.log c.index-inputs-n.is (c.in-Ok.ensures.exact);
      union = λ rs all. l.invariant.union rs (subst (λ z. IsUnionWith l.log z rs) (sym cut) (in_front l.log found.0 c.add_input.new.log rs (input_view input) _ found.1 found.2 all));
      noted = rw pushed (one_noted _ _ (input_view input) l.all.items c.in-Ok.notes (c.in-Ok.ensures.noted) (rw cut at l.invariant.noted));
      rises = c.in-Ok.ensures.rises;
    }

pub returns-clause-united : goal.returns-clause-united
returns-clause-united c =
    let l = c.loop-n in
    record {
      union = as_union _ _ (l.invariant.union l.log (rw (drop_of_length-le c.args.inputs.now c.loop-n-test.false) (no_input l.log l.invariant.rises)));
      taken = all_in input_view c.args.inputs.now l.n l.log _ l.invariant.exact c.loop-n-test.false;
      noted = all_noted _ l.all.items (rw (drop_of_length-le c.args.inputs.now c.loop-n-test.false) at l.invariant.noted);
    }

pub returns-then-is_err-clause-refused : goal.returns-then-is_err-clause-refused
returns-then-is_err-clause-refused c =
    let noted = c.in-Ok.ensures.noted in
    rw c.input.ensures.fault (record {
      due = λ other. absurd (true≢false other);
      turn = in_turn input_view c.args.inputs.now c.loop-n.n c.loop-n.log c.loop-n-test.true c.loop-n.invariant.taken c.index-inputs-n.result _ c.index-inputs-n.is refl (λ short. absurd (true≢false (sym short))) (λ short. may_lack_if_read _ noted.so_far noted.read);
      no_write = refl;
    })

pub offset_bounds-inputs-n : goal.offset_bounds-inputs-n
offset_bounds-inputs-n c = grind (arith, common_steps)

pub bounds-inputs-n : goal.bounds-inputs-n
bounds-inputs-n c = grind (arith, common_steps)

pub overflow_cast-n : goal.overflow_cast-n
overflow_cast-n c = grind (arith, common_steps)

pub overflow_cast-n-then-is_err : goal.overflow_cast-n-then-is_err
overflow_cast-n-then-is_err c = grind (arith, common_steps)

pub same-log : goal.same-log
same-log c = grind (arith, common_steps)
