use Rattle.std.proofs.lemmas.Grind.{common_steps}
use Rattle.std.proofs.Common.{[], ◌≡◌, ◌<◌, ◌≤◌, ◌+◌, ℕ, Some, refl, sym, ap, ◌∙◌, arith, length}
use Rattle.std.proofs.lemmas.List.{length-drop}
use Rattle.std.proofs.lemmas.Result.{err_from_is_err_and}
use Rattle.tca_templates.specs.Templates.{shortest_of}
use Rattle.tca_templates.specs.Records.{fields_on}
use Rattle.tca_templates.specs.inside.Layouts.{fields_in}
use Rattle.tca_templates.specs.Fields.{template_of}
use Rattle.tca_templates.proofs.Records.{data_ends}
use Rattle.tca_templates.proofs.LayoutLaws.{found_fixed, size_fixed}
use Rattle.tca_templates.proofs.TakingSteps.{walked_first, walked_more, walked_wants, walked_full}
use Rattle.tca_templates.proofs.record.read_fixed.Goals as goal

pub loop-rest-init : goal.loop-rest-init
loop-rest-init g c = record {
  so_far = λ start records at taken. (at, walked_first g.T.TakesRecords.took c.args.source (template_of c.args.template.now) start c.args.taker.now c.args.count at c.args.octets.now records taken);
  few = omega arith;
  size = refl;
}

pub invariant_of-record : goal.invariant_of-record
invariant_of-record g c =
    let t = c.args.template.now in
    (found_fixed t.choice t.specs.items c.args.spots.now c.loop-rest.rest.now t.chosen c.requires.laid (omega (arith, c.loop-rest-test.true, t.right)), c.of-usual.ensures)

pub loop-rest-preserved : goal.loop-rest-preserved
loop-rest-preserved g c =
    let t = c.args.template.now in
    let rest = c.loop-rest.rest.now in
    let le : shortest_of t.specs.items ≤ length rest = omega (arith, c.loop-rest-test.true, t.right) in
    let some : 0 < shortest_of t.specs.items = omega (arith, t.some, t.right) in
    let read : fields_on [] 0 t.specs.items rest ≡ Some (fields_in t.specs.items rest, t.shortest) =
    size_fixed t.specs.items rest c.requires.laid.fixed le ∙ ap (λ (n : ℕ). Some (fields_in t.specs.items rest, n)) (sym t.right) in
    record {
      so_far = λ start records at taken.
          let w = c.loop-rest.invariant.so_far start records at taken in (
            w.0 + t.shortest,
            rw c.split_at.ensures.back (walked_more g.T.TakesRecords.took c.args.source (template_of t) start c.loop-rest.taker c.take.new.self c.loop-rest.count w.0 t.shortest rest _ _ _ some w.1 le read
                (c.in_ok-take.ensures.ok start w.1.all w.1.holds)),
          );
      few = rw c.split_at.ensures.back (omega (arith, length-drop t.shortest rest, c.loop-rest.invariant.few, t.some, c.loop-rest-test.true));
      size = refl;
    }

pub returns-clause-exact : goal.returns-clause-exact
returns-clause-exact g c = λ start records at taken.
    let t = c.args.template.now in
    let some : 0 < shortest_of t.specs.items = omega (arith, t.some, t.right) in
    let w = c.loop-rest.invariant.so_far start records at taken in
    let less : length c.loop-rest.rest.now < shortest_of t.specs.items = omega (arith, c.loop-rest-test.false, t.right) in
    (w.1.all, sym w.1.same ∙ data_ends c.args.source (template_of t) some w.1.all w.0 c.loop-rest.rest.now less, (w.1.holds, w.1.counted))

pub returns-in_err-take-clause-wanted : goal.returns-in_err-take-clause-wanted
returns-in_err-take-clause-wanted g c =
    let t = c.args.template.now in
    let rest = c.loop-rest.rest.now in
    let le : shortest_of t.specs.items ≤ length rest = omega (arith, c.loop-rest-test.true, t.right) in
    let p = err_from_is_err_and c.from_residual.result c.from_residual.ensures.1 in
    rw p.1 (λ start records at taken.
    let w = c.loop-rest.invariant.so_far start records at taken in
    walked_wants g.T.TakesRecords.took c.args.source (template_of t) start c.loop-rest.taker c.loop-rest.count w.0 _ rest _ _ _ w.1 le (size_fixed t.specs.items rest c.requires.laid.fixed le))

pub returns-in_err-take-clause-held : goal.returns-in_err-take-clause-held
returns-in_err-take-clause-held g c =
    let t = c.args.template.now in
    let rest = c.loop-rest.rest.now in
    let le : shortest_of t.specs.items ≤ length rest = omega (arith, c.loop-rest-test.true, t.right) in
    let p = err_from_is_err_and c.from_residual.result c.from_residual.ensures.1 in
    rw p.1 (λ start records at taken.
    let w = c.loop-rest.invariant.so_far start records at taken in
    walked_full g.T.TakesRecords.took c.args.source (template_of t) start c.loop-rest.taker c.take.new.self c.loop-rest.count w.0 _ rest _ _ _ w.1 le (size_fixed t.specs.items rest c.requires.laid.fixed le)
    (c.in_err-take.ensures.err start w.1.all w.1.holds))

pub returns-in_err-take-clause-exact : goal.returns-in_err-take-clause-exact
returns-in_err-take-clause-exact g c = grind (arith, common_steps)

pub returns-in_err-take-clause-few : goal.returns-in_err-take-clause-few
returns-in_err-take-clause-few g c = grind (arith, common_steps)

pub returns-clause-wanted : goal.returns-clause-wanted
returns-clause-wanted g c = grind (arith, common_steps)

pub returns-clause-few : goal.returns-clause-few
returns-clause-few g c = grind (arith, common_steps)

pub returns-clause-held : goal.returns-clause-held
returns-clause-held g c = grind (arith, common_steps)
