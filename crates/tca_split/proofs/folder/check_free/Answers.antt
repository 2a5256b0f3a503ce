use Rattle.std.proofs.Common.{◌∙◌, ℕ, get_or, sym, take_all}
use Rattle.std.specs.Prelude.{◌==◌}
use Rattle.std.proofs.lemmas.List.Folds.{list_any_at}
use Rattle.tca_split.proofs.DomainTemplates.{itself}
use Rattle.tca_split.proofs.CreateSteps.{is_there, free_more}
use Rattle.tca_split.proofs.folder.check_free.Goals as goal

pub returns-in-Ok-true-clause-exists : goal.returns-in-Ok-true-clause-exists
returns-in-Ok-true-clause-exists g c e all known =
    let ds = c.args.domains.now in
    let d : ℕ = get_or ds c.loop-domain.domain-index 0 in
    let there = sym c.in-Ok-true.field-0-test ∙ c.in-Ok-true.ensures.told all (c.loop-domain.invariant.same ∙ known) in
    (d, list_any_at (λ x. d == x) ds c.loop-domain.domain-index 0 c.loop-domain-test.true (itself d), is_there all d there)

pub loop-domain-preserved : goal.loop-domain-preserved
loop-domain-preserved g c = record {
  same = c.has.ensures.files ∙ c.loop-domain.invariant.same;
  free = λ all known. free_more all c.args.domains.now c.loop-domain.domain-index c.loop-domain-test.true (c.loop-domain.invariant.free all known)
      (sym c.in-Ok-false.field-0-test ∙ c.in-Ok-false.ensures.told all (c.loop-domain.invariant.same ∙ known));
  calm = c.in-Ok-false.ensures.count ∙ c.loop-domain.invariant.calm;
}

pub returns-clause-free : goal.returns-clause-free
returns-clause-free g c all known d among =
    c.loop-domain.invariant.free all known d (rw (take_all c.loop-domain.domain-index c.args.domains.now c.loop-domain-test.false) among)
