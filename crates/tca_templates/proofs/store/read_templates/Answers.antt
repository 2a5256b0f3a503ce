use Rattle.std.proofs.Common.{◌≡◌, suc, refl, sym, ap, Err, ◌∙◌, arith}
use Rattle.tca_templates.specs.declared.fault.DecodeFault.TheVariants.{Memory}
use Rattle.tca_templates.proofs.Wanting.{leads_more}
use Rattle.std.proofs.lemmas.List.{length-drop}
use Rattle.std.proofs.lemmas.Result.{err_from_is_err_and}
use Rattle.tca_wire.proofs.Walking.{walk_next, walk_bad}
use Rattle.tca_templates.specs.Specifiers.{template_front}
use Rattle.tca_templates.specs.Fields.{templates_of}
use Rattle.tca_templates.proofs.Changes.{change_advances, changes_end}
use Rattle.tca_templates.proofs.store.read_templates.Goals as goal

pub loop-rest-preserved : goal.loop-rest-preserved
loop-rest-preserved c =
    let rest = c.loop-rest.rest.now in
    let n = c.in_ok-size.size in
    let step = walk_next (template_front c.args.domain c.args.options) (change_advances c.args.domain c.args.options)
    (templates_of c.loop-rest.templates) (templates_of c.read_template.new.templates) c.loop-rest.at n rest c.in_ok-size.ensures.next in
    record {
      so_far = rw c.split_at.ensures.back (sym step ∙ c.loop-rest.invariant.so_far);
      leads = (suc c.loop-rest.invariant.leads.0, rw c.split_at.ensures.back (leads_more (template_front c.args.domain c.args.options) c.loop-rest.invariant.leads.0 _ _ _ c.args.at c.loop-rest.at n c.args.octets.now rest c.loop-rest.invariant.leads.1 c.in_ok-size.ensures.next));
      before = c.in_ok-size.ensures.before ∙ c.loop-rest.invariant.before;
      place = rw c.split_at.ensures.back (omega (arith, length-drop n rest, c.in_ok-size.ensures.within.1, c.loop-rest.invariant.place));
    }

pub returns-in_err-size-clause-exact : goal.returns-in_err-size-clause-exact
returns-in_err-size-clause-exact c =
    let p = err_from_is_err_and c.from_residual.result c.from_residual.ensures.1 in
    rw (p.1, p.2) (λ ne. sym c.loop-rest.invariant.so_far
    ∙ walk_bad (template_front c.args.domain c.args.options) (change_advances c.args.domain c.args.options)
    (templates_of c.loop-rest.templates) c.loop-rest.at c.loop-rest.rest.now _ (c.in_err-size.ensures.bad ne))

pub returns-clause-exact : goal.returns-clause-exact
returns-clause-exact c =
    sym c.loop-rest.invariant.so_far
    ∙ changes_end c.args.domain c.args.options (templates_of c.loop-rest.templates) c.loop-rest.at c.loop-rest.rest.now c.loop-rest-test.false

pub loop-rest-init : goal.loop-rest-init
loop-rest-init c = record { so_far = refl; leads = (0, (refl, refl, refl)); before = refl; place = refl }

pub returns-in_err-size-clause-wanted : goal.returns-in_err-size-clause-wanted
returns-in_err-size-clause-wanted c =
    let p = err_from_is_err_and c.from_residual.result c.from_residual.ensures.1 in
    rw (p.1, p.2) (λ memory.
    let same : c.in_err-size.field-0.0 ≡ Memory = cc in
    record {
      pieces = c.loop-rest.invariant.leads.0;
      come = templates_of c.loop-rest.templates;
      there = c.loop-rest.at;
      rest = c.loop-rest.rest.now;
      leads = c.loop-rest.invariant.leads.1;
      sound = c.in_err-size.ensures.last (ap (λ f. Err f) same);
    })
