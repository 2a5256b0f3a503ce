use Rattle.std.proofs.lemmas.Grind.{common_steps}
use Rattle.std.proofs.Common.{◌≡◌, ℕ, sym, ap, ◌∙◌, Ok, Err, arith}
use Rattle.std.proofs.lemmas.Result.{err_from_is_err_and}
use Rattle.tca_templates.specs.declared.fault.DecodeFault.TheVariants.{Memory}
use Rattle.tca_templates.specs.Specifiers.{ChangeView, onward}
use Rattle.tca_templates.specs.Fields.{change_view, templates_of}
use Rattle.tca_templates.proofs.Changes.{front_more, front_sound}
use Rattle.tca_templates.proofs.store.read_template.Goals as goal

pub returns-clause-next : goal.returns-clause-next
returns-clause-next c =
    let x : ChangeView × ℕ = (change_view c.in_ok-change.change, c.in_ok-change.size) in
    front_more c.args.domain c.args.options (templates_of c.args.templates.now) c.args.at c.args.octets.now (Ok x) c.requires (sym c.in_ok-change.ensures.exact)
    ∙ ap (onward x.1) c.in_ok-apply.ensures.exact

pub returns-in_err-change-clause-bad : goal.returns-in_err-change-clause-bad
returns-in_err-change-clause-bad c =
    let p = err_from_is_err_and c.from_residual.result c.from_residual.ensures.1 in
    rw (p.1, p.2) (λ ne. front_more c.args.domain c.args.options (templates_of c.args.templates.now) c.args.at c.args.octets.now _ c.requires (sym c.in_err-change.ensures.exact))

pub returns-in_err-apply-clause-bad : goal.returns-in_err-apply-clause-bad
returns-in_err-apply-clause-bad c =
    let x : ChangeView × ℕ = (change_view c.in_ok-change.change, c.in_ok-change.size) in
    let p = err_from_is_err_and c.from_residual-in_err-apply.result c.from_residual-in_err-apply.ensures.1 in
    rw (p.1, p.2) (λ ne. front_more c.args.domain c.args.options (templates_of c.args.templates.now) c.args.at c.args.octets.now (Ok x) c.requires (sym c.in_ok-change.ensures.exact)
    ∙ ap (onward x.1) (c.in_err-apply.ensures.exact ne))

pub returns-in_err-apply-clause-last : goal.returns-in_err-apply-clause-last
returns-in_err-apply-clause-last c =
    let x : ChangeView × ℕ = (change_view c.in_ok-change.change, c.in_ok-change.size) in
    let p = err_from_is_err_and c.from_residual-in_err-apply.result c.from_residual-in_err-apply.ensures.1 in
    rw (p.1, p.2) (λ memory.
    let same : c.in_err-apply.field-0.0 ≡ Memory = cc in
    front_sound c.args.domain c.args.options (templates_of c.args.templates.now) c.args.at c.args.octets.now x c.requires (sym c.in_ok-change.ensures.exact)
    (c.in_err-apply.ensures.last (ap (λ f. Err f) same)))

pub returns-in_err-change-clause-next : goal.returns-in_err-change-clause-next
returns-in_err-change-clause-next c = grind (arith, common_steps)

pub returns-in_err-change-clause-last : goal.returns-in_err-change-clause-last
returns-in_err-change-clause-last c = grind (arith, common_steps)

pub returns-in_err-change-clause-within : goal.returns-in_err-change-clause-within
returns-in_err-change-clause-within c = grind (arith, common_steps)

pub returns-in_err-change-clause-before : goal.returns-in_err-change-clause-before
returns-in_err-change-clause-before c = grind (arith, common_steps)

pub returns-in_err-apply-clause-next : goal.returns-in_err-apply-clause-next
returns-in_err-apply-clause-next c = grind (arith, common_steps)

pub returns-in_err-apply-clause-within : goal.returns-in_err-apply-clause-within
returns-in_err-apply-clause-within c = grind (arith, common_steps)

pub returns-in_err-apply-clause-before : goal.returns-in_err-apply-clause-before
returns-in_err-apply-clause-before c = grind (arith, common_steps)

pub returns-clause-bad : goal.returns-clause-bad
returns-clause-bad c = grind (arith, common_steps)

pub returns-clause-last : goal.returns-clause-last
returns-clause-last c = grind (arith, common_steps)

pub returns-clause-within : goal.returns-clause-within
returns-clause-within c = grind (arith, common_steps)

pub returns-clause-before : goal.returns-clause-before
returns-clause-before c = grind (arith, common_steps)
