use Rattle.std.proofs.lemmas.Grind.{common_steps}
use Rattle.std.proofs.Common.{List, map, ◌++◌, refl, sym, ap, ◌∙◌, arith}
use Rattle.std.specs.Prelude.{◌≡◌, Ok, Err}
use Rattle.tca_templates.specs.declared.fault.DecodeFault.TheVariants.{Memory}
use Rattle.std.proofs.lemmas.Result.{err_from_is_err_and}
use Rattle.tca_templates.specs.declared.outcome.Collector.{Collector}
use Rattle.tca_templates.specs.declared.outcome.PlacedFields.{PlacedFields}
use Rattle.tca_templates.specs.Outcomes.{placed_view}
use Rattle.tca_templates.proofs.outcome.read_values.Goals as goal

pub returns-in_err-aside-clause-exact : goal.returns-in_err-aside-clause-exact
returns-in_err-aside-clause-exact c =
    let p = err_from_is_err_and c.from_residual.result c.from_residual.ensures.1 in
    let start : Collector = record { alloc = c.args.alloc; placed = c.new.result } in
    rw (p.1, p.2) (λ other. c.in_err-aside.ensures.exact start (rw c.new.ensures.items refl) other)

pub returns-clause-exact : goal.returns-clause-exact
returns-clause-exact c =
    let start : Collector = record { alloc = c.args.alloc; placed = c.new.result } in
    let come = c.in_ok-aside.ensures.exact start (rw c.new.ensures.items refl) in
    let records = come.2.records ∙ ap (λ (l : List PlacedFields). map placed_view l ++ come.0.records) c.new.ensures.items in
    come.1 ∙ (λ i. Ok (record { templates = come.2.templates i; records = sym records i; unplaced = come.2.unplaced i; skipped = come.2.skipped i }))

pub returns-in_err-aside-clause-wanted : goal.returns-in_err-aside-clause-wanted
returns-in_err-aside-clause-wanted c =
    let p = err_from_is_err_and c.from_residual.result c.from_residual.ensures.1 in
    let start : Collector = record { alloc = c.args.alloc; placed = c.new.result } in
    rw (p.1, p.2) (λ memory.
    let same : c.in_err-aside.field-0.0 ≡ Memory = cc in
    c.in_err-aside.ensures.wanted (ap (λ f. Err f) same) start (rw c.new.ensures.items refl))

pub returns-in_err-aside-clause-before : goal.returns-in_err-aside-clause-before
returns-in_err-aside-clause-before c = grind (arith, common_steps)

pub returns-in_err-aside-clause-memory : goal.returns-in_err-aside-clause-memory
returns-in_err-aside-clause-memory c = grind (arith, common_steps)

pub returns-clause-before : goal.returns-clause-before
returns-clause-before c = grind (arith, common_steps)

pub returns-clause-wanted : goal.returns-clause-wanted
returns-clause-wanted c = grind (arith, common_steps)

pub returns-clause-memory : goal.returns-clause-memory
returns-clause-memory c = grind (arith, common_steps)
