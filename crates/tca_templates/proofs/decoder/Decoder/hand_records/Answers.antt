use Rattle.std.proofs.lemmas.Grind.{common_steps}
use Rattle.std.proofs.Common.{refl, ap, arith}
use Rattle.std.specs.Prelude.{◌≡◌, Err}
use Rattle.tca_templates.specs.declared.fault.DecodeFault.TheVariants.{Memory}
use Rattle.std.proofs.lemmas.Result.{err_from_is_err_and}
use Rattle.tca_templates.proofs.SessionLaws.{templates_have, reading_found}
use Rattle.tca_templates.proofs.FirstFaults.{reading_fault}
use Rattle.tca_templates.proofs.decoder.Decoder.hand_records.Goals as goal

pub returns-in_err-aside-clause-first : goal.returns-in_err-aside-clause-first
returns-in_err-aside-clause-first g c =
    let p = err_from_is_err_and c.from_residual.result c.from_residual.ensures.1 in
    rw (p.1, p.2, ← c.self.view_is, ← c.of-source.ensures) (λ start taken other. reading_fault _ _ _ _ _ (templates_have c.self.inside.templates) (c.in_err-aside.ensures.exact start taken other))

pub returns-in_err-aside-clause-held : goal.returns-in_err-aside-clause-held
returns-in_err-aside-clause-held g c =
    let p = err_from_is_err_and c.from_residual.result c.from_residual.ensures.1 in
    rw (p.1, p.2, ← c.self.view_is, ← c.of-source.ensures) (λ start taken. c.in_err-aside.ensures.held start taken)

pub returns-clause-found : goal.returns-clause-found
returns-clause-found g c = rw (← c.self.view_is, ← c.of-source.ensures) (λ start taken.
    let come = c.in_ok-aside.ensures.exact start taken in (
      come.0,
      reading_found _ _ _ _ come.0 (templates_have c.self.inside.templates) come.1,
      record { number = refl; templates = come.2.templates; records = come.2.records; unplaced = come.2.unplaced; skipped = come.2.skipped; few = omega (arith, come.2.count, c.in_ok-aside.ensures.few) },
    ))

pub returns-clause-exact : goal.returns-clause-exact
returns-clause-exact g c = rw (← c.self.view_is, ← c.of-source.ensures) (λ start taken.
    let come = c.in_ok-aside.ensures.exact start taken in (
      come.0,
      come.1,
      record { number = refl; templates = come.2.templates; records = come.2.records; unplaced = come.2.unplaced; skipped = come.2.skipped; few = omega (arith, come.2.count, c.in_ok-aside.ensures.few) },
    ))

pub returns-in_err-aside-clause-found : goal.returns-in_err-aside-clause-found
returns-in_err-aside-clause-found g c = grind (arith, common_steps)

pub returns-in_err-aside-clause-exact : goal.returns-in_err-aside-clause-exact
returns-in_err-aside-clause-exact g c =
    let p = err_from_is_err_and c.from_residual.result c.from_residual.ensures.1 in
    rw (p.1, p.2, ← c.self.view_is, ← c.of-source.ensures) (λ start taken other. c.in_err-aside.ensures.exact start taken other)

pub returns-in_err-aside-clause-skipped : goal.returns-in_err-aside-clause-skipped
returns-in_err-aside-clause-skipped g c = grind (arith, common_steps)

pub returns-in_err-aside-clause-wanted : goal.returns-in_err-aside-clause-wanted
returns-in_err-aside-clause-wanted g c =
    let p = err_from_is_err_and c.from_residual.result c.from_residual.ensures.1 in
    rw (p.1, p.2, ← c.self.view_is, ← c.of-source.ensures) (λ memory start taken.
    let same : c.in_err-aside.field-0.0 ≡ Memory = cc in
    c.in_err-aside.ensures.wanted (ap (λ f. Err f) same) start taken)

pub returns-in_err-aside-clause-memory : goal.returns-in_err-aside-clause-memory
returns-in_err-aside-clause-memory g c = grind (arith, common_steps)

pub returns-clause-first : goal.returns-clause-first
returns-clause-first g c = grind (arith, common_steps)

pub returns-clause-skipped : goal.returns-clause-skipped
returns-clause-skipped g c = grind (arith, common_steps)

pub returns-clause-wanted : goal.returns-clause-wanted
returns-clause-wanted g c = grind (arith, common_steps)

pub returns-clause-memory : goal.returns-clause-memory
returns-clause-memory g c = grind (arith, common_steps)

pub returns-clause-held : goal.returns-clause-held
returns-clause-held g c = grind (arith, common_steps)
