use Rattle.std.proofs.Common.{◌≡◌, Ok, Err, None, inr, refl, rules}
use Rattle.std.proofs.lemmas.Result.{err_from_is_err_and}
use Rattle.tca_program.specs.Devices.{IsCutOff, device}
use Rattle.tca_program.specs.Outcomes.{outlets}
use Rattle.tca_program.specs.Unions.{write_refusal}
use Rattle.tca_program.proofs.Refusing.{cut_off}
use Rattle.tca_commands.specs.inside.Outputs.{IsPutInPart}
use Rattle.tca_commands.proofs.bill.put_alone.Goals as goal

pub returns-in_err-render-clause-refused : goal.returns-in_err-render-clause-refused
returns-in_err-render-clause-refused g c =
    let d = device g.W.Write.written g.W.Write.failures in
    let made = c.args.made in
    let m = c.in_ok-statement.field-0 in
    let is : made ≡ Ok m = search rules in
    let part : IsCutOff m.statement (d c.args.out.now) (d c.render.new.out) = record { count = c.in_err-render.field-0.0.written; short = c.in_err-render.ensures.fault.0; written = c.in_err-render.ensures.fault.1; failed = c.in_err-render.ensures.count } in
    let p = err_from_is_err_and c.from_residual-in_err-render.result c.from_residual-in_err-render.ensures.1 in
    rw (p.1, p.2) (cut_off (λ e. made ≡ Err e) (IsPutInPart made) (outlets None (d c.args.out.now)) (outlets None (d c.render.new.out)) write_refusal refl
    (record { prepared = m; is = is; part = inr (tt, part) }))
