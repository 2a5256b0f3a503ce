use Rattle.std.proofs.Common.{◌≡◌, Ok, Err, Some, List, inl, inr, refl, rules, subst}
use Rattle.std.proofs.lemmas.Result.{err_from_is_err_and}
use Rattle.tca_report.specs.report.Reports.{PacketReport}
use Rattle.tca_report.specs.export.Spelling.{export}
use Rattle.tca_program.specs.Devices.{IsCutOff, Receives, device}
use Rattle.tca_program.specs.Outcomes.{outlets}
use Rattle.tca_program.specs.Unions.{write_refusal}
use Rattle.tca_program.proofs.Refusing.{cut_off}
use Rattle.tca_commands.specs.inside.Outputs.{IsPutInPart}
use Rattle.tca_commands.proofs.bill.put_exported.Goals as goal

pub returns-in_err-write_export-clause-refused : goal.returns-in_err-write_export-clause-refused
returns-in_err-write_export-clause-refused g c =
    let d = device g.W.Write.written g.W.Write.failures in
    let v = device g.V.Write.written g.V.Write.failures in
    let made = c.args.made in
    let m = c.in_ok-statement.field-0 in
    let is : made ≡ Ok m = search rules in
    let given : IsCutOff (export c.deref.result.now) (v c.args.export.now) (v c.write_export.new.out) = record { count = c.in_err-write_export.field-0.0.written; short = c.in_err-write_export.ensures.part; written = c.in_err-write_export.ensures.went; failed = c.in_err-write_export.ensures.count } in
    let part : IsCutOff (export m.reports.items) (v c.args.export.now) (v c.write_export.new.out) = subst (λ (rs : List PacketReport). IsCutOff (export rs) (v c.args.export.now) (v c.write_export.new.out)) c.deref.ensures.value given in
    let p = err_from_is_err_and c.from_residual-in_err-write_export.result c.from_residual-in_err-write_export.ensures.1 in
    rw (p.1, p.2) (cut_off (λ e. made ≡ Err e) (IsPutInPart made) (outlets (Some (v c.args.export.now)) (d c.args.out.now)) (outlets (Some (v c.write_export.new.out)) (d c.args.out.now)) write_refusal refl
    (record { prepared = m; is = is; part = inl (part, refl) }))

pub returns-in_err-render-clause-refused : goal.returns-in_err-render-clause-refused
returns-in_err-render-clause-refused g c =
    let d = device g.W.Write.written g.W.Write.failures in
    let v = device g.V.Write.written g.V.Write.failures in
    let made = c.args.made in
    let m = c.in_ok-statement.field-0 in
    let is : made ≡ Ok m = search rules in
    let given : Receives (export c.deref.result.now) (v c.args.export.now) (v c.write_export.new.out) = record { written = c.in_ok-write_export.ensures.ok; calm = c.in_ok-write_export.ensures.count } in
    let went : Receives (export m.reports.items) (v c.args.export.now) (v c.write_export.new.out) = subst (λ (rs : List PacketReport). Receives (export rs) (v c.args.export.now) (v c.write_export.new.out)) c.deref.ensures.value given in
    let part : IsCutOff m.statement (d c.args.out.now) (d c.render.new.out) = record { count = c.in_err-render.field-0.0.written; short = c.in_err-render.ensures.fault.0; written = c.in_err-render.ensures.fault.1; failed = c.in_err-render.ensures.count } in
    let p = err_from_is_err_and c.from_residual-in_err-render.result c.from_residual-in_err-render.ensures.1 in
    rw (p.1, p.2) (cut_off (λ e. made ≡ Err e) (IsPutInPart made) (outlets (Some (v c.args.export.now)) (d c.args.out.now)) (outlets (Some (v c.write_export.new.out)) (d c.render.new.out)) write_refusal refl
    (record { prepared = m; is = is; part = inr (went, part) }))

pub returns-clause-done : goal.returns-clause-done
returns-clause-done g c =
    let d = device g.W.Write.written g.W.Write.failures in
    let v = device g.V.Write.written g.V.Write.failures in
    let m = c.in_ok-statement.field-0 in
    let is : c.args.made ≡ Ok m = search rules in
    let given : Receives (export c.deref.result.now) (v c.args.export.now) (v c.write_export.new.out) = record { written = c.in_ok-write_export.ensures.ok; calm = c.in_ok-write_export.ensures.count } in
    let went : Receives (export m.reports.items) (v c.args.export.now) (v c.write_export.new.out) = subst (λ (rs : List PacketReport). Receives (export rs) (v c.args.export.now) (v c.write_export.new.out)) c.deref.ensures.value given in
    let out : Receives m.statement (d c.args.out.now) (d c.render.new.out) = record { written = c.in_ok-render.ensures.ok; calm = c.in_ok-render.ensures.count } in
    record { prepared = m; is = is; written = record { exported = went; written = out }; noted = refl }
