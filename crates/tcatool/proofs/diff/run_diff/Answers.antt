use Rattle.std.proofs.Common.{◌≡◌, List, Err, rules, subst}
use Rattle.tca_report.specs.input.Inputs.{input_view}
use Rattle.tca_program.specs.Devices.{IsCutOff, Receives, device}
use Rattle.tcatool.specs.Csv.{csv_text}
use Rattle.tcatool.specs.Diffed.{diff_header, diff_line}
use Rattle.tcatool.specs.declared.diff.LoneReport.{LoneReport}
use Rattle.tcatool.proofs.DiffEnds.{all_out, cut_short}
use Rattle.tcatool.proofs.diff.run_diff.Goals as goal

pub returns-clause-done : goal.returns-clause-done
returns-clause-done g c =
    let d = device g.W.Write.written g.W.Write.failures in
    let rows = c.in_ok-rows.rows.items in
    all_out (input_view c.args.a.now) (input_view c.args.b.now) (d c.args.out.now) (d c.put_rows.new.out) rows c.in_ok-rows.differences c.in_ok-rows.ensures.told
    (subst (λ (rs : List LoneReport). Receives (csv_text diff_header diff_line rs) (d c.args.out.now) (d c.put_rows.new.out)) c.deref.ensures.value c.in_ok-put_rows.ensures.done)

pub returns-in_err-put_rows-clause-refused : goal.returns-in_err-put_rows-clause-refused
returns-in_err-put_rows-clause-refused g c =
    let d = device g.W.Write.written g.W.Write.failures in
    let rows = c.in_ok-rows.rows.items in
    let e = c.in_err-put_rows.field-0.0 in
    let is : c.from_residual-in_err-put_rows.result ≡ Err e = search rules in
    rw is (cut_short (input_view c.args.a.now) (input_view c.args.b.now) (d c.args.out.now) (d c.put_rows.new.out) rows c.in_ok-rows.differences c.in_ok-rows.ensures.told e c.in_err-put_rows.ensures.fault
    (subst (λ (rs : List LoneReport). IsCutOff (csv_text diff_header diff_line rs) (d c.args.out.now) (d c.put_rows.new.out)) c.deref.ensures.value c.in_err-put_rows.ensures.cut_off))
