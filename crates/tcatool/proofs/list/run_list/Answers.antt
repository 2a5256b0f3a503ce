use Rattle.std.proofs.Common.{◌≡◌, List, Err, rules, subst}
use Rattle.tca_program.specs.Devices.{IsCutOff, Receives, device}
use Rattle.tca_program.specs.Unions.{views_of}
use Rattle.tcatool.specs.Listed.{IsListCutOff, IsListingRefused, list_text, text_given}
use Rattle.tcatool.specs.declared.item.Item.{Item}
use Rattle.tca_program.proofs.Refusing.{cut_off}
use Rattle.tcatool.proofs.list.run_list.Goals as goal

pub returns-clause-done : goal.returns-clause-done
returns-clause-done g c =
    let d = device g.W.Write.written g.W.Write.failures in
    record {
      under = c.in_ok-plan.plan;
      items = c.in_ok-plan.items.items;
      listed = c.in_ok-plan.ensures.listed;
      written = subst (λ (xs : List Item). Receives (list_text c.in_ok-plan.plan xs) (d c.args.out.now) (d c.put_rows.new.out)) c.deref.ensures.value c.in_ok-put_rows.ensures.done;
    }

pub returns-in_err-put_rows-clause-refused : goal.returns-in_err-put_rows-clause-refused
returns-in_err-put_rows-clause-refused g c =
    let d = device g.W.Write.written g.W.Write.failures in
    let items = c.in_ok-plan.items.items in
    let e = c.in_err-put_rows.field-0.0 in
    let is : c.from_residual-in_err-put_rows.result ≡ Err e = search rules in
    let plan = text_given c.args.plan in
    let inputs = views_of c.args.inputs.now in
    rw is (cut_off (IsListingRefused plan inputs) (IsListCutOff plan inputs) (d c.args.out.now) (d c.put_rows.new.out) e c.in_err-put_rows.ensures.fault
    (record {
      under = c.in_ok-plan.plan;
      items = items;
      listed = c.in_ok-plan.ensures.listed;
      part = subst (λ (xs : List Item). IsCutOff (list_text c.in_ok-plan.plan xs) (d c.args.out.now) (d c.put_rows.new.out)) c.deref.ensures.value c.in_err-put_rows.ensures.cut_off;
    }))
