use Rattle.tca_program.specs.Planned.{IsPlannedRefused}
use Rattle.tca_program.specs.Unions.{views_of}
use Rattle.tca_commands.specs.Billed.{IsPlainCutOff}
use Rattle.tca_commands.proofs.BillEnds.{bill_done, bill_refused, noted_in, plain_cut_off, taken_in, union_in, unwritten_in}
use Rattle.tca_commands.proofs.bill.run_bill_plain.Goals as goal

pub put_exported-requires-clause-no_write : goal.put_exported-requires-clause-no_write
put_exported-requires-clause-no_write g c = unwritten_in (views_of c.args.inputs.now) c.args.plan.now c.bill_union-made.result c.bill_union-made.ensures.unmade

pub put_alone-requires : goal.put_alone-requires
put_alone-requires g c = unwritten_in (views_of c.args.inputs.now) c.args.plan.now c.bill_union-made.result c.bill_union-made.ensures.unmade

pub returns-in-Some-clause-done : goal.returns-in-Some-clause-done
returns-in-Some-clause-done g c =
    let plan = c.args.plan.now in
    let inputs = views_of c.args.inputs.now in
    let made = c.bill_union-made.result in
    let stated = c.bill_union-made.ensures.stated in
    let united = c.bill_union-made.ensures.united in
    let union = union_in inputs made united in
    rw c.in-Some.is (bill_done plan inputs made stated union (noted_in inputs made united) _ _ _ _ c.put_exported.result c.put_exported.ensures.done)

pub returns-in-Some-clause-refused : goal.returns-in-Some-clause-refused
returns-in-Some-clause-refused g c =
    let plan = c.args.plan.now in
    let inputs = views_of c.args.inputs.now in
    let made = c.bill_union-made.result in
    let stated = c.bill_union-made.ensures.stated in
    let united = c.bill_union-made.ensures.united in
    let union = union_in inputs made united in
    rw c.in-Some.is (bill_refused made (IsPlannedRefused plan inputs) (IsPlainCutOff plan inputs) c.bill_union-made.ensures.unmade (plain_cut_off plan inputs made stated union (taken_in inputs made united)) _ _ c.put_exported.result c.put_exported.ensures.refused)

pub returns-in-None-clause-done : goal.returns-in-None-clause-done
returns-in-None-clause-done g c =
    let plan = c.args.plan.now in
    let inputs = views_of c.args.inputs.now in
    let made = c.bill_union-made.result in
    let stated = c.bill_union-made.ensures.stated in
    let united = c.bill_union-made.ensures.united in
    let union = union_in inputs made united in
    rw c.in-None.is (bill_done plan inputs made stated union (noted_in inputs made united) _ _ _ _ c.put_alone.result c.put_alone.ensures.done)

pub returns-in-None-clause-refused : goal.returns-in-None-clause-refused
returns-in-None-clause-refused g c =
    let plan = c.args.plan.now in
    let inputs = views_of c.args.inputs.now in
    let made = c.bill_union-made.result in
    let stated = c.bill_union-made.ensures.stated in
    let united = c.bill_union-made.ensures.united in
    let union = union_in inputs made united in
    rw c.in-None.is (bill_refused made (IsPlannedRefused plan inputs) (IsPlainCutOff plan inputs) c.bill_union-made.ensures.unmade (plain_cut_off plan inputs made stated union (taken_in inputs made united)) _ _ c.put_alone.result c.put_alone.ensures.refused)
