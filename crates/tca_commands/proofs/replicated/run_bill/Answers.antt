use Rattle.std.proofs.lemmas.Result.{IfErr-weaker}
use Rattle.tca_program.specs.Unions.{views_of}
use Rattle.tca_commands.specs.Billed.{IsBillCutOff}
use Rattle.tca_commands.specs.Replicated.{IsReplicatedUnmade}
use Rattle.tca_commands.proofs.BillEnds.{bill_cut_off, bill_done, bill_refused}
use Rattle.tca_commands.proofs.ReplicatedLaws.{no_write}
use Rattle.tca_commands.proofs.replicated.run_bill.Goals as goal

pub put_exported-requires-clause-no_write : goal.put_exported-requires-clause-no_write
put_exported-requires-clause-no_write g c = IfErr-weaker c.bill_replicas-made.result _ _ (no_write c.args.plan.now (views_of c.args.inputs.now)) c.bill_replicas-made.ensures.unmade

pub put_alone-requires : goal.put_alone-requires
put_alone-requires g c = IfErr-weaker c.bill_replicas-made.result _ _ (no_write c.args.plan.now (views_of c.args.inputs.now)) c.bill_replicas-made.ensures.unmade

pub returns-in-Some-clause-done : goal.returns-in-Some-clause-done
returns-in-Some-clause-done g c =
    let plan = c.args.plan.now in
    let inputs = views_of c.args.inputs.now in
    let made = c.bill_replicas-made.result in
    let stated = c.bill_replicas-made.ensures.stated in
    let union = c.bill_replicas-made.ensures.union in
    rw c.in-Some.is (bill_done plan inputs made stated union c.bill_replicas-made.ensures.noted _ _ _ _ c.put_exported.result c.put_exported.ensures.done)

pub returns-in-Some-clause-refused : goal.returns-in-Some-clause-refused
returns-in-Some-clause-refused g c =
    let plan = c.args.plan.now in
    let inputs = views_of c.args.inputs.now in
    let made = c.bill_replicas-made.result in
    let stated = c.bill_replicas-made.ensures.stated in
    let union = c.bill_replicas-made.ensures.union in
    rw c.in-Some.is (bill_refused made (IsReplicatedUnmade plan inputs) (IsBillCutOff plan inputs) c.bill_replicas-made.ensures.unmade (bill_cut_off plan inputs made stated union) _ _ c.put_exported.result c.put_exported.ensures.refused)

pub returns-in-None-clause-done : goal.returns-in-None-clause-done
returns-in-None-clause-done g c =
    let plan = c.args.plan.now in
    let inputs = views_of c.args.inputs.now in
    let made = c.bill_replicas-made.result in
    let stated = c.bill_replicas-made.ensures.stated in
    let union = c.bill_replicas-made.ensures.union in
    rw c.in-None.is (bill_done plan inputs made stated union c.bill_replicas-made.ensures.noted _ _ _ _ c.put_alone.result c.put_alone.ensures.done)

pub returns-in-None-clause-refused : goal.returns-in-None-clause-refused
returns-in-None-clause-refused g c =
    let plan = c.args.plan.now in
    let inputs = views_of c.args.inputs.now in
    let made = c.bill_replicas-made.result in
    let stated = c.bill_replicas-made.ensures.stated in
    let union = c.bill_replicas-made.ensures.union in
    rw c.in-None.is (bill_refused made (IsReplicatedUnmade plan inputs) (IsBillCutOff plan inputs) c.bill_replicas-made.ensures.unmade (bill_cut_off plan inputs made stated union) _ _ c.put_alone.result c.put_alone.ensures.refused)
