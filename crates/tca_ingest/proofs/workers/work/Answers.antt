use Rattle.std.proofs.Common.{◌≡◌, ◌∙◌, map, ap}
use Rattle.std.proofs.lemmas.Result.{IfOk-weaker}
use denote.Bor.{Bor}
use Rattle.tca_report.specs.declared.input.Input.{Input}
use Rattle.tca_ingest.specs.Works.{AreResults, AreLentResults}
use Rattle.tca_ingest.proofs.Collecting.{results_of}
use Rattle.tca_ingest.proofs.workers.work.Goals as goal

pub returns-in-Ok-clause-done : goal.returns-in-Ok-clause-done
returns-in-Ok-clause-done g c =
    let same : map (λ (s : Bor Input). s.now) c.deref.result.now ≡ c.args.inputs.now = ap (map (λ (s : Bor Input). s.now)) c.deref.ensures.value ∙ c.in-Ok.ensures in
    IfOk-weaker c.work_on.result (λ w. AreLentResults c.deref.result.now w.done.items) (λ w. AreResults c.args.inputs.now w.done.items)
    (λ w fits. results_of c.deref.result.now c.args.inputs.now w.done.items same fits) c.work_on.ensures.done
