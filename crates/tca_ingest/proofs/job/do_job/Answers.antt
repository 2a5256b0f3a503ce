use Rattle.std.proofs.Common.{◌≡◌, ◌≢◌, ◌∙◌, ℕ, List, Err, rules, sym, subst, ap}
use Rattle.tca_report.specs.input.Inputs.{input_view}
use Rattle.tca_report.specs.input.Wants.{WantsMemory}
use Rattle.tca_report.specs.declared.input.InputFault.TheVariants.{Memory}
use Rattle.tca_ingest.specs.declared.job.JobFault.TheVariants.{Input}
use Rattle.tca_ingest.specs.Works.{IsResult, contents_of}
use Rattle.tca_ingest.proofs.job.do_job.Goals.{in-Err, in-Ok+in-Ok-take_reports, in-Ok+in-Err-take_reports}
use Rattle.tca_ingest.proofs.job.do_job.Goals as goal

pub invariant_of-result : goal.invariant_of-result
invariant_of-result g c = elim c.match-gather.branch [
  | in-Err w ↦
      let from : c.gather.result ≡ Err w.in-Err.fault = search rules in
      let is : c.match-gather.result ≡ Err (Input w.in-Err.fault) = search rules in
      let own : w.in-Err.fault ≢ Memory → contents_of (input_view c.args.input.now) ≡ Err w.in-Err.fault = search rules in
      let wanted : w.in-Err.fault ≡ Memory → WantsMemory (input_view c.args.input.now) =
      λ m. subst (λ (octets : List ℕ). WantsMemory (record { session = c.args.input.now.session; octets = octets })) c.deref.ensures.value (c.gather.ensures.memory_wanted (from ∙ ap Err m)) in
      subst (IsResult (input_view c.args.input.now)) (sym is) (own, wanted)
  | in-Ok+in-Ok-take_reports w ↦ search rules
  | in-Ok+in-Err-take_reports w ↦ search rules
]
