use Rattle.std.proofs.Common.{◌≡◌, ◌++◌, ◌∷◌, [], List, Ok, ◌∙◌, ap, sym, arith, append_assoc, length-append}
use Rattle.tca_report.specs.report.Reports.{PacketReport}
use Rattle.tca_report.specs.input.Extract.{extract_of}
use Rattle.tca_report.specs.input.Inputs.{reports_of, counts_of}
use Rattle.tca_report.specs.declared.input.extraction.NotReport.{NotReport}
use Rattle.tca_report.proofs.lemmas.input.TakenRecords.{with_report, no_reason}
use Rattle.tca_report.proofs.input.capture.ExtractedTakesRecords.take.Goals as goal

pub returns-in-Some-clause-ok : goal.returns-in-Some-clause-ok
returns-in-Some-clause-ok c = λ start records taken.
    let r = c.args.next.now in
    let q = c.in-Some.report in
    let is : Ok q ≡ extract_of r = sym c.in-Some.ensures in (
      c.in_ok-push.ensures.items ∙ ap (λ (l : List PacketReport). l ++ q ∷ []) taken.0 ∙ append_assoc start.reports.items (reports_of records) (q ∷ [])
          ∙ ap (λ (l : List PacketReport). start.reports.items ++ l) (sym (with_report r q records is)),
      λ reasons e less.
          taken.1 reasons e (omega (arith, less, length-append records (r ∷ [])))
          ∙ ap (λ (l : List NotReport). counts_of (reasons ++ l)) (sym (no_reason r q records is)),
    )
