use Rattle.std.proofs.Common.{◌++◌, ◌∷◌, [], List, ◌∙◌, ap, sym, arith, append_assoc, length-append}
use Rattle.tca_report.specs.report.Reports.{PacketReport}
use Rattle.tca_report.specs.input.Inputs.{reports_of, reasons_of, counts_of}
use Rattle.tca_report.specs.declared.input.extraction.NotReport.{NotReport}
use Rattle.tca_report.proofs.lemmas.input.ReaderAgrees.{reasons_few}
use Rattle.tca_report.proofs.lemmas.input.TakenRecords.{with_report, no_reason, no_report, with_reason}
use Rattle.tca_report.proofs.input.capture.take_unusual.Goals as goal

pub returns-in_ok-push-in-Ok-clause-ok : goal.returns-in_ok-push-in-Ok-clause-ok
returns-in_ok-push-in-Ok-clause-ok c = λ start records taken.
    let r = c.args.next.now in
    let q = c.in-Ok.report in (
      c.in_ok-push-in-Ok.ensures.items ∙ ap (λ (l : List PacketReport). l ++ q ∷ []) taken.0 ∙ append_assoc start.reports.items (reports_of records) (q ∷ [])
          ∙ ap (λ (l : List PacketReport). start.reports.items ++ l) (sym (with_report r q records c.in-Ok.ensures)),
      λ reasons e less.
          taken.1 reasons e (omega (arith, less, length-append records (r ∷ [])))
          ∙ ap (λ (l : List NotReport). counts_of (reasons ++ l)) (sym (no_reason r q records c.in-Ok.ensures)),
    )

pub returns-in-Err-clause-ok : goal.returns-in-Err-clause-ok
returns-in-Err-clause-ok c = λ start records taken.
    let r = c.args.next.now in
    let reason = c.in-Err.reason in (
      taken.0 ∙ ap (λ (l : List PacketReport). start.reports.items ++ l) (sym (no_report r reason records c.in-Err.ensures)),
      λ reasons e less.
          let now = taken.1 reasons e (omega (arith, less, length-append records (r ∷ []))) in
          c.count_reason.ensures (reasons ++ reasons_of records) now (omega (arith, less, reasons_few records, length-append records (r ∷ []), length-append reasons (reasons_of records)))
          ∙ ap counts_of (append_assoc reasons (reasons_of records) (reason ∷ []) ∙ ap (λ (l : List NotReport). reasons ++ l) (sym (with_reason r reason records c.in-Err.ensures))),
    )
