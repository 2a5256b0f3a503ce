use Rattle.std.proofs.Common.{◌≡◌, ◌∙◌, ◌≤◌, ◌-◌, ◌+◌, ◌%◌, ap, arith, length, slice_index_or, slice_set, ℕ}
use Rattle.tca_report.specs.Faults.{reason_number}
use Rattle.tca_report.specs.input.Inputs.{counts_of}
use Rattle.tca_report.proofs.lemmas.input.ReasonCounts.{counts_push, counts_few}
use Rattle.tca_report.proofs.input.capture.count_reason.Goals as goal

pub returns : goal.returns
returns c = λ reasons e.
    let here : c.from-index.result - 1 ≡ reason_number c.args.reason - 1 = ap (λ (n : ℕ). n - 1) (c.from-index.ensures ∙ c.number.ensures) in
    rw (e, here) (λ less.
    let n = slice_index_or (counts_of reasons) (reason_number c.args.reason - 1) 0 in
    let few : n ≤ length reasons = counts_few reasons c.args.reason in
    let same : (n + 1) % 18446744073709551616 ≡ n + 1 = omega (arith, few, less) in
    ap (λ (m : ℕ). slice_set (counts_of reasons) (reason_number c.args.reason - 1) m) same ∙ counts_push reasons c.args.reason)
