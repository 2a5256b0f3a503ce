use Rattle.std.proofs.Common.{◌≡◌, IsOk, Ok, true, [], List, subst}
use Rattle.std.proofs.lemmas.Result.{err_from_is_err_and}
use Rattle.tca_report.specs.input.Inputs.{input_view, read_input}
use Rattle.tca_report.specs.report.Reports.{PacketReport}
use Rattle.tca_program.specs.Unions.{IsRefusedAs, is_log_memory, with_input}
use Rattle.tcatool.proofs.DiffEnds.{second_refused}
use Rattle.tcatool.proofs.diff.sides.Goals as goal

pub returns-in_err-_notes-2-clause-refused : goal.returns-in_err-_notes-2-clause-refused
returns-in_err-_notes-2-clause-refused c =
    let e = c.in_err-_notes-2.field-0.0 in
    let p = err_from_is_err_and c.from_residual-in_err-_notes-2.result c.from_residual-in_err-_notes-2.ensures.1 in
    let refused = c.in_err-_notes-2.ensures in
    let a = input_view c.args.a.now in
    let b = input_view c.args.b.now in
    let taken : with_input 0 [] (read_input a) ≡ Ok c.add_input.new.log = subst (λ (l : List PacketReport). with_input 0 l (read_input a) ≡ Ok c.add_input.new.log) c.new-first.ensures c.in_ok-_notes.ensures.exact in
    let due : IsRefusedAs e (with_input 1 [] (read_input b)) = subst (λ (l : List PacketReport). IsRefusedAs e (with_input 1 l (read_input b))) c.new-second.ensures refused.exact in
    let log_memory : is_log_memory e ≡ true → IsOk (with_input 1 [] (read_input b)) = subst (λ (l : List PacketReport). is_log_memory e ≡ true → IsOk (with_input 1 l (read_input b))) c.new-second.ensures refused.log_memory in
    rw (p.1, p.2) (second_refused a b c.add_input.new.log e taken due refused.named refused.no_write log_memory refused.memory_last)
