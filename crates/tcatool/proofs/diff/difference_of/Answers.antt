use Rattle.std.proofs.lemmas.Result.{err_from_is_err_and}
use Rattle.tca_report.specs.input.Inputs.{input_view}
use Rattle.tcatool.proofs.DiffEnds.{lacks_memory}
use Rattle.tcatool.proofs.diff.difference_of.Goals as goal

pub returns-in_err-told-clause-refused : goal.returns-in_err-told-clause-refused
returns-in_err-told-clause-refused c =
    let p = err_from_is_err_and c.from_residual-in_err-told.result c.from_residual-in_err-told.ensures.1 in
    rw (p.1, p.2) (lacks_memory (input_view c.args.a.now) (input_view c.args.b.now) (c.in_ok-first.first, c.in_ok-first.second) c.in_ok-first.ensures.compared)
