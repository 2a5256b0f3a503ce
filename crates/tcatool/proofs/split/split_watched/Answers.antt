use Rattle.std.proofs.Common.{◌≡◌, Err, rules}
use Rattle.tca_program.specs.Devices.{device}
use Rattle.tcatool.proofs.SplitEnds.{files_refused, parts_printed, unread}
use Rattle.tcatool.proofs.split.split_watched.Goals as goal

pub returns-in_err-first-clause-refused : goal.returns-in_err-first-clause-refused
returns-in_err-first-clause-refused g c =
    let e = c.in_err-first.field-0.0 in
    let is : c.from_residual.result ≡ Err e = search rules in
    rw is (unread (device g.W.Write.written g.W.Write.failures c.args.out.now) e c.in_err-first.ensures.refused)

pub returns-in_err-second-clause-refused : goal.returns-in_err-second-clause-refused
returns-in_err-second-clause-refused g c =
    let e = c.in_err-second.field-0.0 in
    let is : c.from_residual-in_err-second.result ≡ Err e = search rules in
    rw is (unread (device g.W.Write.written g.W.Write.failures c.args.out.now) e c.in_err-second.ensures.refused)

pub returns-clause-done : goal.returns-clause-done
returns-clause-done g c = parts_printed _ _ _ _ _ c.run_split.result c.run_split.ensures.done

pub returns-clause-refused : goal.returns-clause-refused
returns-clause-refused g c = files_refused _ _ _ _ _ c.run_split.result c.run_split.ensures.refused
