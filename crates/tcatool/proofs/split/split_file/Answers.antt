use Rattle.std.proofs.Common.{◌≡◌, Err, rules}
use Rattle.tca_program.specs.Devices.{device}
use Rattle.tcatool.proofs.SplitEnds.{unread}
use Rattle.tcatool.proofs.split.split_file.Goals as goal

pub returns-in_err-all-clause-refused : goal.returns-in_err-all-clause-refused
returns-in_err-all-clause-refused g c =
    let e = c.in_err-all.field-0.0 in
    let is : c.from_residual.result ≡ Err e = search rules in
    rw is (unread (device g.W.Write.written g.W.Write.failures c.args.out.now) e c.in_err-all.ensures.refused)
