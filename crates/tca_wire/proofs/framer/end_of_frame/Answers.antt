use Rattle.std.proofs.Common.{◌≤◌, ◌-◌, length, sym, arith}
use Rattle.std.proofs.lemmas.Bool.Decides.{nat_tests}
use Rattle.tca_wire.proofs.Lending.{frame_across}
use Rattle.tca_wire.proofs.framer.end_of_frame.Goals as goal

pub returns-clause-frame : goal.returns-clause-frame
returns-clause-frame c =
    let n = c.in_ok-left.field-0 in
    let within : n - length c.args.held.now ≤ length c.args.piece.now = grind (arith, nat_tests, c.if-piece-left.false) in
    frame_across c.args.held.now c.args.piece.now n c.requires (sym c.in_ok-left.ensures.exact) within
