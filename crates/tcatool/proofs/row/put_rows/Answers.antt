use Rattle.std.proofs.Common.{◌≡◌, ◌++◌, Err, drop, subst, rules}
use Rattle.std.specs.List.{flat_map}
use Rattle.std.proofs.lemmas.Result.{IfErr-weaker}
use Rattle.tca_program.specs.Devices.{IsCutOff, device}
use Rattle.tcatool.proofs.Pieces.{cut_behind, more_sent, one_row, whole_is}
use Rattle.tcatool.proofs.row.put_rows.Goals as goal

pub loop-row-preserved : goal.loop-row-preserved
loop-row-preserved g c =
    let l = c.loop-row in
    let so_far = l.invariant in
    let piece = c.in_ok-make_room.ensures.sent in
    let d = device g.W.Write.written g.W.Write.failures in (
      so_far.0 ++ piece.0,
      one_row c.args.header.now (g.T.Row.line c.args.common.now) c.args.rows.now l.row-index so_far.0 l.buffer.items so_far.1 c.row-item.result c.loop-row-test.true c.row-item.is piece.0 c.make_room.new.buffer.items c.append_to.new.buffer.items piece.1 c.append_to.ensures,
      more_sent so_far.0 piece.0 (d c.args.out.now) (d l.out) (d c.make_room.new.out) so_far.2 piece.2,
    )

pub returns-in_err-make_room-clause-cut_off : goal.returns-in_err-make_room-clause-cut_off
returns-in_err-make_room-clause-cut_off g c =
    let l = c.loop-row in
    let so_far = l.invariant in
    let line = g.T.Row.line c.args.common.now in
    let d = device g.W.Write.written g.W.Write.failures in
    let is : c.from_residual.result ≡ Err c.in_err-make_room.field-0.0 = search rules in
    rw is (cut_behind (c.args.header.now ++ flat_map line c.args.rows.now) so_far.0 l.buffer.items (flat_map line (drop l.row-index c.args.rows.now)) (d c.args.out.now) (d l.out) (d c.make_room.new.out)
    (whole_is c.args.header.now line c.args.rows.now l.row-index so_far.0 l.buffer.items so_far.1) so_far.2 c.in_err-make_room.ensures.cut_off)

pub returns-clause-cut_off : goal.returns-clause-cut_off
returns-clause-cut_off g c =
    let l = c.loop-row in
    let so_far = l.invariant in
    let line = g.T.Row.line c.args.common.now in
    let d = device g.W.Write.written g.W.Write.failures in
    IfErr-weaker c.put_piece.result (λ _. IsCutOff c.as_slice.result.now (d l.out) (d c.put_piece.new.out)) (λ _. IsCutOff (c.args.header.now ++ flat_map line c.args.rows.now) (d c.args.out.now) (d c.put_piece.new.out))
    (λ e cut. cut_behind (c.args.header.now ++ flat_map line c.args.rows.now) so_far.0 l.buffer.items (flat_map line (drop l.row-index c.args.rows.now)) (d c.args.out.now) (d l.out) (d c.put_piece.new.out)
    (whole_is c.args.header.now line c.args.rows.now l.row-index so_far.0 l.buffer.items so_far.1) so_far.2
    (subst (λ octets. IsCutOff octets (d l.out) (d c.put_piece.new.out)) c.as_slice.ensures.value cut))
    c.put_piece.ensures.cut_off
