use Rattle.std.proofs.Common.{◌≡◌, ◌∷◌, rules}
use Rattle.tca_figures.specs.Lines.{statement_octets}
use Rattle.tca_program.specs.Devices.{device}
use Rattle.tcatool.specs.Added.{texts_of}
use Rattle.tcatool.proofs.AddEnds.{adds, adds_in_part}
use Rattle.tcatool.proofs.add.run_add.Goals as goal

pub returns-clause-done : goal.returns-clause-done
returns-clause-done g c =
    let d = device g.W.Write.written g.W.Write.failures in
    let is : c.deref.result.now ≡ statement_octets c.in_ok-sum.sum = search rules in
    adds (c.args.first.now ∷ texts_of c.args.others.now) c.in_ok-sum.sum c.deref.result.now (d c.args.out.now) (d c.put_text.new.out) c.in_ok-sum.ensures.sum is c.put_text.result c.put_text.ensures.done

pub returns-clause-refused : goal.returns-clause-refused
returns-clause-refused g c =
    let d = device g.W.Write.written g.W.Write.failures in
    let is : c.deref.result.now ≡ statement_octets c.in_ok-sum.sum = search rules in
    adds_in_part (c.args.first.now ∷ texts_of c.args.others.now) c.in_ok-sum.sum c.deref.result.now (d c.args.out.now) (d c.put_text.new.out) c.in_ok-sum.ensures.sum is c.put_text.result c.put_text.ensures.cut_off
