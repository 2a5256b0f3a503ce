use Rattle.tca_program.specs.Devices.{device}
use Rattle.tcatool.specs.Told.{IsAnyText}
use Rattle.tcatool.proofs.Telling.{tells, tells_in_part}
use Rattle.tcatool.proofs.page.run_page.Goals as goal

pub returns-clause-done : goal.returns-clause-done
returns-clause-done g c =
    let d = device g.W.Write.written g.W.Write.failures in
    tells IsAnyText c.args.statement.now c.in_ok-figures.figures c.deref.result.now (d c.args.out.now) (d c.put_text.new.out) c.in_ok-figures.ensures.read tt c.put_text.result c.put_text.ensures.done

pub returns-clause-refused : goal.returns-clause-refused
returns-clause-refused g c =
    let d = device g.W.Write.written g.W.Write.failures in
    tells_in_part IsAnyText c.args.statement.now c.in_ok-figures.figures c.deref.result.now (d c.args.out.now) (d c.put_text.new.out) c.in_ok-figures.ensures.read tt c.put_text.result c.put_text.ensures.cut_off
