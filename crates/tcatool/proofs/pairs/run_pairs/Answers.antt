use Rattle.std.proofs.Common.{◌≡◌, List, Err, rules, subst}
use Rattle.tca_program.specs.Devices.{IsCutOff, Receives, device}
use Rattle.tca_program.specs.Unions.{IsUnitingRefused, views_of}
use Rattle.tcatool.specs.Paired.{IsPairsCutOff, pairs_text}
use Rattle.tcatool.specs.declared.pairs.PairUsage.{PairUsage}
use Rattle.tca_program.proofs.Refusing.{cut_off}
use Rattle.tcatool.proofs.pairs.run_pairs.Goals as goal

pub returns-clause-done : goal.returns-clause-done
returns-clause-done g c =
    let d = device g.W.Write.written g.W.Write.failures in
    record {
      usages = c.in_ok-rows.rows.items;
      paired = c.in_ok-rows.ensures.paired;
      written = subst (λ (us : List PairUsage). Receives (pairs_text us) (d c.args.out.now) (d c.put_rows.new.out)) c.deref.ensures.value c.in_ok-put_rows.ensures.done;
    }

pub returns-in_err-put_rows-clause-refused : goal.returns-in_err-put_rows-clause-refused
returns-in_err-put_rows-clause-refused g c =
    let d = device g.W.Write.written g.W.Write.failures in
    let rows = c.in_ok-rows.rows.items in
    let e = c.in_err-put_rows.field-0.0 in
    let is : c.from_residual-in_err-put_rows.result ≡ Err e = search rules in
    let inputs = views_of c.args.inputs.now in
    rw is (cut_off (IsUnitingRefused inputs) (IsPairsCutOff inputs) (d c.args.out.now) (d c.put_rows.new.out) e c.in_err-put_rows.ensures.fault
    (record {
      usages = rows;
      paired = c.in_ok-rows.ensures.paired;
      part = subst (λ (us : List PairUsage). IsCutOff (pairs_text us) (d c.args.out.now) (d c.put_rows.new.out)) c.deref.ensures.value c.in_err-put_rows.ensures.cut_off;
    }))
