use Rattle.std.proofs.lemmas.Grind.{common_steps}
use Rattle.std.proofs.Common.{◌≡◌, ◌<◌, ◌++◌, ◌∙◌, ap, ap₂, sym, subst, true, false, arith, append_assoc, length, length-append, take, drop, List, ℕ}
use Rattle.std.specs.Prelude.{Ok, Err, ◌==◌}
use Rattle.tca_report.specs.report.Reports.{PacketReport}
use Rattle.tca_report.specs.declared.input.Notes.{Notes}
use Rattle.std.proofs.lemmas.Bool.Decides.{nat_tests}
use Rattle.std.proofs.lemmas.List.{take-append-drop, append-nil, nil_from_length}
use Rattle.std.proofs.lemmas.Result.{err_from_is_err_and}
use Rattle.tca_report.specs.input.Inputs.{capture_of}
use Rattle.tca_report.specs.input.Gathered.{gathered_of}
use Rattle.tca_report.specs.input.Wants.{IsWantedInCapture}
use Rattle.tca_report.specs.inside.CaptureReaders.{Brings}
use Rattle.tca_report.specs.declared.input.InputFault.{InputFault}
use Rattle.tca_report.specs.declared.input.InputFault.TheVariants as faults
use Rattle.tca_report.proofs.lemmas.input.CapturePieces.{all_gathered, cut_at, no_memory_at_end}
use Rattle.tca_report.proofs.lemmas.input.InPlace.{stands}
use Rattle.tca_report.proofs.input.capture.read_capture.Goals as goal

-- a piece goes from the rest to what was read
cut : (octets done rest piece behind : List ℕ) (n : ℕ) → octets ≡ done ++ rest → piece ≡ take n rest → behind ≡ drop n rest → octets ≡ (done ++ piece) ++ behind
cut octets done rest piece behind n whole front back =
    whole
    ∙ ap (λ z. done ++ z) (sym (take-append-drop n rest) ∙ ap₂ (λ a b. a ++ b) (sym front) (sym back))
    ∙ sym (append_assoc done piece behind)

-- something is left
some_left : (octets done rest : List ℕ) → octets ≡ done ++ rest → (length rest == 0) ≡ false → 0 < length octets
some_left octets done rest whole some =
    let more : 0 < length rest = grind (arith, nat_tests, some) in
    omega (arith, more, ap length whole, length-append done rest)

pub returns-in_err-reader : goal.returns-in_err-reader
returns-in_err-reader c =
    let s = c.loop-rest.invariant.so_far in
    let piece = c.split_at.result.0.now in
    let behind = c.split_at.result.1.now in
    let whole = cut c.args.octets.now s.0 c.loop-rest.rest.now piece behind c.min.result s.2 c.split_at.ensures.front c.split_at.ensures.back in
    let p = err_from_is_err_and c.from_residual.result c.from_residual.ensures.1 in
    let brings : Brings c.args.session s.0 piece c.loop-rest.reader c.in-Ok.lent c.lend.new.self = record {
      framer = c.loop-rest.framer;
      read = s.1;
      feeds = c.in-Ok.ensures.stream;
      fault = c.in-Ok.ensures.fault;
    } in
    record {
      exact = rw (p.1, p.2) (λ ne. ap (λ z. gathered_of (capture_of c.args.session z)) whole ∙ ap gathered_of (c.in_err-reader.ensures.err c.args.session s.0 piece behind c.lend.new.self brings ne));
      memory = λ _. some_left c.args.octets.now s.0 c.loop-rest.rest.now s.2 (sym c.is_empty.ensures ∙ c.loop-rest-test.true);
      wanted = rw (p.1, p.2) (λ e.
          let is : c.in_err-reader.field-0.0 ≡ faults.Memory = cc in
          subst (λ z. IsWantedInCapture c.args.session z) (sym whole) (c.in_err-reader.ensures.wanted c.args.session s.0 piece behind c.lend.new.self brings (ap (λ (f : InputFault). Err f) is)));
    }

pub read_in_place-requires : goal.read_in_place-requires
read_in_place-requires c =
    let s = c.loop-rest.invariant.so_far in
    (c.args.session, stands c.args.session c.args.octets.now s.0 c.loop-rest.rest.now c.loop-rest.framer c.loop-rest.reader s.1 s.2)

pub loop-rest-preserved : goal.loop-rest-preserved
loop-rest-preserved c =
    let s = c.loop-rest.invariant.so_far in
    let piece = c.split_at.result.0.now in
    let behind = c.split_at.result.1.now in
    let whole = cut c.args.octets.now s.0 c.loop-rest.rest.now piece behind c.min.result s.2 c.split_at.ensures.front c.split_at.ensures.back in
    let brings : Brings c.args.session s.0 piece c.loop-rest.reader c.in-Ok.lent c.lend.new.self = record {
      framer = c.loop-rest.framer;
      read = s.1;
      feeds = c.in-Ok.ensures.stream;
      fault = c.in-Ok.ensures.fault;
    } in
    record { so_far = (s.0 ++ piece, c.in_ok-reader.ensures.ok c.args.session s.0 piece c.lend.new.self brings, whole) }

-- nothing is left
whole_read : (octets done rest : List ℕ) → octets ≡ done ++ rest → (length rest == 0) ≡ true → octets ≡ done
whole_read octets done rest whole none = whole ∙ ap (λ z. done ++ z) (nil_from_length rest (grind (arith, nat_tests, none))) ∙ append-nil done

pub returns-in-Ok-finish : goal.returns-in-Ok-finish
returns-in-Ok-finish c =
    let s = c.loop-rest.invariant.so_far in
    let whole = whole_read c.args.octets.now s.0 c.loop-rest.rest.now s.2 (sym c.is_empty.ensures ∙ c.loop-rest-test.false) in
    record {
      exact = ap (λ z. gathered_of (capture_of c.args.session z)) whole ∙ all_gathered c.args.session s.0 c.loop-rest.framer c.loop-rest.reader s.1 (sym c.in-Ok-finish.ensures)
          ∙ ap₂ (λ (reports : List PacketReport) (notes : Notes). Ok (reports, notes)) (sym c.gathered.ensures.reports) (sym c.gathered.ensures.notes);
      memory = λ m. absurd cc;
      wanted = λ m. absurd cc;
    }

pub returns-in-Err : goal.returns-in-Err
returns-in-Err c =
    let s = c.loop-rest.invariant.so_far in
    let never = no_memory_at_end c.args.session s.0 c.loop-rest.framer c.loop-rest.reader c.in-Err.fault s.1 (sym c.in-Err.ensures) in
    let whole = whole_read c.args.octets.now s.0 c.loop-rest.rest.now s.2 (sym c.is_empty.ensures ∙ c.loop-rest-test.false) in
    record {
      exact = λ ne.
          ap (λ z. gathered_of (capture_of c.args.session z)) whole
          ∙ ap gathered_of (cut_at c.args.session s.0 c.loop-rest.framer c.loop-rest.reader c.in-Err.fault s.1 (sym c.in-Err.ensures))
          ∙ ap (λ (e : InputFault). gathered_of (Err e)) (sym (c.wire_fault.ensures.fault ne).1);
      memory = λ m. absurd (never (c.wire_fault.ensures.memory cc));
      wanted = λ m. absurd (never (c.wire_fault.ensures.memory cc));
    }

pub returns-in_default-clause-wanted : goal.returns-in_default-clause-wanted
returns-in_default-clause-wanted c =
    let s = c.loop-rest.invariant.so_far in
    c.read_in_place.ensures.wanted c.args.session (stands c.args.session c.args.octets.now s.0 c.loop-rest.rest.now c.loop-rest.framer c.loop-rest.reader s.1 s.2)

pub returns-in_default-clause-exact : goal.returns-in_default-clause-exact
returns-in_default-clause-exact c =
    let s = c.loop-rest.invariant.so_far in
    c.read_in_place.ensures.exact c.args.session (stands c.args.session c.args.octets.now s.0 c.loop-rest.rest.now c.loop-rest.framer c.loop-rest.reader s.1 s.2)

pub returns-in_default-clause-memory : goal.returns-in_default-clause-memory
returns-in_default-clause-memory c = grind (arith, common_steps)
