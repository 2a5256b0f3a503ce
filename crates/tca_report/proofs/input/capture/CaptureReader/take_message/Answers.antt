use Rattle.std.proofs.lemmas.Grind.{common_steps}
use Rattle.std.proofs.Common.{◌≡◌, ◌+◌, ◌^◌, ◌<◌, ◌++◌, [], List, ℕ, ◌∙◌, arith, ap, sym, subst, take, length, refl}
use Rattle.std.specs.Prelude.{Result, Ok, Err}
use Rattle.std.specs.Int.{from_bool}
use Rattle.std.proofs.lemmas.List.{append-nil}
use Rattle.tca_wire.specs.declared.message.Header.{Header}
use Rattle.tca_wire.specs.declared.message.SetSpan.{SetSpan}
use Rattle.tca_wire.specs.declared.fault.WireFault.{WireFault}
use Rattle.tca_wire.specs.declared.fault.WireFault.TheVariants as wire
use Rattle.tca_templates.specs.Templates.{Templates}
use Rattle.tca_templates.specs.Records.{source_of}
use Rattle.tca_templates.specs.Wants.{WantsMemory}
use Rattle.tca_templates.specs.declared.fault.DecodeFault.{DecodeFault}
use Rattle.tca_templates.specs.declared.fault.DecodeFault.TheVariants as decode
use Rattle.tca_report.specs.input.Wants.{ARecord}
use Rattle.tca_report.specs.input.Inputs.{with_message, with_split, counts_of, one_if}
use Rattle.tca_report.specs.declared.input.InputFault.{InputFault}
use Rattle.tca_report.specs.declared.input.extraction.NotReport.{NotReport}
use Rattle.tca_report.specs.declared.input.capture.Extracted.{Extracted}
use Rattle.tca_report.specs.declared.input.capture.CaptureReader.{CaptureReader}
use Rattle.tca_report.proofs.lemmas.input.ReaderAgrees.{with_is, agrees_more, one_some}
use Rattle.tca_report.proofs.lemmas.input.CaptureWants.{wanted_for_sets}
use Rattle.tca_report.proofs.lemmas.input.InPlace.{front_frame}
use Rattle.tca_report.proofs.input.capture.CaptureReader.take_message.Goals as goal

-- nothing was taken yet
taken_none : (taken : Extracted) → (taken.reports.items ≡ taken.reports.items ++ [])
    × ((reasons : List NotReport) → taken.not_reports ≡ counts_of reasons → length reasons + 0 < 2 ^ 64 → taken.not_reports ≡ counts_of (reasons ++ []))
taken_none taken = (sym (append-nil taken.reports.items), λ reasons e less. e ∙ ap counts_of (sym (append-nil reasons)))

pub returns-in-Err-clause-wanted : goal.returns-in-Err-clause-wanted
returns-in-Err-clause-wanted c = λ e so_far k.
    let is : c.in-Err.fault ≡ wire.Memory = c.wire_fault.ensures.memory cc in
    wanted_for_sets so_far c.args.octets.now (λ f wrong. let same = c.in-Err.ensures.refused f wrong in cc) (c.in-Err.ensures.memory (ap (λ (f : WireFault). Err f) is))

pub returns-in-Err-hand_records-clause-wanted : goal.returns-in-Err-hand_records-clause-wanted
returns-in-Err-hand_records-clause-wanted c = λ e so_far k.
    let old = c.args.self in
    let octets = c.args.octets.now in
    let m = c.in-Ok.message in
    let is : c.in-Err-hand_records.fault ≡ decode.Memory = c.decode_fault.ensures.memory cc in
    let wanted = c.in-Err-hand_records.ensures.wanted (ap (λ (f : DecodeFault). Err f) is) old.taken (taken_none old.taken) in
    let own = subst (λ (o : List ℕ). WantsMemory old.decoder.templates (source_of old.decoder.number m.header) o m.sets.items) c.in-Ok.ensures.octets wanted in
    ARecord m.header m.sets.items c.in-Ok.ensures.found
    (subst (λ (n : ℕ). WantsMemory so_far.templates (source_of n m.header) (take m.header.length octets) m.sets.items) k.session
    (subst (λ (ts : Templates). WantsMemory ts (source_of old.decoder.number m.header) (take m.header.length octets) m.sets.items) k.templates own))

pub returns-in-Err-hand_records-clause-exact : goal.returns-in-Err-hand_records-clause-exact
returns-in-Err-hand_records-clause-exact c = λ so_far k other.
    let old = c.args.self in
    let m = c.in-Ok.message in
    let fault = c.decode_fault.ensures.fault other in
    with_is old.at so_far c.args.octets.now m.octets.now old.decoder.number old.decoder.templates m.header m.sets.items _ c.in-Ok.ensures.exact k.session k.templates c.in-Ok.ensures.octets
    (c.in-Err-hand_records.ensures.exact old.taken (taken_none old.taken) fault.0)
    ∙ ap (λ (e : InputFault). Err e) (sym fault.1)

pub returns-clause-exact : goal.returns-clause-exact
returns-clause-exact c = λ so_far k.
    let old = c.args.self in
    let octets = c.args.octets.now in
    let m = c.in-Ok.message in
    let handed = c.in-Ok-hand_records.handed in
    let come = c.in-Ok-hand_records.ensures.exact old.taken (taken_none old.taken) in
    let new : CaptureReader = record {
      decoder = handed.decoder;
      taken = c.hand_records.new.taker;
      messages = old.messages + 1;
      unplaced = old.unplaced + c.from.result;
      skipped = old.skipped + c.from-2.result;
      at = old.at + c.from-3.result;
    } in (
      with_message so_far come.0,
      with_is old.at so_far octets m.octets.now old.decoder.number old.decoder.templates m.header m.sets.items (Ok come.0) c.in-Ok.ensures.exact k.session k.templates c.in-Ok.ensures.octets come.1,
      agrees_more old new so_far come.0 m.header.length k (record {
        session = come.2.number;
        templates = sym come.2.templates;
        reports = come.2.records.0;
        not_reports = come.2.records.1;
        messages = refl;
        unplaced = ap (λ n. old.unplaced + n) (c.from.ensures ∙ ap from_bool c.is_some.ensures ∙ one_some handed.unplaced ∙ ap one_if (sym come.2.unplaced));
        skipped = ap (λ n. old.skipped + n) (c.from-2.ensures ∙ sym come.2.skipped);
        at = ap (λ n. old.at + n) c.from-3.ensures;
        some = omega (arith, m.room);
        few = omega (arith, come.2.few);
        few_skipped = omega (arith, c.in-Ok-hand_records.ensures.skipped, come.2.skipped);
        within = omega (arith, c.requires.within, c.in-Ok.ensures.found.whole);
      }),
    )

pub returns-clause-at : goal.returns-clause-at
returns-clause-at c = omega (arith, c.from-3.ensures, ap (λ (h : Header). h.length) c.in-Ok.ensures.found.header)

pub returns-clause-frame : goal.returns-clause-frame
returns-clause-frame c = front_frame c.args.octets.now c.in-Ok.message.header c.in-Ok.message.sets.items c.in-Ok.ensures.found

pub returns-in-Err-clause-exact : goal.returns-in-Err-clause-exact
returns-in-Err-clause-exact c = λ so_far k other.
    let fault = c.wire_fault.ensures.fault other in
    ap (λ (x : Result (Header × List SetSpan) WireFault). with_split c.args.self.at so_far c.args.octets.now x) (c.in-Err.ensures.exact fault.0)
    ∙ ap (λ (e : InputFault). Err e) (sym fault.1)

pub returns-in-Err-clause-at : goal.returns-in-Err-clause-at
returns-in-Err-clause-at c = grind (arith, common_steps)

pub returns-in-Err-clause-frame : goal.returns-in-Err-clause-frame
returns-in-Err-clause-frame c = grind (arith, common_steps)

pub returns-in-Err-hand_records-clause-at : goal.returns-in-Err-hand_records-clause-at
returns-in-Err-hand_records-clause-at c = grind (arith, common_steps)

pub returns-in-Err-hand_records-clause-frame : goal.returns-in-Err-hand_records-clause-frame
returns-in-Err-hand_records-clause-frame c = grind (arith, common_steps)

pub returns-clause-wanted : goal.returns-clause-wanted
returns-clause-wanted c = grind (arith, common_steps)
