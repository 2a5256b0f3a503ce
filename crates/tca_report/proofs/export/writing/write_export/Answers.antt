use Rattle.std.proofs.lemmas.Grind.{common_steps}
use Rattle.std.proofs.Common.{◌+◌, ◌<◌, ◌≤◌, ◌++◌, List, ℕ, length, drop, arith, sym, ap, ◌∙◌}
use Rattle.std.specs.List.{flat_map}
use Rattle.std.proofs.lemmas.Result.{err_from_is_err_and}
use Rattle.tca_report.specs.export.Spelling.{export, record_octets}
use Rattle.tca_report.specs.declared.export.Format.TheVariants.{Version2}
use Rattle.tca_report.proofs.lemmas.export.Spelling.{length-export}
use Rattle.tca_report.proofs.lemmas.export.PartsWritten.{part_went, part_left, all_within, still_within, one_gathered}
use Rattle.tca_report.proofs.export.writing.write_export.Goals as goal

pub make_room-requires : goal.make_room-requires
make_room-requires g c =
    let more = flat_map (record_octets Version2) (drop c.loop-report.report-index c.args.reports.now) in
    let within = all_within (export c.args.reports.now) c.loop-report.buffer.items more c.loop-report.written c.loop-report.invariant.left c.loop-report.invariant.within in
    omega (arith, length-export c.args.reports.now, c.requires.few)

pub returns-in_err-written-clause-part : goal.returns-in_err-written-clause-part
returns-in_err-written-clause-part g c =
    let p = err_from_is_err_and c.from_residual.result c.from_residual.ensures.1 in
    let more = flat_map (record_octets Version2) (drop c.loop-report.report-index c.args.reports.now) in
    let within = all_within (export c.args.reports.now) c.loop-report.buffer.items more c.loop-report.written c.loop-report.invariant.left c.loop-report.invariant.within in
    rw (p.1, p.2) (omega (arith, c.in_err-written.ensures.part))

pub returns-in_err-written-clause-went : goal.returns-in_err-written-clause-went
returns-in_err-written-clause-went g c =
    let p = err_from_is_err_and c.from_residual.result c.from_residual.ensures.1 in
    let more = flat_map (record_octets Version2) (drop c.loop-report.report-index c.args.reports.now) in
    let fault = c.in_err-written.field-0.0 in
    let part : fault.written < c.loop-report.written + length c.loop-report.buffer.items = c.in_err-written.ensures.part in
    rw (p.1, p.2) (part_went (export c.args.reports.now) c.loop-report.buffer.items more c.loop-report.written fault.written c.loop-report.invariant.left c.in_err-written.ensures.after (omega arith) _ _ _ c.loop-report.invariant.went c.in_err-written.ensures.went)

pub loop-report-preserved : goal.loop-report-preserved
loop-report-preserved g c =
    let whole = export c.args.reports.now in
    let buffer = c.loop-report.buffer.items in
    let index = c.loop-report.report-index in
    let more = flat_map (record_octets Version2) (drop index c.args.reports.now) in
    let next = flat_map (record_octets Version2) (drop (index + 1) c.args.reports.now) in
    let before = c.loop-report.written in
    let after = c.in_ok-written.written in
    let left = c.loop-report.invariant.left in
    let above : before ≤ after = c.in_ok-written.ensures.more in
    let bound : after ≤ before + length buffer = c.in_ok-written.ensures.total in
    let room = c.make_room.new.buffer.items in
    record {
      went = part_went whole buffer more before after left above bound _ _ _ c.loop-report.invariant.went c.in_ok-written.ensures.sent;
      left = part_left whole buffer more before after left above bound
          ∙ ap (λ (b : List ℕ). b ++ more) (sym c.in_ok-written.ensures.kept)
          ∙ one_gathered (record_octets Version2) c.args.reports.now index c.report-item.result room c.loop-report-test.true c.report-item.is
          ∙ ap (λ (b : List ℕ). b ++ next) (sym c.append_record.ensures);
      within = still_within whole buffer more before after left above bound c.loop-report.invariant.within;
      quiet = c.in_ok-written.ensures.count ∙ c.loop-report.invariant.quiet;
    }

pub put_after-requires : goal.put_after-requires
put_after-requires g c =
    let more = flat_map (record_octets Version2) (drop c.loop-report.report-index c.args.reports.now) in
    let within = all_within (export c.args.reports.now) c.loop-report.buffer.items more c.loop-report.written c.loop-report.invariant.left c.loop-report.invariant.within in
    rw c.as_slice.ensures.value (omega (arith, length-export c.args.reports.now, c.requires.few))

pub returns-in_err-put_after-clause-went : goal.returns-in_err-put_after-clause-went
returns-in_err-put_after-clause-went g c =
    let p = err_from_is_err_and c.from_residual-in_err-put_after.result c.from_residual-in_err-put_after.ensures.1 in
    let more = flat_map (record_octets Version2) (drop c.loop-report.report-index c.args.reports.now) in
    let fault = c.in_err-put_after.field-0.0 in
    let part : fault.written < c.loop-report.written + length c.loop-report.buffer.items = rw c.as_slice.ensures.value at c.in_err-put_after.ensures.part in
    let went = rw c.as_slice.ensures.value at c.in_err-put_after.ensures.went in
    rw (p.1, p.2) (part_went (export c.args.reports.now) c.loop-report.buffer.items more c.loop-report.written fault.written c.loop-report.invariant.left c.in_err-put_after.ensures.after (omega arith) _ _ _ c.loop-report.invariant.went went)

pub returns-in_err-written-clause-ok : goal.returns-in_err-written-clause-ok
returns-in_err-written-clause-ok g c = grind (arith, common_steps)

pub returns-in_err-written-clause-count : goal.returns-in_err-written-clause-count
returns-in_err-written-clause-count g c = grind (arith, common_steps)

pub returns-in_err-put_after-clause-ok : goal.returns-in_err-put_after-clause-ok
returns-in_err-put_after-clause-ok g c = grind (arith, common_steps)

pub returns-in_err-put_after-clause-part : goal.returns-in_err-put_after-clause-part
returns-in_err-put_after-clause-part g c = grind (arith, common_steps)

pub returns-in_err-put_after-clause-count : goal.returns-in_err-put_after-clause-count
returns-in_err-put_after-clause-count g c = grind (arith, common_steps)

pub returns-clause-ok : goal.returns-clause-ok
returns-clause-ok g c = grind (arith, common_steps)

pub returns-clause-part : goal.returns-clause-part
returns-clause-part g c = grind (arith, common_steps)

pub returns-clause-went : goal.returns-clause-went
returns-clause-went g c = grind (arith, common_steps)

pub returns-clause-count : goal.returns-clause-count
returns-clause-count g c = grind (arith, common_steps)
