use Rattle.std.proofs.Common.{◌≡◌, ◌∙◌, Some, Err, inl, refl, ap, sym}
use Rattle.tca_report.specs.declared.device.octets.ReadFault.TheVariants as read
use Rattle.tca_split.specs.declared.fault.SplitFault.TheVariants.{Read}
use Rattle.tca_program.specs.Devices.{device}
use Rattle.tca_program.specs.Unions.{memory_refusal, refusal}
use Rattle.tca_program.specs.declared.fault.Family.TheVariants as family
use Rattle.tcatool.specs.Splitting.{place, split_refusal}
use Rattle.tcatool.proofs.SplitEnds.{all_printed, failed_read, no_fault, not_write, one_of, only_memory, only_read, only_turns, part_printed, same_told}
use Rattle.tcatool.proofs.split.run_split.Goals as goal

pub returns-in-Ok-clause-done : goal.returns-in-Ok-clause-done
returns-in-Ok-clause-done g c =
    let p = place g.F.Folder.files g.F.Folder.failures in
    let d = device g.W.Write.written g.W.Write.failures in
    all_printed (record { first = g.A.Read.left c.args.first.now; second = g.B.Read.left c.args.second.now }) (p c.args.folder.now) (p c.split.new.folder) (d c.args.out.now) (d c.print_parts.new.out)
    c.in-Ok.parts c.in-Ok.ensures.done (rw c.in-Ok.is at c.split.ensures.write) c.print_parts.result c.print_parts.ensures.done

pub returns-in-Ok-clause-refused : goal.returns-in-Ok-clause-refused
returns-in-Ok-clause-refused g c =
    let p = place g.F.Folder.files g.F.Folder.failures in
    let d = device g.W.Write.written g.W.Write.failures in
    part_printed (record { first = g.A.Read.left c.args.first.now; second = g.B.Read.left c.args.second.now }) (p c.args.folder.now) (p c.split.new.folder) (d c.args.out.now) (d c.print_parts.new.out)
    c.in-Ok.parts c.in-Ok.ensures.done (rw c.in-Ok.is at c.split.ensures.write) c.print_parts.result c.print_parts.ensures.cut_off

pub returns-in-Ok-clause-memory : goal.returns-in-Ok-clause-memory
returns-in-Ok-clause-memory g c = λ is octets left. absurd (not_write c.print_parts.result _ memory_refusal c.print_parts.ensures.cut_off refl is)

pub returns-in-Ok-clause-untouched : goal.returns-in-Ok-clause-untouched
returns-in-Ok-clause-untouched g c = λ is. absurd (not_write c.print_parts.result _ memory_refusal c.print_parts.ensures.cut_off refl is)

pub returns-in-Ok-clause-read : goal.returns-in-Ok-clause-read
returns-in-Ok-clause-read g c = λ is octets files left again known. absurd (not_write c.print_parts.result _ (refusal (Some 0) family.Read 1) c.print_parts.ensures.cut_off refl is)

pub returns-in-Ok-clause-turns : goal.returns-in-Ok-clause-turns
returns-in-Ok-clause-turns g c = λ is. absurd (not_write c.print_parts.result _ (refusal (Some 0) family.Read 2) c.print_parts.ensures.cut_off refl is)

pub returns-in-Ok-clause-quiet : goal.returns-in-Ok-clause-quiet
returns-in-Ok-clause-quiet g c = λ no. c.split.ensures.quiet (λ is. no_fault c.in-Ok.parts (Read read.Read) (sym c.in-Ok.is ∙ is))

pub returns-in-Err-clause-refused : goal.returns-in-Err-clause-refused
returns-in-Err-clause-refused g c = inl (record {
  fault = c.in-Err.fault;
  told = c.refusal_of.ensures;
  why = c.in-Err.ensures.refused;
  count = rw c.in-Err.is at c.split.ensures.write;
  unprinted = refl;
})

pub returns-in-Err-clause-memory : goal.returns-in-Err-clause-memory
returns-in-Err-clause-memory g c = λ is octets left.
    let told : split_refusal c.in-Err.fault ≡ memory_refusal = sym c.refusal_of.ensures ∙ same_told _ c.refusal_of.result memory_refusal refl is in
    c.split.ensures.memory (c.in-Err.is ∙ ap Err (only_memory c.in-Err.fault told)) octets left

pub returns-in-Err-clause-untouched : goal.returns-in-Err-clause-untouched
returns-in-Err-clause-untouched g c = λ is.
    let told : split_refusal c.in-Err.fault ≡ memory_refusal = sym c.refusal_of.ensures ∙ same_told _ c.refusal_of.result memory_refusal refl is in
    c.split.ensures.untouched (c.in-Err.is ∙ ap Err (only_memory c.in-Err.fault told))

pub returns-in-Err-clause-read : goal.returns-in-Err-clause-read
returns-in-Err-clause-read g c = λ is octets files left again known.
    let told : split_refusal c.in-Err.fault ≡ refusal (Some 0) family.Read 1 = sym c.refusal_of.ensures ∙ same_told _ c.refusal_of.result (refusal (Some 0) family.Read 1) refl is in
    failed_read octets files (g.F.Folder.files c.split.new.folder) c.in-Err.fault (only_read c.in-Err.fault told) (c.in-Err.ensures.refused octets files left again known)
    (λ h. c.split.ensures.read (c.in-Err.is ∙ ap Err h))

pub returns-in-Err-clause-turns : goal.returns-in-Err-clause-turns
returns-in-Err-clause-turns g c = λ is.
    let told : split_refusal c.in-Err.fault ≡ refusal (Some 0) family.Read 2 = sym c.refusal_of.ensures ∙ same_told _ c.refusal_of.result (refusal (Some 0) family.Read 2) refl is in
    one_of (c.split.ensures.turns (c.in-Err.is ∙ ap Err (only_turns c.in-Err.fault told)))

pub returns-in-Err-clause-quiet : goal.returns-in-Err-clause-quiet
returns-in-Err-clause-quiet g c = λ no. c.split.ensures.quiet (λ is. no (ap Err (c.refusal_of.ensures ∙ ap split_refusal (same_told c.split.result c.in-Err.fault (Read read.Read) c.in-Err.is is))))
