use Rattle.std.proofs.lemmas.Grind.{common_steps}
use Rattle.std.proofs.Common.{◌≡◌, ◌≢◌, true, false, sym, ap, ◌∙◌, rules, arith}
use Rattle.std.specs.Prelude.{Err}
use Rattle.tca_report.specs.input.Inputs.{is_export}
use Rattle.tca_report.specs.declared.export.ExportFault.TheVariants as export
use Rattle.tca_report.specs.declared.export.ExportFault.{ExportFault}
use Rattle.tca_report.specs.declared.input.InputFault.TheVariants.{Export}
use Rattle.tca_report.proofs.lemmas.export.FirstFaults.{never_memory, same_export}
use Rattle.tca_report.proofs.lemmas.input.CaptureFaults.{capture_first, export_first}
use Rattle.tca_report.specs.input.Wants.{AnExport, ACapture}
use Rattle.tca_report.proofs.input.gather.Goals as goal

pub returns-then-not-has_magic-clause-first : goal.returns-then-not-has_magic-clause-first
returns-then-not-has_magic-clause-first c =
    let other : is_export c.args.octets.now ≡ false = sym c.has_magic.ensures.exact ∙ c.if-not-has_magic.true in
    capture_first (record { session = c.args.session; octets = c.args.octets.now }) c.read_capture.result other c.read_capture.ensures.exact

pub returns-in-Err-clause-first : goal.returns-in-Err-clause-first
returns-in-Err-clause-first c = λ ne.
    let is : is_export c.args.octets.now ≡ true = sym c.has_magic.ensures.exact ∙ c.if-not-has_magic.false in
    let other : c.in-Err.fault ≢ export.Memory = search rules in
    export_first (record { session = c.args.session; octets = c.args.octets.now }) c.in-Err.fault is (c.in-Err.ensures.first other)

pub returns-in-Ok-clause-refused : goal.returns-in-Ok-clause-refused
returns-in-Ok-clause-refused c = λ f is wrong. let e = c.in-Ok.ensures.refused f wrong in absurd cc

pub returns-in-Err-Memory-clause-refused : goal.returns-in-Err-Memory-clause-refused
returns-in-Err-Memory-clause-refused c = λ f is wrong.
    let e = c.in-Err-Memory.ensures.refused f wrong in
    let same = same_export c.in-Err-Memory.field-0 f e in
    absurd (never_memory c.args.octets.now f wrong (cc (same, c.in-Err-Memory.field-0-is)))

pub returns-in-Err-clause-refused : goal.returns-in-Err-clause-refused
returns-in-Err-clause-refused c = λ f is wrong.
    ap (λ (g : ExportFault). Err (Export g)) (same_export c.in-Err.fault f (c.in-Err.ensures.refused f wrong))

pub returns-then-not-has_magic-clause-memory_wanted : goal.returns-then-not-has_magic-clause-memory_wanted
returns-then-not-has_magic-clause-memory_wanted c = λ e.
    let other : is_export c.args.octets.now ≡ false = sym c.has_magic.ensures.exact ∙ c.if-not-has_magic.true in
    ACapture other (c.read_capture.ensures.wanted e)

pub returns-in-Err-Memory-clause-memory_wanted : goal.returns-in-Err-Memory-clause-memory_wanted
returns-in-Err-Memory-clause-memory_wanted c = λ e.
    let is : is_export c.args.octets.now ≡ true = sym c.has_magic.ensures.exact ∙ c.if-not-has_magic.false in
    let wanted = c.in-Err-Memory.ensures.memory (ap (λ (f : ExportFault). Err f) c.in-Err-Memory.field-0-is) in
    AnExport is wanted.0 wanted.1 wanted.2

pub returns-then-not-has_magic-clause-exact : goal.returns-then-not-has_magic-clause-exact
returns-then-not-has_magic-clause-exact c = grind (arith, common_steps)

pub returns-then-not-has_magic-clause-refused : goal.returns-then-not-has_magic-clause-refused
returns-then-not-has_magic-clause-refused c = grind (arith, common_steps)

pub returns-then-not-has_magic-clause-memory : goal.returns-then-not-has_magic-clause-memory
returns-then-not-has_magic-clause-memory c = grind (arith, common_steps)

pub returns-in-Ok-clause-exact : goal.returns-in-Ok-clause-exact
returns-in-Ok-clause-exact c = grind (arith, common_steps)

pub returns-in-Ok-clause-first : goal.returns-in-Ok-clause-first
returns-in-Ok-clause-first c = grind (arith, common_steps)

pub returns-in-Ok-clause-memory : goal.returns-in-Ok-clause-memory
returns-in-Ok-clause-memory c = grind (arith, common_steps)

pub returns-in-Ok-clause-memory_last : goal.returns-in-Ok-clause-memory_last
returns-in-Ok-clause-memory_last c = grind (arith, common_steps)

pub returns-in-Ok-clause-memory_wanted : goal.returns-in-Ok-clause-memory_wanted
returns-in-Ok-clause-memory_wanted c = grind (arith, common_steps)

pub returns-in-Err-Memory-clause-exact : goal.returns-in-Err-Memory-clause-exact
returns-in-Err-Memory-clause-exact c = grind (arith, common_steps)

pub returns-in-Err-Memory-clause-first : goal.returns-in-Err-Memory-clause-first
returns-in-Err-Memory-clause-first c = grind (arith, common_steps)

pub returns-in-Err-Memory-clause-memory : goal.returns-in-Err-Memory-clause-memory
returns-in-Err-Memory-clause-memory c = grind (arith, common_steps)

pub returns-in-Err-Memory-clause-memory_last : goal.returns-in-Err-Memory-clause-memory_last
returns-in-Err-Memory-clause-memory_last c = grind (arith, common_steps)
