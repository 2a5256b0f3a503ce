-- The word that a fault line names.
use Rattle.std.specs.Prelude.{ℕ, Option, Some, None, slice_get, unwrap_or}
use Rattle.clap.specs.Words.{Text}
use Rattle.tca_program.specs.declared.fault.Family.{Family}
use Rattle.tca_program.specs.declared.fault.Family.TheVariants as family
use Rattle.tca_program.specs.declared.fault.RunFault.{RunFault}
use Rattle.tca_commands.specs.Lines.{Order, audit, bill, command_of, files_of, meter}

-- the word of a refusal without an input: the spec, the plan or an audit's export where that was refused, or a plan that couldn't be
-- read; else the command's name
abbrev pub word_without_input : Order → Family → Text
word_without_input (meter spec inputs) family.Spec = spec
word_without_input (bill replicas workers export plan inputs) family.Plan = plan
word_without_input (bill replicas workers export plan inputs) family.Read = plan
word_without_input (audit plan export statement) family.Plan = plan
word_without_input (audit plan export statement) family.Read = plan
word_without_input (audit plan export statement) family.Export = export
word_without_input order other = command_of order

abbrev pub word_at : Order → Family → Option ℕ → Text
word_at order of None = word_without_input order of
word_at order of (Some n) = unwrap_or (slice_get (files_of order) n) (command_of order)

-- the word that a refusal names: the input that was refused, the spec or the plan, or the command
abbrev pub word_of : Order → RunFault → Text
word_of order e = word_at order e.family e.input
