-- The word that a fault line names.
use Rattle.std.specs.Prelude.{ℕ, Option, Some, None, slice_get, unwrap_or}
use Rattle.clap.specs.Words.{Text}
use Rattle.tca_program.specs.declared.fault.Family.{Family}
use Rattle.tca_program.specs.declared.fault.Family.TheVariants as family
use Rattle.tca_program.specs.declared.fault.RunFault.{RunFault}
use Rattle.tcatool.specs.Lines.{Order, command_of, files_of, list}

-- the word of a refusal without a number: the plan, where it was refused or couldn't be read; else the command's name
abbrev pub word_without_file : Order → Family → Text
word_without_file (list (Some plan) inputs) family.Plan = plan
word_without_file (list (Some plan) inputs) family.Read = plan
word_without_file order other = command_of order

abbrev pub word_at : Order → Family → Option ℕ → Text
word_at order of None = word_without_file order of
word_at order of (Some n) = unwrap_or (slice_get (files_of order) n) (command_of order)

-- the word that a refusal names: the file that was refused, or the command
abbrev pub word_of : Order → RunFault → Text
word_of order e = word_at order e.family e.input
