-- The faults of command lines.
use Rattle.std.specs.Prelude.{ℕ, List, [], string_bytes}
use Rattle.tca_program.specs.declared.line_fault.LineFault.{LineFault}
use Rattle.tca_program.specs.declared.line_fault.LineFault.TheVariants.{Usage, Help, Memory}

-- the number of each fault
abbrev pub line_number : LineFault → ℕ
line_number (Usage text) = 1
line_number (Help text) = 2
line_number Memory = 3

-- the exit status of a command line that asks for no command: 2 where it is wrong, 0 where it asks for help
abbrev pub line_status : LineFault → ℕ
line_status (Usage text) = 2
line_status (Help text) = 0
line_status Memory = 1

-- what goes to standard output where a command line asks for no command: the text of help, where it asks for that
abbrev pub help_text : LineFault → List ℕ
help_text (Usage text) = []
help_text (Help text) = string_bytes text
help_text Memory = []
