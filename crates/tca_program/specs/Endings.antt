-- What a run of a program writes to standard error, and its exit status.
use Rattle.std.specs.Prelude.{ℕ, List, [], ◌++◌, codes, string_bytes}
use Rattle.tca_program.specs.declared.ending.Ending.{Ending}
use Rattle.tca_program.specs.declared.ending.Ending.TheVariants as ending
use Rattle.tca_program.specs.declared.fault.RunFault.{RunFault}
use Rattle.tca_program.specs.declared.line_fault.LineFault.TheVariants as fault
use Rattle.tca_program.specs.Faults.{fault_text}
use Rattle.tca_program.specs.LineFaults.{line_status}
use Rattle.tca_program.specs.Unions.{memory_refusal}

-- the line of a refusal: the program's name, the word, the family and the number
abbrev pub fault_line : List ℕ → List ℕ → RunFault → List ℕ
fault_line program word e = program ++ (codes ": " ++ (word ++ (codes ": " ++ (fault_text e ++ codes "\n"))))

-- what a run writes to standard error
abbrev pub error_text : Ending → List ℕ
error_text ending.Done = []
error_text ending.Differs = []
error_text (ending.Refused program word e) = fault_line program.now word.now e
error_text (ending.NoCommand program (fault.Usage text)) = string_bytes text
error_text (ending.NoCommand program (fault.Help text)) = []
error_text (ending.NoCommand program fault.Memory) = fault_line program.now program.now memory_refusal

-- the exit status: 0 where the program did what was asked, 1 where it was refused or what was compared differs, 2 for a wrong command
-- line
abbrev pub status_of : Ending → ℕ
status_of ending.Done = 0
status_of ending.Differs = 1
status_of (ending.Refused program word e) = 1
status_of (ending.NoCommand program fault) = line_status fault
