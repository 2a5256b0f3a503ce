-- The commands of the program, as clap sees them.
use Rattle.std.specs.Prelude.{true, codes}
use Rattle.clap.specs.Words.{App, new_app, with_rule, with_subcommand}
use Rattle.tca_program.specs.Arguments.{flag, many_words, one_word, option_word}

-- `pairs INPUT...`, with fewer than 2^32 inputs
abbrev pub pairs_command : App
pairs_command = with_rule (new_app (codes "pairs")) (many_words (codes "INPUT") 4294967295)

-- `list [--plan PLAN] INPUT...`, with fewer than 2^32 inputs
abbrev pub list_command : App
list_command = with_rule (with_rule (new_app (codes "list")) (option_word (codes "plan"))) (many_words (codes "INPUT") 4294967295)

-- `diff A B`
abbrev pub diff_command : App
diff_command = with_rule (with_rule (new_app (codes "diff")) (one_word (codes "A"))) (one_word (codes "B"))

-- `table STATEMENT`
abbrev pub table_command : App
table_command = with_rule (new_app (codes "table")) (one_word (codes "STATEMENT"))

-- `json STATEMENT`
abbrev pub json_command : App
json_command = with_rule (new_app (codes "json")) (one_word (codes "STATEMENT"))

-- `page [--progress] OUT STATEMENT`
abbrev pub page_command : App
page_command = with_rule (with_rule (with_rule (new_app (codes "page")) (flag (codes "progress"))) (one_word (codes "OUT"))) (one_word (codes "STATEMENT"))

-- `split [--progress] DIR CAPTURE`
abbrev pub split_command : App
split_command = with_rule (with_rule (with_rule (new_app (codes "split")) (flag (codes "progress"))) (one_word (codes "DIR"))) (one_word (codes "CAPTURE"))

-- `add STATEMENT...`, with fewer than 2^32 statements
abbrev pub add_command : App
add_command = with_rule (new_app (codes "add")) (many_words (codes "STATEMENT") 4294967295)

-- the program's name, behind which a command has to stand
abbrev pub bare_program : App
bare_program = record (new_app (codes "tcatool")) { top = record (new_app (codes "tcatool")).top { subcommand_required = true } }

-- with the commands over inputs
abbrev pub over_inputs : App → App
over_inputs app = with_subcommand (with_subcommand (with_subcommand (with_subcommand app pairs_command.top) list_command.top) diff_command.top) split_command.top

-- with the commands over statements
abbrev pub over_statements : App → App
over_statements app = with_subcommand (with_subcommand (with_subcommand (with_subcommand app table_command.top) json_command.top) page_command.top) add_command.top

-- the program's name, then one of its commands
abbrev pub program : App
program = over_statements (over_inputs bare_program)
