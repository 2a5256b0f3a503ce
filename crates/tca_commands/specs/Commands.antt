-- The commands of the program, as clap sees them.
use Rattle.std.specs.Prelude.{ℕ, [], ◌∷◌, Some, true, codes}
use Rattle.clap.specs.Words.{App, Rule, Text, new_app, new_rule, with_rule, with_subcommand}
use Rattle.tca_program.specs.Arguments.{many_words, one_word, option_word}
use Rattle.clap.specs.declared.builder.value_parser.ValueParser.TheVariants as parser

-- `meter SPEC A [B]`
abbrev pub meter_command : App
meter_command = with_rule (with_rule (new_app (codes "meter")) (one_word (codes "SPEC"))) (many_words (codes "INPUT") 2)

-- `combine OUT INPUT...`, with fewer than 2^32 inputs
abbrev pub combine_command : App
combine_command = with_rule (with_rule (new_app (codes "combine")) (one_word (codes "OUT"))) (many_words (codes "INPUT") 4294967295)

-- `--id N`, where N is from 1 to `most`, and 2 unless it is given
abbrev pub number_up_to : Text → ℕ → Rule
number_up_to id most = record (new_rule id) {
  long = Some id;
  value_names = 1;
  defaults = codes "2" ∷ [];
  parser = Some (parser.Unsigned 1 most);
}

-- the most replicas, workers of each and inputs of a bill
abbrev pub most_replicas : ℕ
most_replicas = 16

abbrev pub most_workers : ℕ
most_workers = 64

abbrev pub most_billed : ℕ
most_billed = 256

-- `bill [--replicas N] [--workers N] [--export OUT] PLAN INPUT...`, with at most 256 inputs
abbrev pub bill_command : App
bill_command =
    with_rule
    (with_rule
    (with_rule
    (with_rule
    (with_rule (new_app (codes "bill")) (number_up_to (codes "replicas") most_replicas))
    (number_up_to (codes "workers") most_workers)) (option_word (codes "export"))) (one_word (codes "PLAN")))
    (many_words (codes "INPUT") most_billed)

-- `audit PLAN EXPORT STATEMENT`
abbrev pub audit_command : App
audit_command =
    with_rule (with_rule (with_rule (new_app (codes "audit")) (one_word (codes "PLAN"))) (one_word (codes "EXPORT")))
    (one_word (codes "STATEMENT"))

-- the program's name, then one of its commands
abbrev pub program : App
program = with_subcommand (with_subcommand (with_subcommand (with_subcommand required_command meter_command.top) combine_command.top) bill_command.top) audit_command.top
  where
    required_command : App
    required_command = record (new_app (codes "tcacct")) { top = record (new_app (codes "tcacct")).top { subcommand_required = true } }
