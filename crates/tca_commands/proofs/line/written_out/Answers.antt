use Rattle.tca_commands.proofs.LineExamples as line
use Rattle.tca_commands.proofs.line.written_out.Goals as goal

pub returns : goal.returns
returns c = record {
  one_input = line.one_input;
  two_inputs = line.two_inputs;
  union = line.union;
  dashes = line.dashes;
  no_words = line.no_words;
  no_command = line.no_command;
  bill = line.bill_plain;
  bill_export = line.bill_export;
  export_behind = line.export_behind;
  plan_alone = line.plan_alone;
  two_exports = line.two_exports;
  replicas_and_workers = line.replicas_and_workers;
  no_replica = line.no_replica;
  many_replicas = line.many_replicas;
  no_worker = line.no_worker;
  many_workers = line.many_workers;
  audit = line.audit_whole;
  no_statement = line.no_statement;
  fourth_word = line.fourth_word;
  unknown_command = line.unknown_command;
  no_input = line.no_input;
  third_input = line.third_input;
  no_file = line.no_file;
  unknown_option = line.unknown_option;
  help = line.help;
}
