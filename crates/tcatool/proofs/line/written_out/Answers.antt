use Rattle.tcatool.proofs.LineExamples as line
use Rattle.tcatool.proofs.line.written_out.Goals as goal

pub returns : goal.returns
returns c = record {
  pairs = line.is_pairs;
  no_input = line.is_no_input;
  list = line.is_list;
  list_plan = line.is_list_plan;
  plan_behind = line.is_plan_behind;
  plan_alone = line.is_plan_alone;
  diff = line.is_diff;
  one_side = line.is_one_side;
  three_sides = line.is_three_sides;
  table = line.is_table;
  two_tables = line.is_two_tables;
  json = line.is_json;
  page = line.is_page;
  page_progress = line.is_page_progress;
  page_alone = line.is_page_alone;
  split = line.is_split;
  split_progress = line.is_split_progress;
  two_captures = line.is_two_captures;
  add = line.is_add;
  nothing_added = line.is_nothing_added;
  no_words = line.is_no_words;
  no_command = line.is_no_command;
  unknown_command = line.is_unknown_command;
  unknown_option = line.is_unknown_option;
  help = line.is_help;
}
