use Rattle.std.proofs.Common.{rules, ◌∙◌, ap}
use Rattle.tca_program.specs.Unions.{union_of}
use Rattle.tca_commands.proofs.SetLaws.{one_more_list}
use Rattle.tca_commands.proofs.answers.sets_of.Goals as goal

pub loop-list-preserved : goal.loop-list-preserved
loop-list-preserved c = (
  search rules,
  search rules,
  ap union_of c.in_ok-push.ensures.items ∙ one_more_list c.loop-list.sets.items c.loop-list.yielded c.in_ok-set_or_list.field-0 c.in-Some.list c.loop-list.invariant.2 c.in_ok-set_or_list.ensures,
)
