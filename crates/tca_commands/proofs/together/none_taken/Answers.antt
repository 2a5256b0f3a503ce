use Rattle.std.proofs.Common.{◌∙◌, ◌∷◌, [], length, length-append, ap, arith}
use Rattle.tca_commands.specs.inside.Together.{left_of}
use Rattle.tca_commands.proofs.TogetherLaws.{one_whole, whole}
use Rattle.tca_commands.proofs.together.none_taken.Goals as goal

pub loop-list-init : goal.loop-list-init
loop-list-init c =
    let none = c.in_ok-taken.ensures.items in
    record { count = ap length none; whole = ap (left_of c.args.lists.now) none ∙ whole c.args.lists.now }

pub loop-list-preserved : goal.loop-list-preserved
loop-list-preserved c =
    let lists = c.args.lists.now in
    let before = c.loop-list.taken.items in
    let more = c.in_ok-push.ensures.items in
    record {
      count = omega (arith, ap length more, length-append before (0 ∷ []), c.loop-list.invariant.count);
      whole = ap (left_of lists) more ∙ one_whole lists before ∙ c.loop-list.invariant.whole;
    }
