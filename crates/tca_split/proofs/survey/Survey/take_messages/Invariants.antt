use Rattle.std.proofs.Common.{◌≡◌, ◌++◌, ℕ, List}
use Rattle.std.specs.List.{AllByRecursion}
use Rattle.tca_wire.specs.Frames.{IsFrame}
use Rattle.tca_split.specs.inside.Surveying.{Surveys}
use Rattle.tca_split.proofs.survey.Survey.take_messages.Given as goal

-- the messages so far were taken
abbrev pub invariant-loop-message : goal.invariant-loop-message
invariant-loop-message l = record {
  frames : AllByRecursion IsFrame l.message-iterator;
  so_far : (done : List (List ℕ)) × (l.fn.messages ≡ done ++ l.message-iterator)
      × ((ms : List (List ℕ)) → Surveys ms l.fn.self → Surveys (ms ++ done) l.survey);
}
