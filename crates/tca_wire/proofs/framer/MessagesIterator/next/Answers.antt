use Rattle.std.proofs.Common.{◌∙◌, ◌++◌, ap, sym, rules}
use Rattle.tca_wire.specs.Frames.{frames_of}
use Rattle.tca_wire.proofs.framer.MessagesIterator.next.Goals as goal

pub returns-in-Some-clause-steps : goal.returns-in-Some-clause-steps
returns-in-Some-clause-steps c = sym c.self.view_is ∙ ap (λ frames. frames ++ (frames_of c.self.inside.whole.now).0) c.in-Some.ensures.some

pub returns-in-Some-clause-goes : goal.returns-in-Some-clause-goes
returns-in-Some-clause-goes c = rw (returns-in-Some-clause-steps c) (search rules)

pub returns-clause-steps : goal.returns-clause-steps
returns-clause-steps c = rw (← c.self.view_is, c.in_default.ensures.none) c.in_ok-message.ensures.some

pub returns-in_err-message-clause-steps : goal.returns-in_err-message-clause-steps
returns-in_err-message-clause-steps c = search rules

pub first_frame-requires : goal.first_frame-requires
first_frame-requires c = c.self.invariant.0
