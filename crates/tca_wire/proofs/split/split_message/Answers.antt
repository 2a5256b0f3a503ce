use Rattle.std.proofs.Common.{List, subst}
use Rattle.std.specs.Prelude.{Result}
use Rattle.tca_join.specs.Results.{Gives}
use Rattle.tca_wire.specs.Messages.{IsMessage, message_of}
use Rattle.tca_wire.specs.declared.message.Header.{Header}
use Rattle.tca_wire.specs.declared.message.SetSpan.{SetSpan}
use Rattle.tca_wire.specs.declared.fault.WireFault.{WireFault}
use Rattle.tca_wire.specs.declared.fault.WireFault.TheVariants.{Memory}
use Rattle.tca_wire.specs.FirstFaults.{IsFirstFault}
use Rattle.tca_wire.proofs.Walking.{gives_ok, gives_err}
use Rattle.tca_wire.proofs.Tiles.{message_found, message_only}
use Rattle.tca_wire.proofs.FirstFaults.{fault_found, answers_fault}
use Rattle.tca_wire.proofs.split.split_message.Goals as goal

pub returns-clause-found : goal.returns-clause-found
returns-clause-found c =
    gives_ok Memory (λ m. (m.header, m.sets.items)) (λ (x : Header × List SetSpan). IsMessage c.args.octets.now x.0 x.1) c.split.result (message_of c.args.octets.now)
    (λ x e. message_found c.args.octets.now x.0 x.1 e) c.split.ensures.exact

pub returns-clause-only : goal.returns-clause-only
returns-clause-only c = λ header sets m.
    subst (λ (given : Result (Header × List SetSpan) WireFault). Gives Memory (λ m. (m.header, m.sets.items)) c.split.result given) (message_only c.args.octets.now header sets m) c.split.ensures.exact

pub returns-clause-first : goal.returns-clause-first
returns-clause-first c =
    gives_err Memory (λ m. (m.header, m.sets.items)) (λ (f : WireFault). IsFirstFault c.args.octets.now f) c.split.result (message_of c.args.octets.now)
    (fault_found c.args.octets.now) c.split.ensures.exact

pub returns-clause-refused : goal.returns-clause-refused
returns-clause-refused c = answers_fault (λ m. (m.header, m.sets.items)) c.split.result c.args.octets.now c.split.ensures.exact c.split.ensures.last
