-- What the calls of a world are given and answer, as the machine has it.
use Rattle.std.specs.Prelude.{◌≡◌, ℕ, Bool, false, ◌++◌, ◌==◌, ◌<◌, Option, None, Some, Result, Ok, Err, List, [], ◌∷◌, length, map, slice_get}
use Rattle.std.specs.List.{list_any}
use Rattle.tca_join.specs.declared.fault.JoinFault.{JoinFault}
use Rattle.tca_gossip.specs.declared.step.Step.{Step}
use Rattle.tca_gossip.specs.declared.step.Step.TheVariants.{Take, Ask, Answer, Deliver, Merge}
use Rattle.tca_gossip.specs.declared.step.Reply.{Reply}
use Rattle.tca_gossip.specs.declared.step.Reply.TheVariants.{Took, Sent, Absorbed, Merged, Nothing, NoMemory}
use Rattle.tca_gossip.specs.declared.message.Message.{Message}
use Rattle.tca_gossip.specs.declared.message.Message.TheVariants.{Counts, Parts}
use Rattle.tca_gossip.specs.declared.fault.WorldFault.{WorldFault}
use Rattle.tca_gossip.specs.declared.fault.WorldFault.TheVariants.{NameTwice, Memory}
use Rattle.tca_gossip.specs.Replicas.{ReplicaView, new_replica}
use Rattle.tca_gossip.specs.Answers.{outcome_of, cause_of}
use Rattle.tca_gossip.specs.Steps.{Step as StepView, Take as take, Ask as ask, Answer as answer, Deliver as deliver, Merge as merge, MergeEnd, Joined, Unjoined}
use Rattle.tca_gossip.specs.Steps.{Reply as ReplyView, Took as took, Sent as sent, Absorbed as absorbed, Merged as merged, Nothing as nothing, NoMemory as no_memory}
use Rattle.tca_gossip.specs.Coupling.{MessageView, Summary, Delta, WorldView, AreDistinct, name_of, with_message}

abbrev pub step_view : Step → StepView
step_view (Take at reports) = take at reports.items
step_view (Ask at) = ask at
step_view (Answer at message) = answer at message
step_view (Deliver message to) = deliver message to
step_view (Merge into other) = merge into other

-- how a merge ended
abbrev pub end_of : {A : Type 0} → Result A JoinFault → MergeEnd
end_of (Ok done) = Joined
end_of (Err fault) = Unjoined fault

abbrev pub reply_view : Reply → ReplyView
reply_view (Took t) = took t.taken t.fresh t.stop
reply_view (Sent number) = sent number
reply_view (Absorbed result) = absorbed (outcome_of result) (cause_of result)
reply_view (Merged result) = merged (end_of result)
reply_view Nothing = nothing
reply_view NoMemory = no_memory

abbrev pub message_view : Message → MessageView
message_view (Counts summary) = Summary summary
message_view (Parts delta) = Delta delta

-- whether one of these replicas has a name
abbrev pub any_named : List ReplicaView → ℕ → Bool
any_named vs n = list_any (λ k. k == n) (map name_of vs)

-- whether there is a replica of a name
abbrev pub is_named : WorldView → ℕ → Bool
is_named w n = any_named w.replicas n

-- where the replica of a name is
abbrev pub IsPlace : WorldView → ℕ → Option ℕ → Type 0
IsPlace w n None = is_named w n ≡ false
IsPlace w n (Some i) = (i < length w.replicas) × (slice_get (map name_of w.replicas) i ≡ Some n)

-- what holds of the replicas at two places
abbrev pub OfBoth : List ReplicaView → ℕ → ℕ → (ReplicaView → ReplicaView → Type 0) → Type 0
OfBoth vs i j P = (v u : ReplicaView) → slice_get vs i ≡ Some v → slice_get vs j ≡ Some u → P v u

-- a message was sent, or there was no memory for it
abbrev pub IsSending : WorldView → MessageView → Option ℕ → WorldView → Type 0
IsSending w message None x = x ≡ w
IsSending w message (Some number) x = (number ≡ length w.sent) × (x ≡ with_message w message)

-- with one more replica, which holds nothing
abbrev pub with_name : WorldView → ℕ → WorldView
with_name w n = record { plan = w.plan; replicas = w.replicas ++ new_replica w.plan n ∷ []; sent = w.sent }

-- names are refused where one stands twice, or else for want of memory
abbrev pub IsWorldFault : List ℕ → WorldFault → Type 0
IsWorldFault names NameTwice = AreDistinct names → ⊥
IsWorldFault names Memory = AreDistinct names
