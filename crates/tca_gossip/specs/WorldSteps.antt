-- What the calls of a replica come to in a world: each is a step of the machine that the world shows.
use Rattle.std.specs.Prelude.{◌≡◌, ◌≤◌, ◌==◌, ℕ, Bool, true, false, Option, Some, None, List, [], ◌∷◌, ◌++◌, length, take, slice_get}
use Rattle.tca_report.specs.report.Reports.{PacketReport}
use Rattle.tca_join.specs.Chains.{most_items}
use Rattle.tca_join.specs.Maps.{MapProper}
use Rattle.tca_log.specs.declared.fault.LogFault.{LogFault}
use Rattle.tca_accounts.specs.Plans.{AccountPlan}
use Rattle.tca_gossip.specs.Replicas.{ReplicaView, chain_of, fresh_of, merged_with, merge_clash}
use Rattle.tca_gossip.specs.Replicas.{taken as with_taken}
use Rattle.tca_gossip.specs.Runs.{RunView, Outcome, IsOutcome, absorbed, delta_of, summary_count, rests}
use Rattle.tca_gossip.specs.Answers.{IsCause, IsStopAt}
use Rattle.tca_gossip.specs.Machines.{Machine, is_name, new_machine}
use Rattle.tca_gossip.specs.Steps.{Step, Take, Ask, Answer, Deliver, Merge, Reply, Took, Sent, Absorbed, Merged, Joined, can_send, IsStep, IsRun}
use Rattle.tca_gossip.specs.Coupling.{Summary, Delta, WorldView, AreDistinct, IsCoupled, StepsTo, with_replica, with_message, new_world, counts_of}

-- a new world shows the new machine of its names
abbrev pub StartsCoupled : Type 0
StartsCoupled = (plan : AccountPlan) (names : List ℕ) → AreDistinct names → IsCoupled (new_machine names) (new_world plan names)

-- a replica that took reports, as its `take` answers, is a step of the machine
abbrev pub TakeIsStep : Type 0
TakeIsStep = (m : Machine) (w : WorldView) (i : ℕ) (v : ReplicaView) (reports : List PacketReport) (taken fresh : ℕ) (stop : Option LogFault)
    → IsCoupled m w → slice_get w.replicas i ≡ Some v
    → taken ≤ length reports → fresh ≡ length (fresh_of v.log (take taken reports)) → IsStopAt (with_taken v (take taken reports)).log reports taken stop
    → StepsTo m (Take v.name reports) (Took taken fresh stop) (with_replica w i (with_taken v (take taken reports)))

-- a summary that was sent is a step
abbrev pub AskIsStep : Type 0
AskIsStep = (m : Machine) (w : WorldView) (i : ℕ) (v : ReplicaView)
    → IsCoupled m w → slice_get w.replicas i ≡ Some v → can_send m v.name ≡ true
    → StepsTo m (Ask v.name) (Sent (length m.sent)) (with_message w (Summary (counts_of v.chains)))

-- a delta that was sent for a summary is a step
abbrev pub AnswerIsStep : Type 0
AnswerIsStep = (m : Machine) (w : WorldView) (i : ℕ) (v : ReplicaView) (number : ℕ) (summary : List (ℕ × ℕ))
    → IsCoupled m w → slice_get w.replicas i ≡ Some v → slice_get w.sent number ≡ Some (Summary summary) → can_send m v.name ≡ true
    → MapProper (λ c. length c ≤ most_items) v.chains
    → StepsTo m (Answer v.name number) (Sent (length m.sent)) (with_message w (Delta (delta_of (summary_count summary) v.chains)))

-- a delta that was absorbed, as `absorb` answers, is a step
abbrev pub DeliverIsStep : Type 0
DeliverIsStep = (m : Machine) (w : WorldView) (i : ℕ) (v : ReplicaView) (number : ℕ) (runs : List RunView) (outcome : Outcome) (cause : Option LogFault)
    → IsCoupled m w → slice_get w.replicas i ≡ Some v → slice_get w.sent number ≡ Some (Delta runs)
    → IsOutcome v.name (chain_of v) runs outcome → IsCause (absorbed v runs outcome).log (rests (chain_of v) runs) outcome cause
    → StepsTo m (Deliver number v.name) (Absorbed outcome cause) (with_replica w i (absorbed v runs outcome))

-- two replicas of different names don't clash, and a merge of them is a step
abbrev pub MergeIsStep : Type 0
MergeIsStep = (eq : PacketReport → PacketReport → Bool) → ((x : PacketReport) → eq x x ≡ true) → ((x y : PacketReport) → eq x y ≡ true → x ≡ y)
    → (m : Machine) (w : WorldView) (i j : ℕ) (v u : ReplicaView)
    → IsCoupled m w → slice_get w.replicas i ≡ Some v → slice_get w.replicas j ≡ Some u → v.name == u.name ≡ false
    → (merge_clash eq v u ≡ None) × StepsTo m (Merge v.name u.name) (Merged Joined) (with_replica w i (merged_with v u))

-- a merge of a replica with itself is a step, and changes nothing
abbrev pub MergeWithItselfIsStep : Type 0
MergeWithItselfIsStep = (m : Machine) (w : WorldView) (n : ℕ) → IsCoupled m w → is_name m n ≡ true → StepsTo m (Merge n n) (Merged Joined) w

-- a run of steps and one step more are a run
abbrev pub RunGoesOn : Type 0
RunGoesOn = (m mid after : Machine) (steps : List Step) (replies : List Reply) (step : Step) (reply : Reply)
    → IsRun m steps replies mid → IsStep mid step reply after → IsRun m (steps ++ step ∷ []) (replies ++ reply ∷ []) after
