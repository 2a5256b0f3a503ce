-- How a list of replicas and a list of messages show a machine.
use Rattle.std.specs.Prelude.{◌≡◌, ℕ, List, [], ◌∷◌, ◌++◌, length, map, slice_set}
use Rattle.std.specs.List.{AllByRecursion}
use Rattle.tca_report.specs.report.Reports.{PacketReport}
use Rattle.tca_accounts.specs.Plans.{AccountPlan}
use Rattle.tca_gossip.specs.Replicas.{ReplicaView, IsReplica, new_replica}
use Rattle.tca_gossip.specs.Runs.{RunView, summary_count}
use Rattle.tca_gossip.specs.Machines.{Message, Counts, Parts, Machine, IsWorld, Shows}
use Rattle.tca_gossip.specs.Steps.{Step, Reply, IsStep, IsRun}

-- a message: counts by ascending origin, or runs
pub data MessageView : Type 0 where
  Summary : (counts : List (ℕ × ℕ)) → MessageView
  Delta : (runs : List RunView) → MessageView

-- replicas of one plan, and all messages that were sent
pub record WorldView : Type 0 where
  pub plan : AccountPlan
  pub replicas : List ReplicaView
  pub sent : List MessageView

-- a replica's name
abbrev pub name_of : ReplicaView → ℕ
name_of v = v.name

-- no name stands twice
abbrev pub AreDistinct : List ℕ → Type 0
AreDistinct [] = Unit {0}
AreDistinct (n ∷ ns) = AllByRecursion (λ k. k ≡ n → ⊥) ns × AreDistinct ns

-- a message is the machine's: its counts by origin, or its runs
abbrev pub ShowsMessage : Message → MessageView → Type 0
ShowsMessage (Counts counts) (Summary summary) = (o : ℕ) → summary_count summary o ≡ counts o
ShowsMessage (Parts runs) (Delta same) = same ≡ runs
ShowsMessage (Counts counts) (Delta runs) = ⊥
ShowsMessage (Parts runs) (Summary summary) = ⊥

abbrev pub ShowMessages : List Message → List MessageView → Type 0
ShowMessages [] [] = Unit {0}
ShowMessages (m ∷ ms) (v ∷ vs) = ShowsMessage m v × ShowMessages ms vs
ShowMessages [] (v ∷ vs) = ⊥
ShowMessages (m ∷ ms) [] = ⊥

-- each replica shows what the machine says of its name, and the messages are the machine's
pub record IsCoupled (m : Machine) (w : WorldView) : Type 0 where
  pub names : map name_of w.replicas ≡ m.names
  pub apart : AreDistinct (map name_of w.replicas)
  pub shows : AllByRecursion (λ v. Shows m v.name v) w.replicas
  pub replicas : AllByRecursion IsReplica w.replicas
  pub plans : AllByRecursion (λ v. v.plan ≡ w.plan) w.replicas
  pub sent : ShowMessages m.sent w.sent
  pub world : IsWorld m

abbrev pub with_replica : WorldView → ℕ → ReplicaView → WorldView
with_replica w i v = record { plan = w.plan; replicas = slice_set w.replicas i v; sent = w.sent }

abbrev pub with_message : WorldView → MessageView → WorldView
with_message w message = record { plan = w.plan; replicas = w.replicas; sent = w.sent ++ message ∷ [] }

-- the machine may take the step with this reply, and the world value shows it then
abbrev pub StepsTo : Machine → Step → Reply → WorldView → Type 0
StepsTo m step reply x = (after : Machine) × IsStep m step reply after × IsCoupled after x

-- and the steps of a list, one after another
abbrev pub RunsTo : Machine → List Step → List Reply → WorldView → Type 0
RunsTo m steps replies x = (after : Machine) × IsRun m steps replies after × IsCoupled after x

-- how much is held of each origin of which something is
unfoldable pub counts_of : List (ℕ × List PacketReport) → List (ℕ × ℕ)
counts_of [] = []
counts_of (c ∷ cs) = counted c.0 c.1 (counts_of cs) where
  counted : ℕ → List PacketReport → List (ℕ × ℕ) → List (ℕ × ℕ)
  counted o [] rest = rest
  counted o (r ∷ rs) rest = (o, length (r ∷ rs)) ∷ rest

-- replicas of these names that hold nothing, and no message
abbrev pub new_world : AccountPlan → List ℕ → WorldView
new_world plan names = record { plan = plan; replicas = map (new_replica plan) names; sent = [] }
