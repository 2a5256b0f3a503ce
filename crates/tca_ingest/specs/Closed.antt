-- Replicas that nobody shares any more, and the state of a world that they are.
use Rattle.std.specs.Prelude.{◌≡◌, ◌≢◌, ◌≤◌, ◌<◌, ℕ, ◌==◌, Bool, false, cond, Option, None, Some, List, [], ◌∷◌, length, map}
use Rattle.std.specs.List.{All, AllPairs, list_any}
use Rattle.tca_report.specs.report.Reports.{PacketReport}
use Rattle.tca_join.specs.Maps.{clash_key}
use Rattle.tca_join.specs.Chains.{differ_at}
use Rattle.tca_gossip.specs.Replicas.{ReplicaView, chain_of, least_of}
use Rattle.tca_gossip.specs.Runs.{same_report}
use Rattle.tca_gossip.specs.Holding.{Agree}
use Rattle.tca_gossip.specs.Machines.{Machine}
use Rattle.tca_ingest.specs.Entries.{EntryView}

-- a replica whose passes were given back, with its journal
pub record ClosedView : Type 0 where
  pub replica : ReplicaView
  pub journal : List EntryView

abbrev pub replicas_of : List ClosedView → List ReplicaView
replicas_of cs = map (λ c. c.replica) cs

-- of an origin the two chains agree: one begins with the other
abbrev pub AgreeAt : ℕ → ReplicaView → ReplicaView → Type 0
AgreeAt origin v w = Agree (chain_of v origin) (chain_of w origin)

-- of each origin
abbrev pub AgreeAll : ReplicaView → ReplicaView → Type 0
AgreeAll v w = (origin : ℕ) → AgreeAt origin v w

-- the least origin of which two chains don't agree
pub record IsLeastClash (vs : List ReplicaView) (origin : ℕ) : Type 0 where
  pub here : AllPairs (AgreeAt origin) vs → ⊥
  pub least : (lower : ℕ) → lower < origin → AllPairs (AgreeAt lower) vs

-- whether and where chains of replicas clash
abbrev pub IsClash : List ReplicaView → Option ℕ → Type 0
IsClash vs None = AllPairs AgreeAll vs
IsClash vs (Some origin) = IsLeastClash vs origin

-- that origin as a program finds it: chains are compared origin by origin, each replica's with those after it
unfoldable pub clash_among : ReplicaView → List ReplicaView → Option ℕ
clash_among v [] = None
clash_among v (w ∷ ws) = least_of (clash_key (differ_at same_report) v.chains w.chains) (clash_among v ws)

unfoldable pub clash_all : List ReplicaView → Option ℕ
clash_all [] = None
clash_all (v ∷ vs) = least_of (clash_among v vs) (clash_all vs)

abbrev pub is_called : List ReplicaView → ℕ → Bool
is_called vs n = list_any (λ v. v.name == n) vs

-- Names differ; of each origin any two chains agree; what isn't a name isn't held as an origin; and none holds more of a name than
-- its owner.
pub record AreClosed (vs : List ReplicaView) : Type 0 where
  pub names : AllPairs (λ v w. v.name ≢ w.name) vs
  pub agree : AllPairs AgreeAll vs
  pub known : All (λ v. (origin : ℕ) → is_called vs origin ≡ false → chain_of v origin ≡ []) vs
  pub owners : All (λ v. All (λ w. length (chain_of v w.name) ≤ length (chain_of w w.name)) vs) vs

-- the chain of an origin at the replica of a name, and nothing where there is none
unfoldable pub chain_at : List ReplicaView → ℕ → ℕ → List PacketReport
chain_at [] n origin = []
chain_at (v ∷ vs) n origin = cond (v.name == n) (chain_of v origin) (chain_at vs n origin)

-- the world in which the own chains are the arrivals, and each name holds as much as its replica
abbrev pub world_of : List ReplicaView → Machine
world_of vs = record { names = map (λ v. v.name) vs; arrivals = λ n. chain_at vs n n; held = λ n origin. length (chain_at vs n origin); sent = [] }
