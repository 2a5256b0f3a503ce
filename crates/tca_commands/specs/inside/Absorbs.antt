-- What the replicas of a bill absorb of each other.
use Rattle.std.specs.Prelude.{◌≡◌, ℕ, List, [], ◌∷◌, ◌++◌, Ok, length, map}
use Rattle.std.specs.List.{All, AllPairs, range_with_len}
use Rattle.tca_accounts.specs.Plans.{AccountPlan}
use Rattle.tca_gossip.specs.Replicas.{ReplicaView, appended, chain_of}
use Rattle.tca_gossip.specs.Runs.{delta_of, rests, summary_count}
use Rattle.tca_gossip.specs.Coupling.{counts_of}
use Rattle.tca_ingest.specs.Entries.{EntryView, Asked, Absorbed}
use Rattle.tca_ingest.specs.Passes.{PassView, calls_of}
use Rattle.tca_ingest.specs.Shares.{IsReplayed, with_call}
use Rattle.tca_ingest.specs.Closed.{AgreeAll, ClosedView, replicas_of}

-- a replica with what it lacked of another one: of each chain that is longer there, the rest
abbrev pub with_lacking : ReplicaView → ReplicaView → ReplicaView
with_lacking v other = appended v (rests (chain_of v) (delta_of (summary_count (counts_of v.chains)) other.chains))

-- by a pass a shared replica said how long its chains are, and then absorbed all that another replica holds past that
pub record Absorbs (other : ReplicaView) (mine mine' : PassView) : Type 0 where
  pub summary : List (ℕ × ℕ)
  pub count : ℕ
  pub calls : mine' ≡ with_call (with_call mine (Asked mine.number summary)) (Absorbed mine.number (delta_of (summary_count summary) other.chains) (Ok count))

-- and so of each of these replicas, in order
abbrev pub AbsorbsEach : List ReplicaView → PassView → PassView → Type 0
AbsorbsEach [] mine mine' = mine' ≡ mine
AbsorbsEach (other ∷ others) mine mine' = (between : PassView) × Absorbs other mine between × AbsorbsEach others between mine'

-- a pass that did just that, as the journal has it
pub record HasAbsorbed (others : List ReplicaView) (journal : List EntryView) : Type 0 where
  pub pass : PassView
  pub calls : calls_of pass.number journal ≡ pass.calls
  pub absorbed : AbsorbsEach others (record { number = pass.number; calls = [] }) pass

-- a closed replica with what it lacked of another one
abbrev pub closed_with : ReplicaView → ClosedView → ClosedView
closed_with other c = record { replica = with_lacking c.replica other; journal = c.journal }

-- All replicas of a bill: the others with what they lacked of the first, and the first behind them. Of each origin, any two chains
-- agree.
pub record AreAgreed (first : ClosedView) (others all : List ClosedView) : Type 0 where
  pub each : all ≡ map (closed_with first.replica) others ++ first ∷ []
  pub agree : AllPairs AgreeAll (replicas_of all)

abbrev pub names_of : List ClosedView → List ℕ
names_of cs = map (λ c. c.replica.name) cs

-- a closed replica under this plan is what the calls of its journal make of it, and what the journal says of each call is right
abbrev pub HasRightJournal : AccountPlan → ClosedView → Type 0
HasRightJournal plan c = IsReplayed plan c.replica.name c.replica c.journal

-- The replicas of a bill in the end, so many: the first, named 1, and the others, named from 2 on, had right journals when they were
-- closed; the first, as its own says, absorbed what each other one held; and then all agreed.
pub record AreJoined (plan : AccountPlan) (replicas : ℕ) (all : List ClosedView) : Type 0 where
  pub first : ClosedView
  pub others : List ClosedView
  pub right : IsReplayed plan 1 first.replica first.journal
  pub names : names_of others ≡ range_with_len 2 (length others)
  pub others_right : All (HasRightJournal plan) others
  pub absorbed : HasAbsorbed (replicas_of others) first.journal
  pub agreed : AreAgreed first others all
  pub many : length all ≡ replicas
