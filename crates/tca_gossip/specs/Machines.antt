-- A world of replicas: what each took for itself, how much of that each holds, and all that was ever sent.
use Rattle.std.specs.Prelude.{◌≡◌, ℕ, ◌+◌, ◌≤◌, max, Bool, false, cond, ◌==◌, Option, None, Some, List, [], ◌∷◌, ◌++◌, length, take, drop}
use Rattle.std.specs.List.{AllByRecursion, list_any}
use Rattle.tca_report.specs.report.Reports.{PacketReport}
use Rattle.tca_gossip.specs.Replicas.{ReplicaView, chain_of}
use Rattle.tca_gossip.specs.Runs.{RunView, Fault, OwnAhead, Gap, Forked, AreRuns}

-- what is sent: how much is held of each origin, or parts of the arrivals of some origins
pub data Message : Type 0 where
  Counts : (counts : ℕ → ℕ) → Message
  Parts : (runs : List RunView) → Message

-- arrivals n: what n took that was new there; held n o: how many of the arrivals of o n holds
pub record Machine : Type 0 where
  pub names : List ℕ
  pub arrivals : ℕ → List PacketReport
  pub held : ℕ → ℕ → ℕ
  pub sent : List Message

abbrev pub new_machine : List ℕ → Machine
new_machine names = record { names = names; arrivals = λ _. []; held = λ _ _. 0; sent = [] }

-- whether there is a replica of this name
abbrev pub is_name : Machine → ℕ → Bool
is_name m n = list_any (λ k. k == n) m.names

-- the chain of o at n: as many of its arrivals as n holds, from the first on
abbrev pub held_prefix : Machine → ℕ → ℕ → List PacketReport
held_prefix m n o = take (m.held n o) (m.arrivals o)

abbrev pub at_name : {A : Type 0} → ℕ → A → (ℕ → A) → ℕ → A
at_name n x f k = cond (k == n) x (f k)

-- n took these, which were new there
abbrev pub took : Machine → ℕ → List PacketReport → Machine
took m n fresh = record {
  names = m.names;
  arrivals = at_name n (m.arrivals n ++ fresh) m.arrivals;
  held = at_name n (at_name n (length (m.arrivals n) + length fresh) (m.held n)) m.held;
  sent = m.sent;
}

-- a run between two counts of what n holds
abbrev pub run_between : Machine → ℕ → ℕ → ℕ → RunView
run_between m n since o = record { origin = o; start = since; reports = drop since (held_prefix m n o) }

abbrev pub sends : Machine → Message → Machine
sends m message = record { names = m.names; arrivals = m.arrivals; held = m.held; sent = m.sent ++ message ∷ [] }

-- n holds these numbers of reports more
abbrev pub raised : Machine → ℕ → (ℕ → ℕ) → Machine
raised m n more = record { names = m.names; arrivals = m.arrivals; held = at_name n (λ o. m.held n o + more o) m.held; sent = m.sent }

-- n holds what it or the other held
abbrev pub joined : Machine → ℕ → ℕ → Machine
joined m n other = record { names = m.names; arrivals = m.arrivals; held = at_name n (λ o. max (m.held n o) (m.held other o)) m.held; sent = m.sent }

-- each run is a part of its origin's arrivals
abbrev pub IsPart : Machine → RunView → Type 0
IsPart m r = (r.start + length r.reports ≤ length (m.arrivals r.origin)) × (r.reports ≡ take (length r.reports) (drop r.start (m.arrivals r.origin)))

-- what is true of what was sent: counts may be any
abbrev pub IsSound : Machine → Message → Type 0
IsSound m (Counts counts) = Unit {0}
IsSound m (Parts runs) = AreRuns runs × AllByRecursion (IsPart m) runs

-- what is true of each world
pub record IsWorld (m : Machine) : Type 0 where
  pub within : (n o : ℕ) → m.held n o ≤ length (m.arrivals o)
  pub own : (n : ℕ) → m.held n n ≡ length (m.arrivals n)
  pub strangers : (o : ℕ) → is_name m o ≡ false → m.arrivals o ≡ []
  pub sound : AllByRecursion (IsSound m) m.sent

-- the replica of name n is what the machine says
pub record Shows (m : Machine) (n : ℕ) (v : ReplicaView) : Type 0 where
  pub name : v.name ≡ n
  pub chains : (o : ℕ) → chain_of v o ≡ held_prefix m n o

-- why a part may be refused: never forked, and never ahead of its owner
abbrev pub IsGapFault : Option Fault → Type 0
IsGapFault None = Unit {0}
IsGapFault (Some (OwnAhead have said)) = ⊥
IsGapFault (Some (Gap origin have from)) = Unit {0}
IsGapFault (Some (Forked origin at)) = ⊥
