-- How a replica keeps its chains: by origin, each with or without room for one report more, and empty ones among them. Only the
-- inside of this crate cites it.
use Rattle.std.specs.Prelude.{◌≡◌, ℕ, ◌≤◌, Bool, true, Option, None, Some, List, [], ◌∷◌, length}
use Rattle.tca_join.specs.declared.fault.JoinFault.{JoinFault}
use Rattle.tca_join.specs.declared.fault.JoinFault.TheVariants.{Clash, Full, Memory}
use Rattle.tca_report.specs.report.Reports.{PacketReport}
use Rattle.tca_join.specs.Chains.{ChainView}
use Rattle.tca_join.specs.Maps.{get, Rises}
use Rattle.tca_accounts.specs.Plans.{AccountPlan}
use Rattle.tca_replay.specs.Books.{AreResumed, BookView, Fits}
use Rattle.tca_gossip.specs.Replicas.{ReplicaView, IsReplica, chain_of}

-- the reports of a chain, none where there is no chain
abbrev pub chain_items : Option (ChainView PacketReport) → List PacketReport
chain_items None = []
chain_items (Some c) = c.items

-- the reports that are held of an origin
abbrev pub held_of : List (ℕ × ChainView PacketReport) → ℕ → List PacketReport
held_of es origin = chain_items (get es origin)

-- a chain before others, unless it is empty
abbrev pub before_others : ℕ → List PacketReport → List (ℕ × List PacketReport) → List (ℕ × List PacketReport)
before_others origin [] others = others
before_others origin (r ∷ rs) others = (origin, r ∷ rs) ∷ others

-- the chains that hold something
abbrev pub held_in : List (ℕ × ChainView PacketReport) → List (ℕ × List PacketReport)
held_in [] = []
held_in (e ∷ es) = before_others e.0 e.1.items (held_in es)

-- a replica by what is kept
abbrev pub replica_of : ℕ → AccountPlan → List PacketReport → List (ℕ × ChainView PacketReport) → ReplicaView
replica_of name plan log chains = record { name = name; plan = plan; log = log; chains = held_in chains }

-- the own chain is no longer than the log, since each of its reports was new to the log
abbrev pub IsOwnWithin : ReplicaView → Type 0
IsOwnWithin v = length (chain_of v v.name) ≤ length v.log

-- the bill of a log under a plan: by a book, where one is kept
pub record BillingView : Type 0 where
  pub plan : AccountPlan
  pub kept : Bool
  pub book : BookView

-- a book that is kept is of this log
abbrev pub Bills : List PacketReport → BillingView → Type 0
Bills log b = b.kept ≡ true → Fits log b.book

-- a book that is kept has metered all its rows
abbrev pub IsResumed : BillingView → Type 0
IsResumed b = b.kept ≡ true → AreResumed b.book.lanes

-- a replica and its bill
pub record ContentsView : Type 0 where
  pub replica : ReplicaView
  pub billing : BillingView

-- log, chains and bill agree: the log is the set of all reports of the chains, and the bill is of that set
pub record AreContents (name : ℕ) (log : List PacketReport) (chains : List (ℕ × ChainView PacketReport)) (billing : BillingView) : Type 0 where
  pub rises : Rises chains
  pub replica : IsReplica (replica_of name billing.plan log chains)
  pub within : IsOwnWithin (replica_of name billing.plan log chains)
  pub fits : Bills log billing

-- the key that a clash names
abbrev pub clash_in : Option JoinFault → Option ℕ
clash_in None = None
clash_in (Some (Clash key)) = Some key
clash_in (Some Full) = None
clash_in (Some Memory) = None
