-- What a replica holds: for each origin a chain of reports, in the order in which they came there, and the set of them all.
use Rattle.std.specs.Prelude.{◌≡◌, ℕ, Bool, cond, nat_lt, ◌==◌, Option, None, Some, List, [], ◌∷◌, ◌++◌, length}
use Rattle.std.specs.List.Sorted.{IsStrictlySortedBy}
use Rattle.tca_report.specs.report.Reports.{PacketReport, report_cmp}
use Rattle.tca_join.specs.Sets.{has, put, in_order}
use Rattle.tca_join.specs.Maps.{get, Rises, clash_key}
use Rattle.tca_join.specs.Maps.{put as put_key, merged}
use Rattle.tca_join.specs.Chains.{differ_at, longer}
use Rattle.tca_log.specs.LogJoin.{log_full}
use Rattle.tca_accounts.specs.Plans.{AccountPlan}

-- a replica's name and plan, its chains by ascending origin, and its log
pub record ReplicaView : Type 0 where
  pub name : ℕ
  pub plan : AccountPlan
  pub log : List PacketReport
  pub chains : List (ℕ × List PacketReport)

abbrev pub or_empty : Option (List PacketReport) → List PacketReport
or_empty None = []
or_empty (Some chain) = chain

-- the chain of an origin, empty where nothing is held
abbrev pub chain_of : ReplicaView → ℕ → List PacketReport
chain_of v origin = or_empty (get v.chains origin)

-- a replica that holds nothing
abbrev pub new_replica : AccountPlan → ℕ → ReplicaView
new_replica plan name = record { name = name; plan = plan; log = []; chains = [] }

-- with one report more at the end of its origin's chain, and in the log
abbrev pub append_one : ReplicaView → ℕ × PacketReport → ReplicaView
append_one v p = record { name = v.name; plan = v.plan; log = put report_cmp p.1 v.log; chains = put_key (λ w u. w ++ u) p.0 (p.1 ∷ []) v.chains }

-- with these, one after another
unfoldable pub appended : ReplicaView → List (ℕ × PacketReport) → ReplicaView
appended v [] = v
appended v (p ∷ ps) = appended (append_one v p) ps

-- the reports that are new to a set at their turn: neither in it nor at an earlier place of the list
unfoldable pub fresh_of : List PacketReport → List PacketReport → List PacketReport
fresh_of log [] = []
fresh_of log (r ∷ rs) = cond (has report_cmp log r) (fresh_of log rs) (r ∷ fresh_of (put report_cmp r log) rs)

-- reports of one origin
unfoldable pub with_origin : ℕ → List PacketReport → List (ℕ × PacketReport)
with_origin origin [] = []
with_origin origin (r ∷ rs) = (origin, r) ∷ with_origin origin rs

-- after a take of reports: those that are new at their turn stand at the end of the own chain
abbrev pub taken : ReplicaView → List PacketReport → ReplicaView
taken v rs = appended v (with_origin v.name (fresh_of v.log rs))

-- after a merge: of the two chains of each origin the longer, and the union of the logs
abbrev pub merged_with : ReplicaView → ReplicaView → ReplicaView
merged_with v w = record { name = v.name; plan = v.plan; log = in_order report_cmp (v.log ++ w.log); chains = merged longer v.chains w.chains }

-- all reports of all chains
unfoldable pub all_of : List (ℕ × List PacketReport) → List PacketReport
all_of [] = []
all_of (c ∷ cs) = c.1 ++ all_of cs

-- of reports with their origins, those of one origin
unfoldable pub of : ℕ → List (ℕ × PacketReport) → List PacketReport
of origin [] = []
of origin (p ∷ ps) = cond (origin == p.0) (p.1 ∷ of origin ps) (of origin ps)

-- and those of all
unfoldable pub reports_in : List (ℕ × PacketReport) → List PacketReport
reports_in [] = []
reports_in (p ∷ ps) = p.1 ∷ reports_in ps

-- the log is the set of the reports of all chains
pub record IsReplica (v : ReplicaView) : Type 0 where
  pub log_rises : IsStrictlySortedBy report_cmp v.log
  pub rises : Rises v.chains
  pub same : (q : PacketReport) → has report_cmp v.log q ≡ has report_cmp (all_of v.chains) q

-- after one report, which may be there
abbrev pub take_one : ReplicaView → PacketReport → ReplicaView
take_one v r = cond (has report_cmp v.log r) v (append_one v (v.name, r))

-- after reports one by one
unfoldable pub take_all : ReplicaView → List PacketReport → ReplicaView
take_all v [] = v
take_all v (r ∷ rs) = take_all (take_one v r) rs

-- the least of two origins that may be missing
abbrev pub least_of : Option ℕ → Option ℕ → Option ℕ
least_of None b = b
least_of (Some k) None = Some k
least_of (Some k) (Some n) = Some (cond (nat_lt n k) n k)

-- the origin at which a merge clashes: two chains of it differ, or it is the own name and the other holds more of it
abbrev pub merge_clash : (PacketReport → PacketReport → Bool) → ReplicaView → ReplicaView → Option ℕ
merge_clash eq v w = least_of (clash_key (differ_at eq) v.chains w.chains) (cond (nat_lt (length (chain_of v v.name)) (length (chain_of w v.name))) (Some v.name) None)

-- whether the union of the logs is above the limit
abbrev pub merge_full : ReplicaView → ReplicaView → Bool
merge_full v w = log_full v.log w.log
