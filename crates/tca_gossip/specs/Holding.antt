-- What one replica holds beside another, and what a merge comes to.
use Rattle.std.specs.Prelude.{◌≡◌, ◌⊎◌, ℕ, ◌<◌, ◌≤◌, Bool, true, None, Some, List, [], ◌∷◌, length}
use Rattle.tca_report.specs.report.Reports.{PacketReport, report_cmp}
use Rattle.tca_join.specs.Sets.{has}
use Rattle.tca_gossip.specs.Replicas.{ReplicaView, IsReplica, chain_of, merge_clash, merged_with}

-- the second chain begins with the first
abbrev pub Begins : List PacketReport → List PacketReport → Type 0
Begins [] ys = Unit {0}
Begins (x ∷ xs) [] = ⊥
Begins (x ∷ xs) (y ∷ ys) = (x ≡ y) × Begins xs ys

-- one of two chains begins with the other
abbrev pub Agree : List PacketReport → List PacketReport → Type 0
Agree xs ys = Begins xs ys ⊎ Begins ys xs

-- the second replica holds all that the first does
pub record IsBelow (v w : ReplicaView) : Type 0 where
  pub chains : (o : ℕ) → Begins (chain_of v o) (chain_of w o)
  pub log : (q : PacketReport) → has report_cmp v.log q ≡ true → has report_cmp w.log q ≡ true

-- two replicas hold the same, under whatever names
pub record HoldSame (v w : ReplicaView) : Type 0 where
  pub chains : v.chains ≡ w.chains
  pub log : v.log ≡ w.log

-- the first may take in what the second holds: the chains of each origin agree, and the second holds no more of the first's name
pub record MayTakeIn (v w : ReplicaView) : Type 0 where
  pub chains : (o : ℕ) → Agree (chain_of v o) (chain_of w o)
  pub own : length (chain_of w v.name) ≤ length (chain_of v v.name)

-- each may take in what the other holds
abbrev pub AreCompatible : ReplicaView → ReplicaView → Type 0
AreCompatible v w = MayTakeIn v w × MayTakeIn w v

-- an origin for which the first may not take in what the second holds
abbrev pub IsAtFault : ReplicaView → ReplicaView → ℕ → Type 0
IsAtFault v w o = (Agree (chain_of v o) (chain_of w o) → ⊥) ⊎ ((o ≡ v.name) × (length (chain_of v o) < length (chain_of w o)))

-- the least such origin
pub record IsLeastFault (v w : ReplicaView) (o : ℕ) : Type 0 where
  pub here : IsAtFault v w o
  pub below : (p : ℕ) → p < o → IsAtFault v w p → ⊥

module _ (eq : PacketReport → PacketReport → Bool) where
  -- a merge doesn't clash where the first may take in what the second holds
  abbrev pub JoinsWhereItMay : Type 0
  JoinsWhereItMay = (v w : ReplicaView) → IsReplica v → IsReplica w → MayTakeIn v w → merge_clash eq v w ≡ None

  -- and only there
  abbrev pub MayWhereItJoins : Type 0
  MayWhereItJoins = (v w : ReplicaView) → IsReplica v → IsReplica w → merge_clash eq v w ≡ None → MayTakeIn v w

  -- where it clashes, then at the least origin at fault
  abbrev pub ClashesAtLeast : Type 0
  ClashesAtLeast = (v w : ReplicaView) (o : ℕ) → IsReplica v → IsReplica w → merge_clash eq v w ≡ Some o → IsLeastFault v w o

-- a merge of compatible replicas is a replica: its log is the set of the reports of its chains
abbrev pub MergeStays : Type 0
MergeStays = (v w : ReplicaView) → IsReplica v → IsReplica w → AreCompatible v w → IsReplica (merged_with v w)

-- either way round, compatible replicas hold the same then
abbrev pub MergeCommutes : Type 0
MergeCommutes = (v w : ReplicaView) → IsReplica v → IsReplica w → AreCompatible v w → HoldSame (merged_with v w) (merged_with w v)

-- of three of which each two are compatible the first two or the last two may be merged first: the third is compatible with what
-- comes of it, and all hold the same then
abbrev pub MergeAssociates : Type 0
MergeAssociates = (v w u : ReplicaView) → IsReplica v → IsReplica w → IsReplica u → AreCompatible v w → AreCompatible v u → AreCompatible w u
    → AreCompatible (merged_with v w) u × AreCompatible v (merged_with w u) × HoldSame (merged_with (merged_with v w) u) (merged_with v (merged_with w u))

-- a replica is compatible with itself, and a merge with itself changes nothing
abbrev pub MergeAgain : Type 0
MergeAgain = (v : ReplicaView) → IsReplica v → AreCompatible v v × HoldSame (merged_with v v) v

-- a merge holds all that either did
abbrev pub MergeAbove : Type 0
MergeAbove = (v w : ReplicaView) → IsReplica v → IsReplica w → AreCompatible v w → IsBelow v (merged_with v w) × IsBelow w (merged_with v w)

-- and no more than any replica that holds all that either did
abbrev pub MergeLeast : Type 0
MergeLeast = (v w u : ReplicaView) → IsReplica v → IsReplica w → IsReplica u → IsBelow v u → IsBelow w u → IsBelow (merged_with v w) u
