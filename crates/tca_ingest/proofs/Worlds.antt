-- Closed replicas are a state of a world, and equal lengths of chains give equal logs.
use Rattle.std.proofs.Common.{◌≡◌, ◌≢◌, ◌≤◌, ℕ, true, false, ◌||◌, cond, List, [], ◌∷◌, ◌==◌, length, take, map, refl, sym, ap, ◌∙◌, subst, arith, inl, inr}
use Rattle.std.proofs.lemmas.Bool.{eqb-true, eq-eqb, ne_eqb, false≢true}
use Rattle.std.proofs.lemmas.List.Elements.{recursion_from_All, All-from_recursion}
use Rattle.std.specs.List.{All, AllPairs, list_any}
use Rattle.tca_report.specs.report.Reports.{PacketReport}
use Rattle.tca_accounts.specs.Plans.{AccountPlan}
use Rattle.tca_accounts.specs.Bills.{bill_of}
use Rattle.tca_gossip.specs.Replicas.{ReplicaView, chain_of}
use Rattle.tca_gossip.specs.Holding.{Begins}
use Rattle.tca_gossip.specs.Machines.{IsWorld, Shows}
use Rattle.tca_gossip.proofs.Logs.{equal_logs}
use Rattle.tca_ingest.specs.Entries.{EntryView}
use Rattle.tca_ingest.specs.Journals.{IsHistory, own, after}
use Rattle.tca_ingest.specs.Closed.{ClosedView, replicas_of, AgreeAll, is_called, AreClosed, chain_at, world_of}
use Rattle.tca_ingest.proofs.Histories.{history_replica, history_own, history_log}
use Rattle.tca_ingest.proofs.Pairs.{Member, Pairwise, pairwise, at_member, of_members, any_two}
use Rattle.tca_ingest.proofs.Agreements.{begins_itself, begins_length, begins_take, shorter_begins, equal_chains, agree_back}

-- where a name is, and where it isn't
found : (vs : List ReplicaView) (n : ℕ) → is_called vs n ≡ true → (v : ReplicaView) × Member v vs × (v.name ≡ n) × ((o : ℕ) → chain_at vs n o ≡ chain_of v o)
unfolding chain_at
found [] n e = absurd (false≢true e)
found (x ∷ xs) n e =
    elim (x.name == n) as (λ b. x.name == n ≡ b → (b || is_called xs n) ≡ true → (v : ReplicaView) × Member v (x ∷ xs) × (v.name ≡ n) × ((o : ℕ) → cond b (chain_of x o) (chain_at xs n o) ≡ chain_of v o)) [
      | true ↦ λ is e. (x, inl refl, eqb-true x.name n is, λ o. refl)
      | false ↦ λ is e. let rest = found xs n e in (rest.0, inr rest.1, rest.2, rest.3)
    ] refl e

missing : (vs : List ReplicaView) (n o : ℕ) → is_called vs n ≡ false → chain_at vs n o ≡ []
unfolding chain_at
missing [] n o e = refl
missing (x ∷ xs) n o e =
    elim (x.name == n) as (λ b. (b || is_called xs n) ≡ false → cond b (chain_of x o) (chain_at xs n o) ≡ []) [
      | true ↦ λ e. absurd (false≢true (sym e))
      | false ↦ λ e. missing xs n o e
    ] e

by_name : {P : Type 0} (vs : List ReplicaView) (n : ℕ) → (is_called vs n ≡ true → P) → (is_called vs n ≡ false → P) → P
by_name {P} vs n here gone = elim (is_called vs n) as (λ b. is_called vs n ≡ b → P) [ true ↦ here | false ↦ gone ] refl

-- the names of the world
named_is : (vs : List ReplicaView) (n : ℕ) → list_any (λ k. k == n) (map (λ v. v.name) vs) ≡ is_called vs n
named_is [] n = refl
named_is (x ∷ xs) n = ap (λ b. x.name == n || b) (named_is xs n)

-- with distinct names each is found by its own
finds_own : (vs : List ReplicaView) (v : ReplicaView) (o : ℕ) → Pairwise (λ v w. v.name ≢ w.name) vs → Member v vs → chain_at vs v.name o ≡ chain_of v o
unfolding chain_at
finds_own [] v o h m = absurd m
finds_own (x ∷ xs) v o h m = elim m [
  | inl e ↦ ap (λ b. cond b (chain_of x o) (chain_at xs v.name o)) (eq-eqb x.name v.name (sym (ap (λ (r : ReplicaView). r.name) e))) ∙ ap (λ r. chain_of r o) (sym e)
  | inr m ↦ ap (λ b. cond b (chain_of x o) (chain_at xs v.name o)) (ne_eqb x.name v.name (at_member (λ w. x.name ≢ w.name) xs v h.0 m)) ∙ finds_own xs v o h.1 m
]

module _ (vs : List ReplicaView) (closed : AreClosed vs) where
  known : (v : ReplicaView) (o : ℕ) → Member v vs → is_called vs o ≡ false → chain_of v o ≡ []
  known v o m = at_member (λ v. (origin : ℕ) → is_called vs origin ≡ false → chain_of v origin ≡ []) vs v (recursion_from_All (λ v. (origin : ℕ) → is_called vs origin ≡ false → chain_of v origin ≡ []) vs closed.known) m o

  owner : (v w : ReplicaView) (o : ℕ) → Member v vs → Member w vs → w.name ≡ o → length (chain_of v o) ≤ length (chain_of w o)
  owner v w o m n is =
      let all = at_member (λ v. All (λ w. length (chain_of v w.name) ≤ length (chain_of w w.name)) vs) vs v (recursion_from_All (λ v. All (λ w. length (chain_of v w.name) ≤ length (chain_of w w.name)) vs) vs closed.owners) m in
      subst (λ z. length (chain_of v z) ≤ length (chain_of w z)) is (at_member (λ w. length (chain_of v w.name) ≤ length (chain_of w w.name)) vs w (recursion_from_All (λ w. length (chain_of v w.name) ≤ length (chain_of w w.name)) vs all) n)

  -- what a replica holds of an origin begins what the world has as its arrivals
  begins_arrivals : (v : ReplicaView) (o : ℕ) → Member v vs → Begins (chain_of v o) (chain_at vs o o)
  begins_arrivals v o m =
      by_name vs o
      (λ here. let at = found vs o here in
      subst (Begins (chain_of v o)) (sym (at.3 o))
      (shorter_begins (chain_of v o) (chain_of at.0 o)
      (any_two AgreeAll (λ v o. inl (begins_itself (chain_of v o))) (λ v w h o. agree_back (chain_of v o) (chain_of w o) (h o)) vs v at.0 (pairwise AgreeAll vs closed.agree) m at.1 o) (owner v at.0 o m at.1 at.2)))
      (λ gone. subst (λ (xs : List PacketReport). Begins xs (chain_at vs o o)) (sym (known v o m gone)) tt)

  within : (n o : ℕ) → length (chain_at vs n o) ≤ length (chain_at vs o o)
  within n o =
      by_name vs n
      (λ here. let at = found vs n here in
      subst (λ (xs : List PacketReport). length xs ≤ length (chain_at vs o o)) (sym (at.3 o)) (begins_length (chain_of at.0 o) (chain_at vs o o) (begins_arrivals at.0 o at.1)))
      (λ gone. subst (λ (xs : List PacketReport). length xs ≤ length (chain_at vs o o)) (sym (missing vs n o gone)) (omega arith))

  pub closed_world : IsWorld (world_of vs)
  closed_world = record { within = within; own = λ n. refl; strangers = λ o gone. missing vs o o (sym (named_is vs o) ∙ gone); sound = tt }

  shows : (v : ReplicaView) → Member v vs → Shows (world_of vs) v.name v
  shows v m = record {
    name = refl;
    chains = λ o. begins_take (chain_of v o) (chain_at vs o o) (begins_arrivals v o m) ∙ ap (λ (xs : List PacketReport). take (length xs) (chain_at vs o o)) (sym (finds_own vs v o (pairwise (λ v w. v.name ≢ w.name) vs closed.names) m));
  }

  pub closed_shows : All (λ v. Shows (world_of vs) v.name v) vs
  closed_shows = All-from_recursion (λ v. Shows (world_of vs) v.name v) vs (of_members (λ v. Shows (world_of vs) v.name v) vs shows)

-- the arrivals are what the journals list as own
pub closed_arrivals : (plan : AccountPlan) (cs : List ClosedView) → AllPairs (λ v w. v.name ≢ w.name) (replicas_of cs) → All (λ c. IsHistory plan c.replica.name c.replica c.journal) cs
    → All (λ c. (world_of (replicas_of cs)).arrivals c.replica.name ≡ own c.replica.name c.journal) cs
closed_arrivals plan cs names histories =
    All-from_recursion (λ c. (world_of (replicas_of cs)).arrivals c.replica.name ≡ own c.replica.name c.journal) cs
    (of_members (λ c. (world_of (replicas_of cs)).arrivals c.replica.name ≡ own c.replica.name c.journal) cs (λ c m.
    finds_own (replicas_of cs) c.replica c.replica.name (pairwise (λ v w. v.name ≢ w.name) (replicas_of cs) names) (its_replica cs c m)
    ∙ history_own plan c.replica.name c.replica c.journal (at_member (λ c. IsHistory plan c.replica.name c.replica c.journal) cs c (recursion_from_All (λ c. IsHistory plan c.replica.name c.replica c.journal) cs histories) m))) where
      its_replica : (cs : List ClosedView) (c : ClosedView) → Member c cs → Member c.replica (replicas_of cs)
      its_replica [] c m = m
      its_replica (d ∷ ds) c m = elim m [ inl e ↦ inl (ap (λ (x : ClosedView). x.replica) e) | inr m ↦ inr (its_replica ds c m) ]

-- equal lengths, equal logs
module _ (plan : AccountPlan) (n k : ℕ) (v w : ReplicaView) (mine other : List EntryView) (p : IsHistory plan n v mine) (r : IsHistory plan k w other) (agree : AgreeAll v w) (same : (o : ℕ) → length (chain_of v o) ≡ length (chain_of w o)) where
  pub equal_closed : v.log ≡ w.log
  equal_closed = equal_logs v w (history_replica plan n v mine p) (history_replica plan k w other r) (λ o. equal_chains (chain_of v o) (chain_of w o) (agree o) (same o))

  pub equal_bills : bill_of plan (after n mine) ≡ bill_of plan (after k other)
  equal_bills = ap (bill_of plan) (sym (history_log plan n v mine p) ∙ equal_closed ∙ history_log plan k w other r)
