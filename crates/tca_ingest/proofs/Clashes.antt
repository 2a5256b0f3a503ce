-- The least origin at which closed replicas clash.
use Rattle.std.proofs.Common.{◌≡◌, ◌↔◌, ◌<◌, ◌≤◌, ℕ, true, false, cond, Option, None, Some, List, [], ◌∷◌, nat_lt, refl, arith}
use Rattle.std.proofs.lemmas.Bool.{ltb-true, ltb-false}
use Rattle.std.proofs.lemmas.List.Elements.{recursion_from_All}
use Rattle.std.specs.List.{All, AllByRecursion}
use Rattle.tca_report.specs.report.Reports.{PacketReport}
use Rattle.tca_join.specs.Maps.{get, clash_key}
use Rattle.tca_join.specs.laws.MapLaws.{clash_at, clash_nowhere}
use Rattle.tca_join.specs.Chains.{differ_at}
use Rattle.tca_join.proofs.Firsts.{clash_is_least}
use Rattle.tca_gossip.specs.Replicas.{ReplicaView, IsReplica, least_of}
use Rattle.tca_gossip.specs.Runs.{same_report}
use Rattle.tca_ingest.specs.Closed.{AgreeAt, AgreeAll, IsClash, clash_among, clash_all}
use Rattle.tca_ingest.proofs.Pairs.{Pairwise, pairwise, from_pairwise}
use Rattle.tca_ingest.proofs.Agreements.{agree_clash, clash_agree}

-- P holds everywhere, or the number is the least at which it doesn't
abbrev Tells : (ℕ → Type 0) → Option ℕ → Type 0
Tells P None = (q : ℕ) → P q
Tells P (Some k) = (P k → ⊥) × ((q : ℕ) → q < k → P q)

tells_both : (P Q : ℕ → Type 0) (a b : Option ℕ) → Tells P a → Tells Q b → Tells (λ q. P q × Q q) (least_of a b)
tells_both P Q None None p r = λ q. (p q, r q)
tells_both P Q None (Some n) p r = ((λ h. r.0 h.1), λ q l. (p q, r.1 q l))
tells_both P Q (Some k) None p r = ((λ h. p.0 h.0), λ q l. (p.1 q l, r q))
tells_both P Q (Some k) (Some n) p r =
    elim (nat_lt n k) as (λ b. nat_lt n k ≡ b → Tells (λ q. P q × Q q) (Some (cond b n k))) [
      | true ↦ λ is. let low : n < k = ltb-true n k is in ((λ h. r.0 h.1), λ q l. (p.1 q (omega (arith, l, low)), r.1 q l))
      | false ↦ λ is. let low : k ≤ n = ltb-false n k is in ((λ h. p.0 h.0), λ q l. (p.1 q l, r.1 q (omega (arith, l, low))))
    ] refl

two_tell : (v w : ReplicaView) → IsReplica w → Tells (λ q. AgreeAt q v w) (clash_key (differ_at same_report) v.chains w.chains)
two_tell v w r = replayed (clash_key (differ_at same_report) v.chains w.chains) refl where
  replayed : (c : Option ℕ) → clash_key (differ_at same_report) v.chains w.chains ≡ c → Tells (λ q. AgreeAt q v w) c
  replayed None e = λ q. clash_agree (get v.chains q) (get w.chains q) (clash_at (differ_at same_report) v.chains w.chains q e)
  replayed (Some k) e =
      let first = clash_is_least (List PacketReport) (differ_at same_report) v.chains w.chains k r.rises e in
      ((λ agree. first.here (agree_clash (get v.chains k) (get w.chains k) agree)), λ q l. clash_agree (get v.chains q) (get w.chains q) (first.below q l))

among_tells : (v : ReplicaView) (ws : List ReplicaView) → AllByRecursion IsReplica ws → Tells (λ q. AllByRecursion (AgreeAt q v) ws) (clash_among v ws)
unfolding clash_among
among_tells v [] h = λ q. tt
among_tells v (w ∷ ws) h = tells_both (λ q. AgreeAt q v w) (λ q. AllByRecursion (AgreeAt q v) ws) (clash_key (differ_at same_report) v.chains w.chains) (clash_among v ws) (two_tell v w h.0) (among_tells v ws h.1)

all_tells : (vs : List ReplicaView) → AllByRecursion IsReplica vs → Tells (λ q. Pairwise (AgreeAt q) vs) (clash_all vs)
unfolding clash_all
all_tells [] h = λ q. tt
all_tells (v ∷ vs) h = tells_both (λ q. AllByRecursion (AgreeAt q v) vs) (λ q. Pairwise (AgreeAt q) vs) (clash_among v vs) (clash_all vs) (among_tells v vs h.1) (all_tells vs h.1)

pub clash_is : (vs : List ReplicaView) → All IsReplica vs → IsClash vs (clash_all vs)
clash_is vs all = replayed (clash_all vs) (all_tells vs (recursion_from_All IsReplica vs all)) where
  replayed : (c : Option ℕ) → Tells (λ q. Pairwise (AgreeAt q) vs) c → IsClash vs c
  replayed None h = λ i j d lt within q. from_pairwise (AgreeAt q) vs (h q) i j d lt within
  replayed (Some k) h = record { here = λ pairs. h.0 (pairwise (AgreeAt k) vs pairs); least = λ q l. from_pairwise (AgreeAt q) vs (h.1 q l) }

-- the test of two replicas
pub agree_is : (v w : ReplicaView) → IsReplica w → (clash_key (differ_at same_report) v.chains w.chains ≡ None) ↔ AgreeAll v w
agree_is v w r = (
  (λ e q. clash_agree (get v.chains q) (get w.chains q) (clash_at (differ_at same_report) v.chains w.chains q e)),
  (λ h. clash_nowhere (differ_at same_report) v.chains w.chains r.rises (λ q. agree_clash (get v.chains q) (get w.chains q) (h q))),
)
