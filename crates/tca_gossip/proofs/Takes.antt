-- Taking reports, and what stays true of a replica.
use Rattle.std.proofs.Common.{◌≡◌, ℕ, true, false, ◌||◌, cond, List, [], ◌∷◌, ◌++◌, refl, sym, ap, ◌∙◌, append_assoc}
use Rattle.std.specs.Ordering.{eq_by_cmp, nat_cmp}
use Rattle.std.specs.declared.cmp.Ordering.{Ordering}
use Rattle.std.specs.declared.cmp.Ordering.TheVariants.{Less, Equal, Greater}
use Rattle.std.specs.List.Sorted.{IsStrictlySortedBy}
use Rattle.tca_report.specs.report.Reports.{PacketReport, report_cmp}
use Rattle.tca_join.specs.Sets.{has, put}
use Rattle.tca_report.proofs.lemmas.report.Order.{report_total}
use Rattle.tca_join.proofs.Sets.{has-put, has-append, rises_put, or_swap}
use Rattle.tca_join.specs.laws.MapLaws.{rises_put as rises_put_key}
use Rattle.tca_join.specs.Maps.{put as put_key}
use Rattle.tca_accounts.specs.Plans.{AccountPlan}
use Rattle.tca_gossip.specs.Replicas.{ReplicaView, append_one, appended, fresh_of, with_origin, taken, take_one, take_all, all_of, IsReplica, new_replica}

-- one by one, or the new ones all at once
pub take_all_is : (v : ReplicaView) (rs : List PacketReport) → take_all v rs ≡ taken v rs
unfolding take_all fresh_of with_origin appended
take_all_is v [] = refl
take_all_is v (r ∷ rs) =
    elim (has report_cmp v.log r) as (λ b. take_all (cond b v (append_one v (v.name, r))) rs ≡ appended v (with_origin v.name (cond b (fresh_of v.log rs) (r ∷ fresh_of (put report_cmp r v.log) rs)))) [
      | true ↦ take_all_is v rs
      | false ↦ take_all_is (append_one v (v.name, r)) rs
    ]

pub take_more : (v : ReplicaView) (rs : List PacketReport) (r : PacketReport) → take_all v (rs ++ r ∷ []) ≡ take_one (take_all v rs) r
unfolding take_all
take_more v [] r = refl
take_more v (x ∷ rs) r = take_more (take_one v x) rs r

pub fresh_more : (v : ReplicaView) (rs : List PacketReport) (r : PacketReport) → fresh_of v.log (rs ++ r ∷ []) ≡ fresh_of v.log rs ++ cond (has report_cmp (take_all v rs).log r) [] (r ∷ [])
unfolding take_all fresh_of
fresh_more v [] r = refl
fresh_more v (x ∷ rs) r =
    elim (has report_cmp v.log x) as (λ b. cond b (fresh_of v.log (rs ++ r ∷ [])) (x ∷ fresh_of (put report_cmp x v.log) (rs ++ r ∷ [])) ≡ cond b (fresh_of v.log rs) (x ∷ fresh_of (put report_cmp x v.log) rs) ++ cond (has report_cmp (take_all (cond b v (append_one v (v.name, x))) rs).log r) [] (r ∷ [])) [
      | true ↦ fresh_more v rs r
      | false ↦ ap (λ (l : List PacketReport). x ∷ l) (fresh_more (append_one v (v.name, x)) rs r)
    ]

abbrev by_order : {A : Type 0} → Ordering → A → A → A → A
by_order Less a b c = a
by_order Equal a b c = b
by_order Greater a b c = c

has_one : (r : PacketReport) (xs : List PacketReport) (q : PacketReport) → has report_cmp (r ∷ xs) q ≡ (eq_by_cmp report_cmp q r || has report_cmp xs q)
unfolding has
has_one r xs q = refl

-- a report more in one of the chains
pub has_all : (origin : ℕ) (r : PacketReport) (es : List (ℕ × List PacketReport)) (q : PacketReport) → has report_cmp (all_of (put_key (λ w u. w ++ u) origin (r ∷ []) es)) q ≡ (eq_by_cmp report_cmp q r || has report_cmp (all_of es) q)
unfolding all_of
has_all origin r [] q = has_one r [] q
has_all origin r (e ∷ es) q =
    elim (nat_cmp origin e.0) as (λ o. has report_cmp (all_of (by_order o ((origin, r ∷ []) ∷ e ∷ es) ((origin, e.1 ++ (r ∷ [])) ∷ es) (e ∷ put_key (λ w u. w ++ u) origin (r ∷ []) es))) q ≡ (eq_by_cmp report_cmp q r || has report_cmp (e.1 ++ all_of es) q)) [
      | Less ↦ has_one r (e.1 ++ all_of es) q
      | Equal ↦
          ap (λ (l : List PacketReport). has report_cmp l q) (append_assoc e.1 (r ∷ []) (all_of es))
          ∙ has-append report_cmp report_total e.1 (r ∷ all_of es) q
          ∙ ap (λ b. has report_cmp e.1 q || b) (has_one r (all_of es) q)
          ∙ or_swap (has report_cmp e.1 q) (eq_by_cmp report_cmp q r) (has report_cmp (all_of es) q)
          ∙ ap (λ b. eq_by_cmp report_cmp q r || b) (sym (has-append report_cmp report_total e.1 (all_of es) q))
      | Greater ↦
          has-append report_cmp report_total e.1 (all_of (put_key (λ w u. w ++ u) origin (r ∷ []) es)) q
          ∙ ap (λ b. has report_cmp e.1 q || b) (has_all origin r es q)
          ∙ or_swap (has report_cmp e.1 q) (eq_by_cmp report_cmp q r) (has report_cmp (all_of es) q)
          ∙ ap (λ b. eq_by_cmp report_cmp q r || b) (sym (has-append report_cmp report_total e.1 (all_of es) q))
    ]

pub replica_append : (v : ReplicaView) (p : ℕ × PacketReport) → IsReplica v → IsReplica (append_one v p)
replica_append v p is = record {
  log_rises = rises_put report_cmp report_total p.1 v.log is.log_rises;
  rises = rises_put_key (λ w u. w ++ u) p.0 (p.1 ∷ []) v.chains is.rises;
  same = λ q. has-put report_cmp report_total p.1 v.log q ∙ ap (λ b. eq_by_cmp report_cmp q p.1 || b) (is.same q) ∙ sym (has_all p.0 p.1 v.chains q);
}

pub replica_opened : (plan : AccountPlan) (name : ℕ) → IsReplica (new_replica plan name)
unfolding IsStrictlySortedBy all_of
replica_opened plan name = record { log_rises = tt; rises = tt; same = λ q. refl }
