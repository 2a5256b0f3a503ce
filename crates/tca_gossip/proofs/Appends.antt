-- What appending leaves in log and chains.
use Rattle.std.proofs.Common.{◌≡◌, ℕ, true, false, ◌||◌, cond, Option, None, Some, List, [], ◌∷◌, ◌++◌, ◌==◌, refl, sym, ap, ◌∙◌, append_assoc}
use Rattle.std.proofs.lemmas.List.{append-nil}
use Rattle.std.proofs.lemmas.Bool.{eq-eqb, ne_eqb, eqb-true}
use Rattle.std.specs.List.Sorted.{IsStrictlySortedBy}
use Rattle.std.specs.Ordering.{eq_by_cmp}
use Rattle.tca_report.specs.report.Reports.{PacketReport, report_cmp}
use Rattle.tca_join.specs.Sets.{has, put, in_order}
use Rattle.tca_report.proofs.lemmas.report.Order.{report_total, report_exact}
use Rattle.tca_join.proofs.Sets.{has-put, has-append, rises_put, or_assoc, or_swap}
use Rattle.tca_join.proofs.Merge.{in_order_alike, in_order_of_rising}
use Rattle.tca_join.specs.Maps.{get, Rises, join_with}
use Rattle.tca_join.specs.laws.MapLaws.{get_put, rises_put as rises_put_key}
use Rattle.tca_gossip.specs.Replicas.{ReplicaView, or_empty, chain_of, append_one, appended, of, reports_in, with_origin}

pub appended_more : (v : ReplicaView) (ps qs : List (ℕ × PacketReport)) → appended v (ps ++ qs) ≡ appended (appended v ps) qs
unfolding appended
appended_more v [] qs = refl
appended_more v (p ∷ ps) qs = appended_more (append_one v p) ps qs

pub appended_name : (v : ReplicaView) (ps : List (ℕ × PacketReport)) → (appended v ps).name ≡ v.name
unfolding appended
appended_name v [] = refl
appended_name v (p ∷ ps) = appended_name (append_one v p) ps

pub appended_plan : (v : ReplicaView) (ps : List (ℕ × PacketReport)) → (appended v ps).plan ≡ v.plan
unfolding appended
appended_plan v [] = refl
appended_plan v (p ∷ ps) = appended_plan (append_one v p) ps

pub appended_rises : (v : ReplicaView) (ps : List (ℕ × PacketReport)) → Rises v.chains → Rises (appended v ps).chains
unfolding appended
appended_rises v [] h = h
appended_rises v (p ∷ ps) h = appended_rises (append_one v p) ps (rises_put_key (λ w u. w ++ u) p.0 (p.1 ∷ []) v.chains h)

with_one : (o : Option (List PacketReport)) (r : PacketReport) → or_empty (join_with (λ w u. w ++ u) o (Some (r ∷ []))) ≡ or_empty o ++ (r ∷ [])
with_one None r = refl
with_one (Some c) r = refl

-- one more: the chain of its origin grows, the others stay
chain_one : (v : ReplicaView) (p : ℕ × PacketReport) (origin : ℕ) → Rises v.chains → chain_of (append_one v p) origin ≡ chain_of v origin ++ cond (origin == p.0) (p.1 ∷ []) []
chain_one v p origin h =
    ap or_empty (get_put (λ w u. w ++ u) p.0 (p.1 ∷ []) v.chains origin h)
    ∙ elim (origin == p.0) as (λ b. origin == p.0 ≡ b → or_empty (cond b (join_with (λ w u. w ++ u) (get v.chains p.0) (Some (p.1 ∷ []))) (get v.chains origin)) ≡ or_empty (get v.chains origin) ++ cond b (p.1 ∷ []) []) [
      | true ↦ λ is. with_one (get v.chains p.0) p.1 ∙ ap (λ z. or_empty (get v.chains z) ++ (p.1 ∷ [])) (sym (eqb-true origin p.0 is))
      | false ↦ λ is. sym (append-nil (or_empty (get v.chains origin)))
    ] refl

pub chain_appended : (v : ReplicaView) (ps : List (ℕ × PacketReport)) (origin : ℕ) → Rises v.chains → chain_of (appended v ps) origin ≡ chain_of v origin ++ of origin ps
unfolding appended of
chain_appended v [] origin h = sym (append-nil (chain_of v origin))
chain_appended v (p ∷ ps) origin h =
    chain_appended (append_one v p) ps origin (rises_put_key (λ w u. w ++ u) p.0 (p.1 ∷ []) v.chains h)
    ∙ ap (λ (l : List PacketReport). l ++ of origin ps) (chain_one v p origin h)
    ∙ append_assoc (chain_of v origin) (cond (origin == p.0) (p.1 ∷ []) []) (of origin ps)
    ∙ ap (λ (l : List PacketReport). chain_of v origin ++ l) (elim (origin == p.0) as (λ b. cond b (p.1 ∷ []) [] ++ of origin ps ≡ cond b (p.1 ∷ of origin ps) (of origin ps)) [ true ↦ refl | false ↦ refl ])

pub log_appended : (v : ReplicaView) (ps : List (ℕ × PacketReport)) → IsStrictlySortedBy report_cmp v.log → (appended v ps).log ≡ in_order report_cmp (v.log ++ reports_in ps)
unfolding appended reports_in has
log_appended v [] h = sym (ap (in_order report_cmp) (append-nil v.log) ∙ in_order_of_rising report_cmp report_total report_exact v.log h)
log_appended v (p ∷ ps) h =
    log_appended (append_one v p) ps (rises_put report_cmp report_total p.1 v.log h)
    ∙ in_order_alike report_cmp report_total report_exact (put report_cmp p.1 v.log ++ reports_in ps) (v.log ++ (p.1 ∷ reports_in ps)) (λ q.
    has-append report_cmp report_total (put report_cmp p.1 v.log) (reports_in ps) q
    ∙ ap (λ b. b || has report_cmp (reports_in ps) q) (has-put report_cmp report_total p.1 v.log q)
    ∙ or_assoc (eq_by_cmp report_cmp q p.1) (has report_cmp v.log q) (has report_cmp (reports_in ps) q)
    ∙ or_swap (eq_by_cmp report_cmp q p.1) (has report_cmp v.log q) (has report_cmp (reports_in ps) q)
    ∙ sym (has-append report_cmp report_total v.log (p.1 ∷ reports_in ps) q))

pub of_append : (origin : ℕ) (ps qs : List (ℕ × PacketReport)) → of origin (ps ++ qs) ≡ of origin ps ++ of origin qs
unfolding of
of_append origin [] qs = refl
of_append origin (p ∷ ps) qs = ap (λ (l : List PacketReport). cond (origin == p.0) (p.1 ∷ l) l) (of_append origin ps qs)
    ∙ elim (origin == p.0) as (λ b. cond b (p.1 ∷ (of origin ps ++ of origin qs)) (of origin ps ++ of origin qs) ≡ cond b (p.1 ∷ of origin ps) (of origin ps) ++ of origin qs) [ true ↦ refl | false ↦ refl ]

pub reports_append : (ps qs : List (ℕ × PacketReport)) → reports_in (ps ++ qs) ≡ reports_in ps ++ reports_in qs
unfolding reports_in
reports_append [] qs = refl
reports_append (p ∷ ps) qs = ap (λ (l : List PacketReport). p.1 ∷ l) (reports_append ps qs)

pub of_tagged : (origin : ℕ) (rs : List PacketReport) → of origin (with_origin origin rs) ≡ rs
unfolding of with_origin
of_tagged origin [] = refl
of_tagged origin (r ∷ rs) = rw (eq-eqb origin origin refl) (ap (λ (l : List PacketReport). r ∷ l) (of_tagged origin rs))

pub of_other : (origin other : ℕ) (rs : List PacketReport) → (origin ≡ other → ⊥) → of origin (with_origin other rs) ≡ []
unfolding of with_origin
of_other origin other [] apart = refl
of_other origin other (r ∷ rs) apart = rw (ne_eqb origin other apart) (of_other origin other rs apart)

pub reports_tagged : (origin : ℕ) (rs : List PacketReport) → reports_in (with_origin origin rs) ≡ rs
unfolding reports_in with_origin
reports_tagged origin [] = refl
reports_tagged origin (r ∷ rs) = ap (λ (l : List PacketReport). r ∷ l) (reports_tagged origin rs)
