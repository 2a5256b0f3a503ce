-- Replicas with equal chains hold equal logs.
use Rattle.std.proofs.Common.{◌≡◌, ℕ, Bool, true, false, ◌||◌, cond, None, Some, List, [], ◌∷◌, ◌==◌, refl, sym, ◌∙◌, subst, inl, inr}
use Rattle.std.proofs.lemmas.Bool.{eq-eqb, eqb-true, false≢true, or_left, or_right, or_cases}
use Rattle.tca_report.specs.report.Reports.{PacketReport, report_cmp}
use Rattle.tca_join.specs.Sets.{has}
use Rattle.tca_report.proofs.lemmas.report.Order.{report_total, report_exact}
use Rattle.tca_join.proofs.Sets.{has-append, only_one}
use Rattle.tca_join.specs.Maps.{get, Rises}
use Rattle.tca_join.specs.laws.MapLaws.{not_there}
use Rattle.tca_gossip.specs.Replicas.{ReplicaView, or_empty, chain_of, all_of, IsReplica}
use Rattle.tca_gossip.specs.Machines.{Machine, Shows}
use Rattle.tca_gossip.proofs.Worlds.{equal_counts}

pub none_has : (q : PacketReport) → has report_cmp [] q ≡ true → ⊥
unfolding has
none_has q e = false≢true e

pub all_has : (es : List (ℕ × List PacketReport)) (o : ℕ) (q : PacketReport) → has report_cmp (or_empty (get es o)) q ≡ true → has report_cmp (all_of es) q ≡ true
unfolding all_of
all_has [] o q e = absurd (none_has q e)
all_has (c ∷ cs) o q e =
    has-append report_cmp report_total c.1 (all_of cs) q
    ∙ elim (o == c.0) as (λ b. has report_cmp (or_empty (cond b (Some c.1) (get cs o))) q ≡ true → (has report_cmp c.1 q || has report_cmp (all_of cs) q) ≡ true) [
      | true ↦ λ e. or_left (has report_cmp c.1 q) (has report_cmp (all_of cs) q) e
      | false ↦ λ e. or_right (has report_cmp c.1 q) (has report_cmp (all_of cs) q) (all_has cs o q e)
    ] e

pub some_has : (es : List (ℕ × List PacketReport)) (q : PacketReport) → Rises es → has report_cmp (all_of es) q ≡ true → (o : ℕ) × (has report_cmp (or_empty (get es o)) q ≡ true)
unfolding all_of
some_has [] q r e = absurd (none_has q e)
some_has (c ∷ cs) q r e =
    elim (or_cases (has report_cmp c.1 q) (has report_cmp (all_of cs) q) (sym (has-append report_cmp report_total c.1 (all_of cs) q) ∙ e)) [
      | inl h ↦ (c.0, rw (eq-eqb c.0 c.0 refl) h)
      | inr h ↦ let rest = some_has cs q r.1 h in (
        rest.0,
        elim (rest.0 == c.0) as (λ b. rest.0 == c.0 ≡ b → has report_cmp (or_empty (cond b (Some c.1) (get cs rest.0))) q ≡ true) [
          | true ↦ λ is. absurd (none_has q (subst (λ o. has report_cmp (or_empty o) q ≡ true) (subst (λ z. get cs z ≡ None) (sym (eqb-true rest.0 c.0 is)) (not_there cs c.0 r.0)) rest.1))
          | false ↦ λ is. rest.1
        ] refl,
      )
    ]

pub same_test : (a b : Bool) → (a ≡ true → b ≡ true) → (b ≡ true → a ≡ true) → a ≡ b
same_test true b f g = sym (f refl)
same_test false true f g = g refl
same_test false false f g = refl

pub equal_logs : (v w : ReplicaView) → IsReplica v → IsReplica w → ((o : ℕ) → chain_of v o ≡ chain_of w o) → v.log ≡ w.log
equal_logs v w p r same =
    only_one report_cmp report_total report_exact v.log w.log p.log_rises r.log_rises (λ q.
    p.same q
    ∙ same_test (has report_cmp (all_of v.chains) q) (has report_cmp (all_of w.chains) q)
    (λ e. let found = some_has v.chains q p.rises e in all_has w.chains found.0 q (subst (λ (l : List PacketReport). has report_cmp l q ≡ true) (same found.0) found.1))
    (λ e. let found = some_has w.chains q r.rises e in all_has v.chains found.0 q (subst (λ (l : List PacketReport). has report_cmp l q ≡ true) (sym (same found.0)) found.1))
    ∙ sym (r.same q))

pub equal_in_world : (m : Machine) (n k : ℕ) (v w : ReplicaView) → IsReplica v → IsReplica w → Shows m n v → Shows m k w → ((o : ℕ) → m.held n o ≡ m.held k o) → v.log ≡ w.log
equal_in_world m n k v w p r v-shows w-shows same = equal_logs v w p r (equal_counts m n k v w v-shows w-shows same)
