-- Going through a list of reports that are taken.
use Rattle.std.proofs.Common.{◌≡◌, ℕ, suc, zero, ◌+◌, ◌<◌, Bool, true, false, not, cond, List, [], ◌∷◌, ◌++◌, length, take, get_or, slice_get, Some, subst, refl, sym, ap, ◌∙◌, arith, length-append}
use Rattle.std.proofs.lemmas.Option.{slice_get_read}
use Rattle.tca_report.specs.report.Reports.{PacketReport, report_cmp}
use Rattle.tca_join.specs.Sets.{has}
use Rattle.tca_gossip.specs.Replicas.{ReplicaView, take_all, take_one, fresh_of}
use Rattle.tca_gossip.proofs.Takes.{take_more, fresh_more}

pub take_next : {A : Type 0} (xs : List A) (i : ℕ) (x : A) → i < length xs → x ≡ get_or xs i x → take (i + 1) xs ≡ take i xs ++ x ∷ []
take_next [] i x h is = absurd (omega arith)
take_next (y ∷ xs) zero x h is = λ j. (sym is j) ∷ []
take_next (y ∷ xs) (suc i) x h is = ap (λ n. take n (y ∷ xs)) (more i) ∙ ap (λ l. y ∷ l) (take_next xs i x (omega arith) is) where
  more : (i : ℕ) → suc i + 1 ≡ suc (i + 1)
  more i = omega arith

module _ (old now new : ReplicaView) (reports : List PacketReport) (i : ℕ) (r : PacketReport) (h : i < length reports) (is : r ≡ get_or reports i r) (so_far : now ≡ take_all old (take i reports)) where
  pub state_step : new ≡ take_one now r → new ≡ take_all old (take (i + 1) reports)
  state_step e = e ∙ ap (λ v. take_one v r) so_far ∙ sym (take_more old (take i reports) r) ∙ ap (take_all old) (sym (take_next reports i r h is))

  count_is : length (fresh_of old.log (take (i + 1) reports)) ≡ length (fresh_of old.log (take i reports)) + length (cond (has report_cmp now.log r) [] (r ∷ []))
  count_is =
      ap (λ l. length (fresh_of old.log l)) (take_next reports i r h is)
      ∙ ap length (fresh_more old (take i reports) r)
      ∙ length-append (fresh_of old.log (take i reports)) (cond (has report_cmp (take_all old (take i reports)).log r) [] (r ∷ []))
      ∙ ap (λ (v : ReplicaView). length (fresh_of old.log (take i reports)) + length (cond (has report_cmp v.log r) [] (r ∷ []))) (sym so_far)

  pub fresh_step : (fresh : ℕ) (b : Bool) → fresh ≡ length (fresh_of old.log (take i reports)) → b ≡ not (has report_cmp now.log r) → b ≡ true → fresh + 1 ≡ length (fresh_of old.log (take (i + 1) reports))
  fresh_step fresh b e is told =
      elim (has report_cmp now.log r) as (λ c. b ≡ not c → length (fresh_of old.log (take (i + 1) reports)) ≡ length (fresh_of old.log (take i reports)) + length (cond c [] (r ∷ [])) → fresh + 1 ≡ length (fresh_of old.log (take (i + 1) reports))) [
        | true ↦ λ is m. absurd cc
        | false ↦ λ is m. omega (arith, e, m)
      ] is count_is

  pub stale_step : (fresh : ℕ) (b : Bool) → fresh ≡ length (fresh_of old.log (take i reports)) → b ≡ not (has report_cmp now.log r) → b ≡ false → fresh ≡ length (fresh_of old.log (take (i + 1) reports))
  stale_step fresh b e is told =
      elim (has report_cmp now.log r) as (λ c. b ≡ not c → length (fresh_of old.log (take (i + 1) reports)) ≡ length (fresh_of old.log (take i reports)) + length (cond c [] (r ∷ [])) → fresh ≡ length (fresh_of old.log (take (i + 1) reports))) [
        | true ↦ λ is m. omega (arith, e, m)
        | false ↦ λ is m. absurd cc
      ] is count_is

pub at_start : (v : ReplicaView) → v ≡ take_all v []
unfolding take_all
at_start v = refl

pub none_at_start : (l : List PacketReport) → 0 ≡ length (fresh_of l [])
unfolding fresh_of
none_at_start l = refl

-- what holds of the report that a take stops before
pub at_stop : (P : PacketReport → Type 0) (reports : List PacketReport) (i taken : ℕ) (x : PacketReport) → i < length reports → x ≡ get_or reports i x → taken ≡ i → P x → (r : PacketReport) → slice_get reports taken ≡ Some r → P r
at_stop P reports i taken x h is count holds r e =
    let found : Some x ≡ Some r = sym (slice_get_read reports (length reports) i x refl h is) ∙ ap (slice_get reports) (sym count) ∙ e in
    let one : x ≡ r = cc in
    subst P one holds
