-- A merge's log is the set of its chains, where no chains clash.
use Rattle.std.proofs.Common.{◌≡◌, ℕ, Bool, true, false, ◌||◌, cond, Option, None, Some, List, [], ◌∷◌, ◌++◌, refl, sym, ap, ◌∙◌, inl, inr}
use Rattle.std.proofs.lemmas.Bool.{or_left, or_right, or_cases}
use Rattle.std.specs.Ordering.{eq_by_cmp}
use Rattle.tca_report.specs.report.Reports.{PacketReport, report_cmp}
use Rattle.tca_join.specs.Sets.{has}
use Rattle.tca_report.proofs.lemmas.report.Order.{report_total}
use Rattle.tca_join.proofs.Sets.{has-append, has-in_order, rises_in_order}
use Rattle.tca_join.specs.Maps.{get, Rises, join_with, clash_with, clash_key, merged}
use Rattle.tca_join.specs.laws.MapLaws.{clash_at, get_merged, rises_merged}
use Rattle.tca_join.specs.Chains.{longer, differ_at, next}
use Rattle.tca_gossip.specs.Replicas.{ReplicaView, or_empty, all_of, IsReplica, merged_with}
use Rattle.tca_gossip.proofs.Logs.{all_has, some_has, same_test}

or_none : (a : Bool) → a ≡ (a || false)
or_none true = refl
or_none false = refl

or_both : (a b c : Bool) → (a || (b || c)) ≡ ((a || b) || (a || c))
or_both true b c = refl
or_both false b c = refl

next_none : (o : Option ℕ) → next o ≡ None → o ≡ None
next_none None e = refl
next_none (Some n) e = absurd cc

has_more : (x : PacketReport) (xs : List PacketReport) (q : PacketReport) → has report_cmp (x ∷ xs) q ≡ (eq_by_cmp report_cmp q x || has report_cmp xs q)
unfolding has
has_more x xs q = refl

has_nothing : (q : PacketReport) → has report_cmp [] q ≡ false
unfolding has
has_nothing q = refl

module _ (eq : PacketReport → PacketReport → Bool) (exact : (x y : PacketReport) → eq x y ≡ true → x ≡ y) where
  pub parts : (x y : PacketReport) (xs ys : List PacketReport) → differ_at eq (x ∷ xs) (y ∷ ys) ≡ None → (eq x y ≡ true) × (differ_at eq xs ys ≡ None)
  parts x y xs ys e =
      elim (eq x y) as (λ b. eq x y ≡ b → cond b (next (differ_at eq xs ys)) (Some 0) ≡ None → (eq x y ≡ true) × (differ_at eq xs ys ≡ None)) [
        | true ↦ λ is e. (is, next_none (differ_at eq xs ys) e)
        | false ↦ λ is e. absurd cc
      ] refl e

  longer_has : (xs ys : List PacketReport) (q : PacketReport) → differ_at eq xs ys ≡ None → has report_cmp (longer xs ys) q ≡ (has report_cmp xs q || has report_cmp ys q)
  longer_has [] ys q e = ap (λ b. b || has report_cmp ys q) (sym (has_nothing q))
  longer_has (x ∷ xs) [] q e = or_none (has report_cmp (x ∷ xs) q) ∙ ap (λ b. has report_cmp (x ∷ xs) q || b) (sym (has_nothing q))
  longer_has (x ∷ xs) (y ∷ ys) q e =
      let both = parts x y xs ys e in
      has_more x (longer xs ys) q
      ∙ ap (λ b. eq_by_cmp report_cmp q x || b) (longer_has xs ys q both.1)
      ∙ or_both (eq_by_cmp report_cmp q x) (has report_cmp xs q) (has report_cmp ys q)
      ∙ (λ i. sym (has_more x xs q) i || (eq_by_cmp report_cmp q (exact x y both.0 i) || has report_cmp ys q))
      ∙ ap (λ b. has report_cmp (x ∷ xs) q || b) (sym (has_more y ys q))

  with_has : (a b : Option (List PacketReport)) (q : PacketReport) → clash_with (differ_at eq) a b ≡ None → has report_cmp (or_empty (join_with longer a b)) q ≡ (has report_cmp (or_empty a) q || has report_cmp (or_empty b) q)
  with_has None b q e = ap (λ t. t || has report_cmp (or_empty b) q) (sym (has_nothing q))
  with_has (Some a) None q e = or_none (has report_cmp a q) ∙ ap (λ t. has report_cmp a q || t) (sym (has_nothing q))
  with_has (Some a) (Some b) q e = longer_has a b q e

  merged_has : (es fs : List (ℕ × List PacketReport)) (q : PacketReport) → Rises es → Rises fs → clash_key (differ_at eq) es fs ≡ None → has report_cmp (all_of (merged longer es fs)) q ≡ (has report_cmp (all_of es) q || has report_cmp (all_of fs) q)
  merged_has es fs q r s none =
      let at : (o : ℕ) → has report_cmp (or_empty (get (merged longer es fs) o)) q ≡ (has report_cmp (or_empty (get es o)) q || has report_cmp (or_empty (get fs o)) q) = λ o.
      ap (λ z. has report_cmp (or_empty z) q) (get_merged longer es fs o r s) ∙ with_has (get es o) (get fs o) q (clash_at (differ_at eq) es fs o none) in
      same_test (has report_cmp (all_of (merged longer es fs)) q) (has report_cmp (all_of es) q || has report_cmp (all_of fs) q)
      (λ e. let found = some_has (merged longer es fs) q (rises_merged longer es fs r) e in
      elim (or_cases (has report_cmp (or_empty (get es found.0)) q) (has report_cmp (or_empty (get fs found.0)) q) (sym (at found.0) ∙ found.1)) [
        | inl h ↦ or_left (has report_cmp (all_of es) q) (has report_cmp (all_of fs) q) (all_has es found.0 q h)
        | inr h ↦ or_right (has report_cmp (all_of es) q) (has report_cmp (all_of fs) q) (all_has fs found.0 q h)
      ])
      (λ e. elim (or_cases (has report_cmp (all_of es) q) (has report_cmp (all_of fs) q) e) [
        | inl h ↦ let found = some_has es q r h in all_has (merged longer es fs) found.0 q (at found.0 ∙ or_left (has report_cmp (or_empty (get es found.0)) q) (has report_cmp (or_empty (get fs found.0)) q) found.1)
        | inr h ↦ let found = some_has fs q s h in all_has (merged longer es fs) found.0 q (at found.0 ∙ or_right (has report_cmp (or_empty (get es found.0)) q) (has report_cmp (or_empty (get fs found.0)) q) found.1)
      ])

  pub replica_merged : (v w : ReplicaView) → IsReplica v → IsReplica w → clash_key (differ_at eq) v.chains w.chains ≡ None → IsReplica (merged_with v w)
  replica_merged v w p r none = record {
    log_rises = rises_in_order report_cmp report_total (v.log ++ w.log);
    rises = rises_merged longer v.chains w.chains p.rises;
    same = λ q. has-in_order report_cmp report_total (v.log ++ w.log) q ∙ has-append report_cmp report_total v.log w.log q ∙ (λ i. p.same q i || r.same q i) ∙ sym (merged_has v.chains w.chains q p.rises r.rises none);
  }
