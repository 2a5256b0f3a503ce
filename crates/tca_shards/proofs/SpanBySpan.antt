-- What the sum of two lists of spans says.
use Rattle.std.proofs.Common.{◌≡◌, ℕ, Bool, true, false, ◌||◌, cond, eqb, List, [], ◌∷◌, ◌++◌, map, refl, sym, ap, ◌∙◌, subst}
use Rattle.std.specs.List.{list_any}
use Rattle.std.specs.List.Sorted.{IsStrictlySortedBy}
use Rattle.std.specs.Ordering.{nat_cmp, eq_by_cmp}
use Rattle.std.specs.Cmp.{unsigned_tied}
use Rattle.std.proofs.lemmas.Bool.{eqb-true, eq-eqb, false≢true}
use Rattle.std.proofs.lemmas.Cmp.{nat_cmp_total}
use Rattle.tca_join.specs.Sets.{has, in_order}
use Rattle.tca_join.proofs.Sets.{has-append, has-in_order, rises_in_order}
use Rattle.tca_accounts.specs.Sums.{ColourSums}
use Rattle.tca_accounts.specs.Metering.{no_sums}
use Rattle.tca_accounts.specs.declared.span.Span.{Span}
use Rattle.tca_shards.specs.Shards.{added_numbers, added_sums, sums_at, indexes, added_spans, SpansAddUp}

turned : (x k : ℕ) → eqb x k ≡ false → eqb k x ≡ false
turned x k e = elim (eqb k x) as (λ b. eqb k x ≡ b → b ≡ false) [
  | true ↦ λ f. absurd (false≢true (sym e ∙ eq-eqb x k (sym (eqb-true k x f))))
  | false ↦ λ f. refl
] refl

module _ (h : ℕ → ColourSums) where
  abbrev spans : List ℕ → List Span
  spans is = map (λ k. record { index = k; sums = h k }) is

  pub indexes_of : (is : List ℕ) → indexes (spans is) ≡ is
  indexes_of [] = refl
  indexes_of (i ∷ is) = ap (λ (l : List ℕ). i ∷ l) (indexes_of is)

  pub sums_of_each : (is : List ℕ) (k : ℕ) → sums_at (spans is) k ≡ cond (has nat_cmp is k) (h k) no_sums
  unfolding has sums_at
  sums_of_each [] k = refl
  sums_of_each (x ∷ is) k =
      elim (eqb x k) as (λ b. eqb x k ≡ b → cond b (h x) (sums_at (spans is) k) ≡ cond (eq_by_cmp nat_cmp k x || list_any (eq_by_cmp nat_cmp k) is) (h k) no_sums) [
        | true ↦ λ e. ap h (eqb-true x k e) ∙ sym (ap (λ b. cond (b || list_any (eq_by_cmp nat_cmp k) is) (h k) no_sums) (unsigned_tied k x ∙ eq-eqb k x (sym (eqb-true x k e))))
        | false ↦ λ e. sums_of_each is k ∙ sym (ap (λ b. cond (b || list_any (eq_by_cmp nat_cmp k) is) (h k) no_sums) (unsigned_tied k x ∙ turned x k e))
      ] refl

-- a period without a span has no packets
none_for : (ss : List Span) (k : ℕ) → has nat_cmp (indexes ss) k ≡ false → sums_at ss k ≡ no_sums
unfolding has sums_at
none_for [] k h = refl
none_for (s ∷ ss) k h =
    elim (eqb s.index k) as (λ b. eqb s.index k ≡ b → cond b s.sums (sums_at ss k) ≡ no_sums) [
      | true ↦ λ e. absurd (false≢true (sym h ∙ ap (λ b. b || list_any (eq_by_cmp nat_cmp k) (indexes ss)) (unsigned_tied k s.index ∙ eq-eqb k s.index (sym (eqb-true s.index k e)))))
      | false ↦ λ e. none_for ss k (tail (eq_by_cmp nat_cmp k s.index) (list_any (eq_by_cmp nat_cmp k) (indexes ss)) h)
    ] refl
  where
    tail : (a b : Bool) → (a || b) ≡ false → b ≡ false
    tail true b h = absurd (false≢true (sym h))
    tail false b h = h

neither : (a b : Bool) → (a || b) ≡ false → (a ≡ false) × (b ≡ false)
neither true b h = absurd (false≢true (sym h))
neither false b h = (refl, h)

nothing : added_sums no_sums no_sums ≡ no_sums
unfolding added_numbers
nothing = refl

module _ (as_ bs : List Span) where
  abbrev both : ℕ → ColourSums
  both k = added_sums (sums_at as_ k) (sums_at bs k)

  abbrev ks : List ℕ
  ks = in_order nat_cmp (indexes as_ ++ indexes bs)

  they_have : (k : ℕ) → has nat_cmp ks k ≡ (has nat_cmp (indexes as_) k || has nat_cmp (indexes bs) k)
  they_have k = has-in_order nat_cmp nat_cmp_total (indexes as_ ++ indexes bs) k ∙ has-append nat_cmp nat_cmp_total (indexes as_) (indexes bs) k

  sums : (k : ℕ) → sums_at (added_spans as_ bs) k ≡ both k
  sums k =
      sums_of_each both ks k
      ∙ ap (λ b. cond b (both k) no_sums) (they_have k)
      ∙ elim (has nat_cmp (indexes as_) k || has nat_cmp (indexes bs) k) as (λ b. (has nat_cmp (indexes as_) k || has nat_cmp (indexes bs) k) ≡ b → cond b (both k) no_sums ≡ both k) [
        | true ↦ λ e. refl
        | false ↦ λ e.
            let n = neither (has nat_cmp (indexes as_) k) (has nat_cmp (indexes bs) k) e in
            sym ((λ i. added_sums (none_for as_ k n.0 i) (none_for bs k n.1 i)) ∙ nothing)
      ] refl

pub spans_add_up : SpansAddUp
spans_add_up as_ bs = record {
  ascend = subst (IsStrictlySortedBy nat_cmp) (sym (indexes_of (both as_ bs) (ks as_ bs))) (rises_in_order nat_cmp nat_cmp_total (indexes as_ ++ indexes bs));
  periods = λ k. ap (λ (l : List ℕ). has nat_cmp l k) (indexes_of (both as_ bs) (ks as_ bs)) ∙ they_have as_ bs k;
  sums = sums as_ bs;
}
