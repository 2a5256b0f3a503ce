-- The member of a set that ties with one.
use Rattle.std.proofs.Common.{◌≡◌, ℕ, suc, true, false, ◌||◌, cond, List, [], ◌∷◌, ◌++◌, get_or, take, drop, refl, ap, ◌∙◌}
use Rattle.std.specs.Prelude.{Some}
use Rattle.std.specs.List.{list_any}
use Rattle.std.specs.Ordering.{eq_by_cmp}
use Rattle.std.specs.Cmp.{IsTotalOrder}
use Rattle.std.specs.declared.cmp.Ordering.{Ordering}
use Rattle.tca_join.specs.Sets.{has}
use Rattle.tca_log.specs.inside.Chunks.{joined, AreChunks, IsPosition}
use Rattle.tca_log.specs.Rows.Ordered.{tied}
use Rattle.tca_log.proofs.OrderedRows.Parts.{has_below, has_above}
use Rattle.tca_log.proofs.OrderedRows.Positions.{joined_at, below_first, above_place}
use Rattle.tca_log.proofs.OrderedRows.Search.{tied_absent}

module _ {K : Type 0} (R : K → K → Ordering) (o : IsTotalOrder R) where
  tied_past : (k : K) (xs ys : List K) → has R xs k ≡ false → tied R k (xs ++ ys) ≡ tied R k ys
  unfolding has tied
  tied_past k [] ys h = refl
  tied_past k (x ∷ xs) ys h =
      elim (eq_by_cmp R k x) as (λ b. (b || list_any (eq_by_cmp R k) xs) ≡ false → cond b (Some x) (tied R k (xs ++ ys)) ≡ tied R k ys) [ true ↦ λ e. absurd cc | false ↦ λ e. tied_past k xs ys e ] h

  tied_before : (k : K) (xs ys : List K) → has R ys k ≡ false → tied R k (xs ++ ys) ≡ tied R k xs
  unfolding tied
  tied_before k [] ys h = tied_absent R o k ys h
  tied_before k (x ∷ xs) ys h = ap (cond (eq_by_cmp R k x) (Some x)) (tied_before k xs ys h)

  pub tied_place : (k : K) (cs : List (List K)) (i : ℕ) → AreChunks R cs → IsPosition R cs k i → tied R k (joined cs) ≡ tied R k (get_or cs i [])
  tied_place k cs i a p =
      ap (tied R k) (joined_at cs i p.inside)
      ∙ tied_past k (joined (take i cs)) _ (has_below R o k (joined (take i cs)) (below_first R o k cs i a p))
      ∙ tied_before k (get_or cs i []) (joined (drop (suc i) cs)) (has_above R o k (joined (drop (suc i) cs)) (above_place R o k cs i a p))
