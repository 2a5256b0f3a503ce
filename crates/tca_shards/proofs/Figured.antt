-- The figures of a bill that is a sum are the sum of the figures.
use Rattle.std.proofs.Common.{◌≡◌, ℕ, ◌+◌, Bool, true, false, cond, eqb, List, [], ◌∷◌, ◌++◌, length, map, suc, zero, refl, sym, ap, ◌∙◌, arith}
use Rattle.std.specs.Prelude.{slice_index}
use Rattle.std.specs.List.{zip}
use Rattle.std.specs.Ordering.{nat_cmp}
use Rattle.tca_join.specs.Sets.{in_order}
use Rattle.tca_accounts.specs.Plans.{AccountPlan, PlannedAccount}
use Rattle.tca_accounts.specs.Sums.{ColourSums}
use Rattle.tca_accounts.specs.declared.bill.Bill.{Bill}
use Rattle.tca_accounts.specs.declared.span.Span.{Span}
use Rattle.tca_accounts.specs.declared.tally.Tally.{Tally}
use Rattle.tca_figures.specs.Figures.{StatedAccount, plus}
use Rattle.tca_figures.specs.Sums as figured
use Rattle.tca_figures.specs.declared.figures.ColourFigures.{ColourFigures}
use Rattle.tca_figures.specs.declared.figures.SpanFigures.{SpanFigures}
use Rattle.tca_shards.specs.Shards.{added_accounts, added_bills, added_numbers, added_spans, added_sums, added_tallies, indexes, sums_at}
use Rattle.tca_shards.specs.Statements.{account_figures, figures_of, span_figures, stated}

-- place by place, where a list that has no such place counts as 0 there
index_sum : (xs ys : List ℕ) (i : ℕ) → slice_index (added_numbers xs ys) i ≡ slice_index xs i + slice_index ys i
unfolding added_numbers
index_sum [] ys i = omega arith
index_sum (x ∷ xs) [] i = omega arith
index_sum (x ∷ xs) (y ∷ ys) zero = refl
index_sum (x ∷ xs) (y ∷ ys) (suc i) = index_sum xs ys i

figures_added : (a b : ColourSums) → figures_of (added_sums a b) ≡ plus (figures_of a) (figures_of b)
figures_added a b = λ i. record {
  green = record { octets = index_sum a.octets b.octets 0 i; packets = index_sum a.packets b.packets 0 i };
  yellow = record { octets = index_sum a.octets b.octets 1 i; packets = index_sum a.packets b.packets 1 i };
  red = record { octets = index_sum a.octets b.octets 2 i; packets = index_sum a.packets b.packets 2 i };
}

picked : (b : Bool) (x y : ColourSums) (z : ColourFigures) → figures_of y ≡ z → figures_of (cond b x y) ≡ cond b (figures_of x) z
picked true x y z h = refl
picked false x y z h = h

-- what the figures of spans have for a period
sums_figured : (spans : List Span) (k : ℕ) → figures_of (sums_at spans k) ≡ figured.sums_at (map span_figures spans) k
unfolding sums_at figured.sums_at
sums_figured [] k = refl
sums_figured (s ∷ spans) k = picked (eqb s.index k) s.sums (sums_at spans k) (figured.sums_at (map span_figures spans) k) (sums_figured spans k)

pub indexes_figured : (spans : List Span) → figured.indexes (map span_figures spans) ≡ indexes spans
indexes_figured [] = refl
indexes_figured (s ∷ spans) = ap (λ (l : List ℕ). s.index ∷ l) (indexes_figured spans)

module _ (as_ bs : List Span) where
  both_at : (k : ℕ) → figures_of (added_sums (sums_at as_ k) (sums_at bs k)) ≡ plus (figured.sums_at (map span_figures as_) k) (figured.sums_at (map span_figures bs) k)
  both_at k = figures_added (sums_at as_ k) (sums_at bs k) ∙ (λ i. plus (sums_figured as_ k i) (sums_figured bs k i))

  abbrev span_both : ℕ → Span
  span_both k = record { index = k; sums = added_sums (sums_at as_ k) (sums_at bs k) }

  abbrev figures_both : ℕ → SpanFigures
  figures_both k = record { index = k; sums = plus (figured.sums_at (map span_figures as_) k) (figured.sums_at (map span_figures bs) k) }

  at_each : (ks : List ℕ) → map span_figures (map span_both ks) ≡ map figures_both ks
  at_each [] = refl
  at_each (k ∷ ks) = λ i. record { index = k; sums = both_at k i } ∷ at_each ks i

  spans_added : map span_figures (added_spans as_ bs) ≡ figured.added_spans (map span_figures as_) (map span_figures bs)
  spans_added =
      at_each (in_order nat_cmp (indexes as_ ++ indexes bs))
      ∙ (λ i. map figures_both (in_order nat_cmp (sym (indexes_figured as_) i ++ sym (indexes_figured bs) i)))

pub account_added : (a : PlannedAccount) (s t : Tally) → account_figures a (added_tallies s t) ≡ figured.added_account (account_figures a s) (account_figures a t)
account_added a s t = λ i. record { name = a.name; total = figures_added s.total t.total i; spans = spans_added s.spans t.spans i }

abbrev pub accounts_of : List PlannedAccount → List Tally → List StatedAccount
accounts_of accounts tallies = map (λ a. account_figures a.0 a.1) (zip accounts tallies)

accounts_added : (accounts : List PlannedAccount) (ss ts : List Tally) → length ss ≡ length accounts → length ts ≡ length accounts
    → accounts_of accounts (added_accounts ss ts) ≡ figured.added_accounts (accounts_of accounts ss) (accounts_of accounts ts)
unfolding added_accounts figured.added_accounts
accounts_added [] ss ts h k = refl
accounts_added (a ∷ accounts) [] ts h k = absurd (omega (arith, h))
accounts_added (a ∷ accounts) (s ∷ ss) [] h k = absurd (omega (arith, k))
accounts_added (a ∷ accounts) (s ∷ ss) (t ∷ ts) h k = λ i. account_added a s t i ∷ accounts_added accounts ss ts (omega (arith, h)) (omega (arith, k)) i

-- the figures of the sum of two bills
pub stated_added : (plan : AccountPlan) (a b : Bill) → length a.accounts ≡ length plan.accounts → length b.accounts ≡ length plan.accounts
    → stated plan (added_bills a b) ≡ figured.added (stated plan a) (stated plan b)
stated_added plan a b h k = λ i. record {
  period = plan.period;
  reports = a.reports + b.reports;
  disputed = a.disputed + b.disputed;
  unassigned = a.unassigned + b.unassigned;
  accounts = accounts_added plan.accounts a.accounts b.accounts h k i;
}
