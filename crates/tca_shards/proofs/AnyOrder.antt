-- The sum of bills, in any order.
use Rattle.std.proofs.Common.{◌≡◌, ℕ, ◌+◌, Bool, true, false, ◌||◌, List, [], ◌∷◌, ◌++◌, map, refl, sym, ap, ◌∙◌, arith}
use Rattle.std.specs.Ordering.{nat_cmp}
use Rattle.std.proofs.lemmas.Cmp.{nat_cmp_total}
use Rattle.std.proofs.lemmas.Map.Lookups.{exact_unsigned}
use Rattle.tca_join.specs.Sets.{has, in_order}
use Rattle.tca_join.proofs.Sets.{has-append}
use Rattle.tca_join.proofs.Merge.{in_order_alike}
use Rattle.tca_accounts.specs.Sums.{ColourSums}
use Rattle.tca_accounts.specs.declared.span.Span.{Span}
use Rattle.tca_accounts.specs.declared.tally.Tally.{Tally}
use Rattle.tca_shards.specs.Shards.{added_numbers, added_sums, sums_at, indexes, added_spans, added_tallies, added_accounts, SumsCommute, SumsAssociate}
use Rattle.tca_shards.proofs.SpanBySpan.{spans_add_up}

plus_turned : (m n : ℕ) → m + n ≡ n + m
plus_turned m n = omega arith

plus_grouped : (m n k : ℕ) → m + n + k ≡ m + (n + k)
plus_grouped m n k = omega arith

or_turned : (a b : Bool) → (a || b) ≡ (b || a)
or_turned true true = refl
or_turned true false = refl
or_turned false true = refl
or_turned false false = refl

or_grouped : (a b c : Bool) → ((a || b) || c) ≡ (a || (b || c))
or_grouped true b c = refl
or_grouped false b c = refl

numbers_turned : (as_ bs : List ℕ) → added_numbers as_ bs ≡ added_numbers bs as_
unfolding added_numbers
numbers_turned [] [] = refl
numbers_turned [] (b ∷ bs) = refl
numbers_turned (a ∷ as_) [] = refl
numbers_turned (a ∷ as_) (b ∷ bs) = λ i. plus_turned a b i ∷ numbers_turned as_ bs i

numbers_grouped : (as_ bs cs : List ℕ) → added_numbers (added_numbers as_ bs) cs ≡ added_numbers as_ (added_numbers bs cs)
unfolding added_numbers
numbers_grouped [] bs cs = refl
numbers_grouped (a ∷ as_) [] cs = refl
numbers_grouped (a ∷ as_) (b ∷ bs) [] = refl
numbers_grouped (a ∷ as_) (b ∷ bs) (c ∷ cs) = λ i. plus_grouped a b c i ∷ numbers_grouped as_ bs cs i

sums_turned : (a b : ColourSums) → added_sums a b ≡ added_sums b a
sums_turned a b = λ i. record { octets = numbers_turned a.octets b.octets i; packets = numbers_turned a.packets b.packets i }

sums_grouped : (a b c : ColourSums) → added_sums (added_sums a b) c ≡ added_sums a (added_sums b c)
sums_grouped a b c = λ i. record { octets = numbers_grouped a.octets b.octets c.octets i; packets = numbers_grouped a.packets b.packets c.packets i }

-- whether spans have a period
abbrev is_in : List Span → ℕ → Bool
is_in spans k = has nat_cmp (indexes spans) k

in_both : (as_ bs : List Span) (k : ℕ) → has nat_cmp (indexes as_ ++ indexes bs) k ≡ (is_in as_ k || is_in bs k)
in_both as_ bs k = has-append nat_cmp nat_cmp_total (indexes as_) (indexes bs) k

periods_turned : (as_ bs : List Span) → in_order nat_cmp (indexes as_ ++ indexes bs) ≡ in_order nat_cmp (indexes bs ++ indexes as_)
periods_turned as_ bs = in_order_alike nat_cmp nat_cmp_total exact_unsigned (indexes as_ ++ indexes bs) (indexes bs ++ indexes as_) (λ k.
    in_both as_ bs k ∙ or_turned (is_in as_ k) (is_in bs k) ∙ sym (in_both bs as_ k))

spans_turned : (as_ bs : List Span) → added_spans as_ bs ≡ added_spans bs as_
spans_turned as_ bs = λ i. map (λ k. record { index = k; sums = sums_turned (sums_at as_ k) (sums_at bs k) i }) (periods_turned as_ bs i)

periods_grouped : (as_ bs cs : List Span)
    → in_order nat_cmp (indexes (added_spans as_ bs) ++ indexes cs) ≡ in_order nat_cmp (indexes as_ ++ indexes (added_spans bs cs))
periods_grouped as_ bs cs =
    in_order_alike nat_cmp nat_cmp_total exact_unsigned (indexes (added_spans as_ bs) ++ indexes cs) (indexes as_ ++ indexes (added_spans bs cs)) (λ k.
    in_both (added_spans as_ bs) cs k
    ∙ ap (λ b. b || is_in cs k) ((spans_add_up as_ bs).periods k)
    ∙ or_grouped (is_in as_ k) (is_in bs k) (is_in cs k)
    ∙ sym (ap (λ b. is_in as_ k || b) ((spans_add_up bs cs).periods k))
    ∙ sym (in_both as_ (added_spans bs cs) k))

sums_of_three : (as_ bs cs : List Span) (k : ℕ)
    → added_sums (sums_at (added_spans as_ bs) k) (sums_at cs k) ≡ added_sums (sums_at as_ k) (sums_at (added_spans bs cs) k)
sums_of_three as_ bs cs k =
    ap (λ (s : ColourSums). added_sums s (sums_at cs k)) ((spans_add_up as_ bs).sums k)
    ∙ sums_grouped (sums_at as_ k) (sums_at bs k) (sums_at cs k)
    ∙ sym (ap (λ (s : ColourSums). added_sums (sums_at as_ k) s) ((spans_add_up bs cs).sums k))

spans_grouped : (as_ bs cs : List Span) → added_spans (added_spans as_ bs) cs ≡ added_spans as_ (added_spans bs cs)
spans_grouped as_ bs cs = λ i. map (λ k. record { index = k; sums = sums_of_three as_ bs cs k i }) (periods_grouped as_ bs cs i)

tallies_turned : (a b : Tally) → added_tallies a b ≡ added_tallies b a
tallies_turned a b = λ i. record { total = sums_turned a.total b.total i; spans = spans_turned a.spans b.spans i }

tallies_grouped : (a b c : Tally) → added_tallies (added_tallies a b) c ≡ added_tallies a (added_tallies b c)
tallies_grouped a b c = λ i. record { total = sums_grouped a.total b.total c.total i; spans = spans_grouped a.spans b.spans c.spans i }

accounts_turned : (as_ bs : List Tally) → added_accounts as_ bs ≡ added_accounts bs as_
unfolding added_accounts
accounts_turned [] [] = refl
accounts_turned [] (b ∷ bs) = refl
accounts_turned (a ∷ as_) [] = refl
accounts_turned (a ∷ as_) (b ∷ bs) = λ i. tallies_turned a b i ∷ accounts_turned as_ bs i

accounts_grouped : (as_ bs cs : List Tally) → added_accounts (added_accounts as_ bs) cs ≡ added_accounts as_ (added_accounts bs cs)
unfolding added_accounts
accounts_grouped [] bs cs = refl
accounts_grouped (a ∷ as_) [] cs = refl
accounts_grouped (a ∷ as_) (b ∷ bs) [] = refl
accounts_grouped (a ∷ as_) (b ∷ bs) (c ∷ cs) = λ i. tallies_grouped a b c i ∷ accounts_grouped as_ bs cs i

pub sums_commute : SumsCommute
sums_commute a b = λ i. record {
  reports = plus_turned a.reports b.reports i;
  disputed = plus_turned a.disputed b.disputed i;
  unassigned = plus_turned a.unassigned b.unassigned i;
  accounts = accounts_turned a.accounts b.accounts i;
}

pub sums_associate : SumsAssociate
sums_associate a b c = λ i. record {
  reports = plus_grouped a.reports b.reports c.reports i;
  disputed = plus_grouped a.disputed b.disputed c.disputed i;
  unassigned = plus_grouped a.unassigned b.unassigned c.unassigned i;
  accounts = accounts_grouped a.accounts b.accounts c.accounts i;
}
