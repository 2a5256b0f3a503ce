-- A difference is a partition.
use Rattle.std.proofs.Common.{◌≡◌, ◌∙◌, ◌+◌, ◌&&◌, ◌||◌, Bool, true, false, not, List, [], ◌∷◌, ◌++◌, length, map, ap, sym, refl, cond, arith}
use Rattle.std.specs.Cmp.{tied_itself}
use Rattle.std.specs.Ordering.{eq_by_cmp}
use Rattle.std.specs.List.{filter}
use Rattle.std.specs.List.Sorted.{IsStrictlySortedBy}
use Rattle.std.proofs.lemmas.List.{length-map}
use Rattle.tca_join.specs.Sets.{has}
use Rattle.tca_join.proofs.Sets.{has-append, has-in_order, only_one}
use Rattle.tca_join.proofs.Unions.{union_again}
use Rattle.tca_log.proofs.Contents.{has-filter}
use Rattle.tca_report.specs.report.Reports.{PacketReport, report_cmp}
use Rattle.tca_report.proofs.lemmas.report.Order.{report_total, report_exact}
use Rattle.tcatool.specs.Diffed.{both_sets, lone, only_first, only_second, shared, sided}

eq_itself : (r : PacketReport) → eq_by_cmp report_cmp r r ≡ true
eq_itself r = rw (tied_itself report_total r) refl

or_true : (x : Bool) → (x || true) ≡ true
or_true true = refl
or_true false = refl

pub members_both : (a b : List PacketReport) (r : PacketReport) → has report_cmp (both_sets a b) r ≡ (has report_cmp a r || has report_cmp b r)
members_both a b r = has-in_order report_cmp report_total (a ++ b) r ∙ has-append report_cmp report_total a b r

first_case : (x y : Bool) → ((x && not y) && (x || y)) ≡ (x && not y)
first_case true true = refl
first_case true false = refl
first_case false true = refl
first_case false false = refl

second_case : (x y : Bool) → (not x && (x || y)) ≡ (y && not x)
second_case true true = refl
second_case true false = refl
second_case false true = refl
second_case false false = refl

shared_case : (x y : Bool) → ((x && y) && (x || y)) ≡ (x && y)
shared_case true true = refl
shared_case true false = refl
shared_case false true = refl
shared_case false false = refl

pub members_first : (a b : List PacketReport) (r : PacketReport) → has report_cmp (only_first a b) r ≡ (has report_cmp a r && not (has report_cmp b r))
members_first a b r =
    has-filter report_cmp report_exact (λ q. has report_cmp a q && not (has report_cmp b q)) (both_sets a b) r
    ∙ ap (λ x. (has report_cmp a r && not (has report_cmp b r)) && x) (members_both a b r)
    ∙ first_case (has report_cmp a r) (has report_cmp b r)

pub members_second : (a b : List PacketReport) (r : PacketReport) → has report_cmp (only_second a b) r ≡ (has report_cmp b r && not (has report_cmp a r))
members_second a b r =
    has-filter report_cmp report_exact (λ q. not (has report_cmp a q)) (both_sets a b) r
    ∙ ap (λ x. not (has report_cmp a r) && x) (members_both a b r)
    ∙ second_case (has report_cmp a r) (has report_cmp b r)

pub members_shared : (a b : List PacketReport) (r : PacketReport) → has report_cmp (shared a b) r ≡ (has report_cmp a r && has report_cmp b r)
members_shared a b r =
    has-filter report_cmp report_exact (λ q. has report_cmp a q && has report_cmp b q) (both_sets a b) r
    ∙ ap (λ x. (has report_cmp a r && has report_cmp b r) && x) (members_both a b r)
    ∙ shared_case (has report_cmp a r) (has report_cmp b r)

-- three tests of which just one keeps each member
module _ {X : Type 0} (f g : X → Bool) where
  pub in_three : (xs : List X) → length (filter (λ x. f x && not (g x)) xs) + (length (filter (λ x. not (f x)) xs) + length (filter (λ x. f x && g x) xs)) ≡ length xs
  in_three [] = refl
  in_three (x ∷ xs) = step (in_three xs) (f x) (g x)
    where
      l₁ : List X
      l₁ = filter (λ y. f y && not (g y)) xs

      l₂ : List X
      l₂ = filter (λ y. not (f y)) xs

      l₃ : List X
      l₃ = filter (λ y. f y && g y) xs

      step : length l₁ + (length l₂ + length l₃) ≡ length xs → (p q : Bool) → length (cond (p && not q) (x ∷ l₁) l₁) + (length (cond (not p) (x ∷ l₂) l₂) + length (cond (p && q) (x ∷ l₃) l₃)) ≡ length (x ∷ xs)
      step so true true = omega (arith, so)
      step so true false = omega (arith, so)
      step so false true = omega (arith, so)
      step so false false = omega (arith, so)

  pub in_two : (xs : List X) → length (filter (λ x. not (f x && g x)) xs) ≡ length (filter (λ x. f x && not (g x)) xs) + length (filter (λ x. not (f x)) xs)
  in_two [] = refl
  in_two (x ∷ xs) = step (in_two xs) (f x) (g x)
    where
      l₀ : List X
      l₀ = filter (λ y. not (f y && g y)) xs

      l₁ : List X
      l₁ = filter (λ y. f y && not (g y)) xs

      l₂ : List X
      l₂ = filter (λ y. not (f y)) xs

      step : length l₀ ≡ length l₁ + length l₂ → (p q : Bool) → length (cond (not (p && q)) (x ∷ l₀) l₀) ≡ length (cond (p && not q) (x ∷ l₁) l₁) + length (cond (not p) (x ∷ l₂) l₂)
      step so true true = so
      step so true false = omega (arith, so)
      step so false true = omega (arith, so)
      step so false false = omega (arith, so)

pub all_counted : (a b : List PacketReport) → length (only_first a b) + (length (only_second a b) + length (shared a b)) ≡ length (both_sets a b)
all_counted a b = in_three (has report_cmp a) (has report_cmp b) (both_sets a b)

pub lines_counted : (a b : List PacketReport) → length (lone a b) ≡ length (only_first a b) + length (only_second a b)
lines_counted a b = length-map (filter (λ r. not (has report_cmp a r && has report_cmp b r)) (both_sets a b)) (sided a) ∙ in_two (has report_cmp a) (has report_cmp b) (both_sets a b)

nothing_has : (xs : List PacketReport) → length xs ≡ 0 → (r : PacketReport) → has report_cmp xs r ≡ false
unfolding has
nothing_has [] e r = refl
nothing_has (x ∷ xs) e r = absurd (omega (arith, e))

same_test : (x y : Bool) → (x && not y) ≡ false → (y && not x) ≡ false → x ≡ y
same_test true true p q = refl
same_test true false p q = absurd cc
same_test false true p q = absurd cc
same_test false false p q = refl

-- where no line goes out, the sets are equal
pub equal_if_none : (a b : List PacketReport) → IsStrictlySortedBy report_cmp a → IsStrictlySortedBy report_cmp b → lone a b ≡ [] → a ≡ b
equal_if_none a b rises also none =
    let no : length (only_first a b) + length (only_second a b) ≡ 0 = sym (lines_counted a b) ∙ ap length none in
    only_one report_cmp report_total report_exact a b rises also
    (λ r. same_test (has report_cmp a r) (has report_cmp b r)
    (sym (members_first a b r) ∙ nothing_has (only_first a b) (omega (arith, no)) r)
    (sym (members_second a b r) ∙ nothing_has (only_second a b) (omega (arith, no)) r))

-- a set doesn't differ from itself
pub none_if_equal : (a : List PacketReport) → IsStrictlySortedBy report_cmp a → lone a a ≡ []
unfolding has
none_if_equal a rises = ap (map (sided a)) (ap (filter (λ r. not (has report_cmp a r && has report_cmp a r))) (union_again report_cmp report_total report_exact a rises) ∙ all_kept)
  where
    within : (xs : List PacketReport) → ((r : PacketReport) → has report_cmp xs r ≡ true → has report_cmp a r ≡ true) → filter (λ r. not (has report_cmp a r && has report_cmp a r)) xs ≡ []
    within [] h = refl
    within (x ∷ xs) h =
        let here : has report_cmp a x ≡ true = h x (rw (eq_itself x) refl) in
        rw here (within xs (λ r m. h r (rw m (or_true (eq_by_cmp report_cmp r x)))))

    all_kept : filter (λ r. not (has report_cmp a r && has report_cmp a r)) a ≡ []
    all_kept = within a (λ r m. m)
