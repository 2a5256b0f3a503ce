-- Marks of numbers: how many reports have an identity of each, up to 2.
use Rattle.std.proofs.Common.{◌≡◌, ℕ, suc, ◌+◌, ◌-◌, ◌*◌, ◌/◌, ◌%◌, ◌^◌, ◌<◌, ◌≤◌, Bool, true, false, cond, List, [], ◌∷◌, ◌++◌, length, get_or, set, filter, map, replicate, refl, sym, ap, ◌∙◌, arith, length-append, get_or-set_same, get_or-set_other}
use Rattle.std.specs.Prelude.{min, nat_lt, nat_eq, ◌≢◌}
use Rattle.std.specs.Ordering.{eq_by_cmp}
use Rattle.std.specs.Cmp.{Equal-is}
use Rattle.std.proofs.lemmas.Bool.{false≢true, eqb-true, eqb-false}
use Rattle.std.proofs.lemmas.List.{get_or-replicate, length-replicate, length-set}
use Rattle.std.proofs.lemmas.List.Elements.{filter-append}
use Rattle.std.proofs.lemmas.Nat.{pow_pos}
use native.Mathlib.Nat.{mod-lt}
use borrow.Author.Tests.{ltb-false}
use Rattle.tca_report.specs.report.Reports.{PacketReport}
use Rattle.tca_report.specs.report.Identities.{identity_of, identity_cmp}
use Rattle.tca_report.specs.declared.report.Identity.{Identity}
use Rattle.tca_report.proofs.lemmas.report.Identities.{identity_exact}
use Rattle.tca_log.specs.Disputes.{contents, has_identity}
use Rattle.tca_log.specs.inside.Additions.{times}
use Rattle.tca_log.specs.inside.Logs.{count_at}
use Rattle.tca_log.specs.inside.Numbers.{AreMarked, count_of, is_again, number}
use Rattle.tca_log.specs.inside.Spans.{one_more}
use Rattle.tca_log.proofs.Contents.{tests_alike}
use Rattle.tca_log.proofs.Marked.{one_more_is}
use Rattle.tca_log.proofs.Repeats.{times_mapped}

pub number_within : (bits : ℕ) (i : Identity) → number bits i < 2 ^ bits
number_within bits i = mod-lt ((i.domain * 1327217885 + i.session * 889516852) % 2147483648 / 2 ^ (31 - bits) + i.place) (pow_pos bits)

pub marked_none : (bits : ℕ) → AreMarked bits [] (replicate (2 ^ bits) 0)
unfolding count_of
marked_none bits = record { size = length-replicate (2 ^ bits) 0; counted = λ i. get_or-replicate (2 ^ bits) (number bits i) 0 0 (number_within bits i) }

pub apart_none : (bits : ℕ) (i : Identity) → get_or (replicate (2 ^ bits) 0) (number bits i) 0 < 2
apart_none bits i =
    let none = get_or-replicate {A = ℕ} (2 ^ bits) (number bits i) 0 0 (number_within bits i) in
    omega (arith, none)

count_one_more : (bits n : ℕ) (rs : List PacketReport) (r : PacketReport) → count_of bits n (rs ++ r ∷ []) ≡ count_of bits n rs + cond (nat_eq (number bits (identity_of r)) n) 1 0
unfolding count_of
count_one_more bits n rs r =
    ap length (filter-append (λ q. nat_eq (number bits (identity_of q)) n) rs (r ∷ []))
    ∙ length-append (filter (λ q. nat_eq (number bits (identity_of q)) n) rs) (filter (λ q. nat_eq (number bits (identity_of q)) n) (r ∷ []))
    ∙ ap (λ k. length (filter (λ q. nat_eq (number bits (identity_of q)) n) rs) + k) (one (nat_eq (number bits (identity_of r)) n))
  where
    one : (b : Bool) → length (cond b (r ∷ []) []) ≡ cond b 1 0
    one true = refl
    one false = refl

-- one report more is marked
module _ (bits : ℕ) (seen : List PacketReport) (marks new : List ℕ) (r : PacketReport) (so_far : AreMarked bits seen marks)
    (marked : new ≡ set marks (number bits (identity_of r)) (one_more (get_or marks (number bits (identity_of r)) 0))) where
  same_number : (i : Identity) → number bits i ≡ number bits (identity_of r) → get_or new (number bits i) 0 ≡ one_more (get_or marks (number bits i) 0)
  same_number i at =
      let inside : number bits (identity_of r) < length marks = omega (arith, number_within bits (identity_of r), so_far.size) in
      ap (λ (n : ℕ). get_or new n 0) at
      ∙ ap (λ (l : List ℕ). get_or l (number bits (identity_of r)) 0) marked
      ∙ get_or-set_same marks (number bits (identity_of r)) (one_more (get_or marks (number bits (identity_of r)) 0)) 0 inside
      ∙ ap (λ (n : ℕ). one_more (get_or marks n 0)) (sym at)

  other_number : (i : Identity) → number bits i ≢ number bits (identity_of r) → get_or new (number bits i) 0 ≡ get_or marks (number bits i) 0
  other_number i apart =
      ap (λ (l : List ℕ). get_or l (number bits i) 0) marked
      ∙ get_or-set_other marks (number bits (identity_of r)) (number bits i) (one_more (get_or marks (number bits (identity_of r)) 0)) 0 apart

  counted_more : (i : Identity) → get_or new (number bits i) 0 ≡ min 2 (count_of bits (number bits i) (seen ++ r ∷ []))
  counted_more i = by (nat_eq (number bits (identity_of r)) (number bits i)) refl
    where
      by : (b : Bool) → nat_eq (number bits (identity_of r)) (number bits i) ≡ b → get_or new (number bits i) 0 ≡ min 2 (count_of bits (number bits i) (seen ++ r ∷ []))
      by true e =
          let at : number bits i ≡ number bits (identity_of r) = sym (eqb-true (number bits (identity_of r)) (number bits i) e) in
          same_number i at
          ∙ ap one_more (so_far.counted i)
          ∙ one_more_is (count_of bits (number bits i) seen)
          ∙ ap (min 2) (sym (count_one_more bits (number bits i) seen r ∙ ap (λ (b : Bool). count_of bits (number bits i) seen + cond b 1 0) e))
      by false e =
          let apart : number bits i ≢ number bits (identity_of r) = λ at. eqb-false (number bits (identity_of r)) (number bits i) e (sym at) in
          let none : count_of bits (number bits i) (seen ++ r ∷ []) ≡ count_of bits (number bits i) seen + 0 = count_one_more bits (number bits i) seen r ∙ ap (λ (b : Bool). count_of bits (number bits i) seen + cond b 1 0) e in
          other_number i apart ∙ so_far.counted i ∙ ap (min 2) (omega (arith, none))

  pub marked_more : AreMarked bits (seen ++ r ∷ []) new
  marked_more = record {
    size = ap length marked ∙ length-set marks (number bits (identity_of r)) (one_more (get_or marks (number bits (identity_of r)) 0)) ∙ so_far.size;
    counted = counted_more;
  }

  -- where its number was unmarked, no number is marked twice that wasn't before
  pub apart_more : get_or marks (number bits (identity_of r)) 0 ≡ 0 → ((i : Identity) → get_or marks (number bits i) 0 < 2) → (i : Identity) → get_or new (number bits i) 0 < 2
  apart_more none apart i = by (nat_eq (number bits i) (number bits (identity_of r))) refl
    where
      by : (b : Bool) → nat_eq (number bits i) (number bits (identity_of r)) ≡ b → get_or new (number bits i) 0 < 2
      by true e =
          let at : number bits i ≡ number bits (identity_of r) = eqb-true (number bits i) (number bits (identity_of r)) e in
          let one : get_or new (number bits i) 0 ≡ 1 = same_number i at ∙ ap one_more (ap (λ (n : ℕ). get_or marks n 0) at ∙ none) in
          omega (arith, one)
      by false e = omega (arith, other_number i (eqb-false (number bits i) (number bits (identity_of r)) e), apart i)

-- as many reports have an identity as have its number, or fewer
fewer : (bits : ℕ) (rs : List PacketReport) (i : Identity) → count_at rs i ≤ count_of bits (number bits i) rs
unfolding count_of contents
fewer bits [] i = omega arith
fewer bits (r ∷ rs) i = by (fewer bits rs i) (has_identity i r) (nat_eq (number bits (identity_of r)) (number bits i)) refl refl
  where
    by : length (filter (has_identity i) rs) ≤ length (filter (λ q. nat_eq (number bits (identity_of q)) (number bits i)) rs) → (b d : Bool) → has_identity i r ≡ b → nat_eq (number bits (identity_of r)) (number bits i) ≡ d
        → length (cond b (r ∷ filter (has_identity i) rs) (filter (has_identity i) rs)) ≤ length (cond d (r ∷ filter (λ q. nat_eq (number bits (identity_of q)) (number bits i)) rs) (filter (λ q. nat_eq (number bits (identity_of q)) (number bits i)) rs))
    by rest true true e f = omega (arith, rest)
    by rest true false e f =
        let same : i ≡ identity_of r = identity_exact i (identity_of r) ((Equal-is (identity_cmp i (identity_of r))).0 e) in
        absurd (eqb-false (number bits (identity_of r)) (number bits i) f (ap (number bits) (sym same)))
    by rest false true e f = omega (arith, rest)
    by rest false false e f = rest

-- what passes a test that an identity passes too: all that tie with it
kept_times : (test : Identity → Bool) (i : Identity) → test i ≡ true → (xs : List Identity) → times identity_cmp i (filter test xs) ≡ times identity_cmp i xs
unfolding times
kept_times test i passes [] = refl
kept_times test i passes (x ∷ xs) = by (kept_times test i passes xs) (eq_by_cmp identity_cmp i x) (test x) refl refl
  where
    by : length (filter (eq_by_cmp identity_cmp i) (filter test xs)) ≡ length (filter (eq_by_cmp identity_cmp i) xs) → (b d : Bool) → eq_by_cmp identity_cmp i x ≡ b → test x ≡ d
        → length (filter (eq_by_cmp identity_cmp i) (cond d (x ∷ filter test xs) (filter test xs))) ≡ length (cond b (x ∷ filter (eq_by_cmp identity_cmp i) xs) (filter (eq_by_cmp identity_cmp i) xs))
    by rest true true e f = ap (λ (b : Bool). length (cond b (x ∷ filter (eq_by_cmp identity_cmp i) (filter test xs)) (filter (eq_by_cmp identity_cmp i) (filter test xs)))) e ∙ ap suc rest
    by rest true false e f =
        let same : i ≡ x = identity_exact i x ((Equal-is (identity_cmp i x)).0 e) in
        absurd (false≢true (sym f ∙ ap test (sym same) ∙ passes))
    by rest false true e f = ap (λ (b : Bool). length (cond b (x ∷ filter (eq_by_cmp identity_cmp i) (filter test xs)) (filter (eq_by_cmp identity_cmp i) (filter test xs)))) e ∙ rest
    by rest false false e f = rest

-- none that ties with an identity passes a test that it doesn't pass
left_times : (test : Identity → Bool) (i : Identity) → test i ≡ false → (xs : List Identity) → times identity_cmp i (filter test xs) ≡ 0
unfolding times
left_times test i fails [] = refl
left_times test i fails (x ∷ xs) = by (left_times test i fails xs) (eq_by_cmp identity_cmp i x) (test x) refl refl
  where
    by : length (filter (eq_by_cmp identity_cmp i) (filter test xs)) ≡ 0 → (b d : Bool) → eq_by_cmp identity_cmp i x ≡ b → test x ≡ d → length (filter (eq_by_cmp identity_cmp i) (cond d (x ∷ filter test xs) (filter test xs))) ≡ 0
    by rest true true e f =
        let same : i ≡ x = identity_exact i x ((Equal-is (identity_cmp i x)).0 e) in
        absurd (false≢true (sym fails ∙ ap test same ∙ f))
    by rest true false e f = rest
    by rest false true e f = ap (λ (b : Bool). length (cond b (x ∷ filter (eq_by_cmp identity_cmp i) (filter test xs)) (filter (eq_by_cmp identity_cmp i) (filter test xs)))) e ∙ rest
    by rest false false e f = rest

module _ (bits : ℕ) (rs : List PacketReport) (marks : List ℕ) (marked : AreMarked bits rs marks) where
  alone : (i : Identity) → get_or marks (number bits i) 0 < 2 → count_at rs i < 2
  alone i h = omega (arith, h, marked.counted i, fewer bits rs i)

  -- where no number is marked twice, no identity is there twice
  pub none_twice : ((i : Identity) → get_or marks (number bits i) 0 < 2) → (i : Identity) → nat_lt 1 (times identity_cmp i []) ≡ nat_lt 1 (count_at rs i)
  unfolding times
  none_twice apart i = let few = alone i (apart i) in tests_alike 1 0 1 (count_at rs i) (λ h. absurd (omega (arith, h))) (λ h. absurd (omega (arith, h, few)))

  -- those whose number is marked twice are there twice just where reports have them twice
  pub still_twice : (i : Identity) → nat_lt 1 (times identity_cmp i (filter (is_again bits marks) (map identity_of rs))) ≡ nat_lt 1 (count_at rs i)
  still_twice i = by (is_again bits marks i) refl
    where
      by : (b : Bool) → is_again bits marks i ≡ b → nat_lt 1 (times identity_cmp i (filter (is_again bits marks) (map identity_of rs))) ≡ nat_lt 1 (count_at rs i)
      by true e = ap (nat_lt 1) (kept_times (is_again bits marks) i e (map identity_of rs) ∙ times_mapped rs i)
      by false e =
          let few = alone i (omega (arith, ltb-false 1 (get_or marks (number bits i) 0) e)) in
          ap (nat_lt 1) (left_times (is_again bits marks) i e (map identity_of rs))
          ∙ tests_alike 1 0 1 (count_at rs i) (λ h. absurd (omega (arith, h))) (λ h. absurd (omega (arith, h, few)))
