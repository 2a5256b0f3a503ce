-- The reports of two sets told apart, one after another.
use Rattle.std.proofs.Common.{◌≡◌, ◌∙◌, ◌+◌, ◌&&◌, ℕ, Bool, true, false, not, List, [], ◌∷◌, ◌++◌, length, map, ap, sym, refl}
use Rattle.std.specs.List.{filter}
use Rattle.std.proofs.lemmas.List.{append-nil, length-append, map-append}
use Rattle.std.proofs.lemmas.List.Elements.{filter-append}
use Rattle.tca_join.specs.Sets.{has}
use Rattle.tca_report.specs.report.Reports.{PacketReport, report_cmp}
use Rattle.tcatool.specs.Diffed.{sided}
use Rattle.tcatool.specs.declared.diff.LoneReport.{LoneReport}
use Rattle.tcatool.specs.declared.diff.Side.TheVariants.{A, B}

-- a member that a test keeps, and one that it doesn't
pub kept : {X : Type 0} (p : X → Bool) (xs : List X) (x : X) → p x ≡ true → filter p (xs ++ x ∷ []) ≡ filter p xs ++ x ∷ []
kept p xs x keeps = filter-append p xs (x ∷ []) ∙ rw keeps refl

pub left : {X : Type 0} (p : X → Bool) (xs : List X) (x : X) → p x ≡ false → filter p (xs ++ x ∷ []) ≡ filter p xs
left p xs x leaves = filter-append p xs (x ∷ []) ∙ rw leaves (append-nil (filter p xs))

pub counted : {X : Type 0} (p : X → Bool) (xs : List X) (x : X) → p x ≡ true → length (filter p (xs ++ x ∷ [])) ≡ length (filter p xs) + 1
counted p xs x keeps = ap length (kept p xs x keeps) ∙ length-append (filter p xs) (x ∷ [])

pub not_counted : {X : Type 0} (p : X → Bool) (xs : List X) (x : X) → p x ≡ false → length (filter p (xs ++ x ∷ [])) ≡ length (filter p xs)
not_counted p xs x leaves = ap length (left p xs x leaves)

module _ (a b : List PacketReport) where
  -- what was told of the first reports of both sets: which of them one set alone has, and how many there are of each kind
  pub record IsTold (xs : List PacketReport) (rows : List LoneReport) (only_a only_b both : ℕ) : Type 0 where
    pub rows_are : rows ≡ map (sided a) (filter (λ r. not (has report_cmp a r && has report_cmp b r)) xs)
    pub first : only_a ≡ length (filter (λ r. has report_cmp a r && not (has report_cmp b r)) xs)
    pub second : only_b ≡ length (filter (λ r. not (has report_cmp a r)) xs)
    pub shared : both ≡ length (filter (λ r. has report_cmp a r && has report_cmp b r) xs)

  pub none_told : IsTold [] [] 0 0 0
  none_told = record { rows_are = refl; first = refl; second = refl; shared = refl }

  module _ (xs : List PacketReport) (rows more : List LoneReport) (only_a only_b both : ℕ) (so_far : IsTold xs rows only_a only_b both) (r : PacketReport) where
    abbrev lone_test : PacketReport → Bool
    lone_test q = not (has report_cmp a q && has report_cmp b q)

    one_row : lone_test r ≡ true → (row : LoneReport) → row ≡ sided a r → more ≡ rows ++ row ∷ [] → more ≡ map (sided a) (filter lone_test (xs ++ r ∷ []))
    one_row keeps row its pushed =
        pushed
        ∙ ap (λ (q : LoneReport). rows ++ q ∷ []) its
        ∙ ap (λ (l : List LoneReport). l ++ sided a r ∷ []) so_far.rows_are
        ∙ sym (ap (map (sided a)) (kept lone_test xs r keeps) ∙ map-append (sided a) (filter lone_test xs) (r ∷ []))

    -- one report more that the second set alone has
    pub second_told : has report_cmp a r ≡ false → (row : LoneReport) → row ≡ record { side = B; report = r } → more ≡ rows ++ row ∷ [] → IsTold (xs ++ r ∷ []) more only_a (only_b + 1) both
    second_told out row is pushed = record {
      rows_are = one_row (rw out refl) row (is ∙ rw out refl) pushed;
      first = so_far.first ∙ sym (not_counted (λ q. has report_cmp a q && not (has report_cmp b q)) xs r (rw out refl));
      second = ap (λ n. n + 1) so_far.second ∙ sym (counted (λ q. not (has report_cmp a q)) xs r (rw out refl));
      shared = so_far.shared ∙ sym (not_counted (λ q. has report_cmp a q && has report_cmp b q) xs r (rw out refl));
    }

    -- one that the first alone has
    pub first_told : has report_cmp a r ≡ true → has report_cmp b r ≡ false → (row : LoneReport) → row ≡ record { side = A; report = r } → more ≡ rows ++ row ∷ [] → IsTold (xs ++ r ∷ []) more (only_a + 1) only_b both
    first_told inside out row is pushed = record {
      rows_are = one_row (rw (inside, out) refl) row (is ∙ rw inside refl) pushed;
      first = ap (λ n. n + 1) so_far.first ∙ sym (counted (λ q. has report_cmp a q && not (has report_cmp b q)) xs r (rw (inside, out) refl));
      second = so_far.second ∙ sym (not_counted (λ q. not (has report_cmp a q)) xs r (rw inside refl));
      shared = so_far.shared ∙ sym (not_counted (λ q. has report_cmp a q && has report_cmp b q) xs r (rw (inside, out) refl));
    }

    -- one that both have
    pub shared_told : has report_cmp a r ≡ true → has report_cmp b r ≡ true → IsTold (xs ++ r ∷ []) rows only_a only_b (both + 1)
    shared_told inside also = record {
      rows_are = so_far.rows_are ∙ sym (ap (map (sided a)) (left lone_test xs r (rw (inside, also) refl)));
      first = so_far.first ∙ sym (not_counted (λ q. has report_cmp a q && not (has report_cmp b q)) xs r (rw (inside, also) refl));
      second = so_far.second ∙ sym (not_counted (λ q. not (has report_cmp a q)) xs r (rw inside refl));
      shared = ap (λ n. n + 1) so_far.shared ∙ sym (counted (λ q. has report_cmp a q && has report_cmp b q) xs r (rw (inside, also) refl));
    }
