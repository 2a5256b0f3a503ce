-- A mark for each place of some spans: how many reports have its identity, up to 2.
use Rattle.std.proofs.Common.{◌≡◌, ℕ, ◌+◌, ◌<◌, Bool, true, false, ◌||◌, cond, List, [], ◌∷◌, ◌++◌, length, get_or, set, replicate, refl, sym, ap, ◌∙◌, arith, get_or-set_same, get_or-set_other}
use Rattle.std.specs.Prelude.{min, nat_lt, nat_eq, ◌≢◌}
use Rattle.std.specs.List.{AllByRecursion}
use Rattle.std.specs.Ordering.{eq_by_cmp, is_eq}
use Rattle.std.specs.Cmp.{Equal-is, tied_itself}
use Rattle.std.proofs.lemmas.Bool.{false≢true, eqb-true, eqb-false}
use Rattle.std.proofs.lemmas.List.{get_or-replicate, length-replicate, length-set}
use borrow.Author.Tests.{ltb-true, ltb-false}
use Rattle.tca_join.specs.Sets.{has}
use Rattle.tca_join.proofs.Sets.{has-append}
use Rattle.tca_report.specs.report.Reports.{PacketReport}
use Rattle.tca_report.specs.report.Identities.{identity_of, identity_cmp, identity_total}
use Rattle.tca_report.specs.declared.report.Identity.{Identity}
use Rattle.tca_report.proofs.lemmas.report.Identities.{identity_exact}
use Rattle.tca_log.specs.declared.span.Span.{Span}
use Rattle.tca_log.specs.Disputes.{contents}
use Rattle.tca_log.specs.inside.Logs.{count_at}
use Rattle.tca_log.specs.inside.Spans.{IsAmong, one_more, slot, widths}
use Rattle.tca_log.proofs.Contents.{tests_alike}
use Rattle.tca_log.proofs.ReportAdditions.{count_snoc}
use Rattle.tca_log.proofs.Slots.{slot_apart, slot_within}

-- the marks, and the identities that two or more have, of reports that were seen
pub record AreMarked (spans : List Span) (seen : List PacketReport) (marks : List ℕ) (again : List Identity) : Type 0 where
  pub size : length marks ≡ widths spans
  pub counted : (i : Identity) → IsAmong spans i → get_or marks (slot spans i) 0 ≡ min 2 (count_at seen i)
  pub twice : (i : Identity) → has identity_cmp again i ≡ nat_lt 1 (count_at seen i)

pub marked_none : (spans : List Span) → AreMarked spans [] (replicate (widths spans) 0) []
unfolding contents has
marked_none spans = record {
  size = length-replicate (widths spans) 0;
  counted = λ i w. get_or-replicate (widths spans) (slot spans i) 0 0 (slot_within spans i w);
  twice = λ i. refl;
}

pub one_more_is : (n : ℕ) → one_more (min 2 n) ≡ min 2 (n + 1)
one_more_is n =
    elim (nat_lt (min 2 n) 2) as (λ b. nat_lt (min 2 n) 2 ≡ b → cond b (min 2 n + 1) 2 ≡ min 2 (n + 1)) [
      | true ↦ λ e. let low = ltb-true (min 2 n) 2 e in omega (arith, low)
      | false ↦ λ e. let high = ltb-false (min 2 n) 2 e in omega (arith, high)
    ] refl

module _ (spans : List Span) (seen : List PacketReport) (marks new : List ℕ) (again more : List Identity) (r : PacketReport) (so_far : AreMarked spans seen marks again) (within : IsAmong spans (identity_of r))
    (marked : new ≡ set marks (slot spans (identity_of r)) (one_more (get_or marks (slot spans (identity_of r)) 0)))
    (gains : more ≡ cond (nat_eq (get_or marks (slot spans (identity_of r)) 0) 1) (again ++ identity_of r ∷ []) again) where
  was : get_or marks (slot spans (identity_of r)) 0 ≡ min 2 (count_at seen (identity_of r))
  was = so_far.counted (identity_of r) within

  tied : (i : Identity) → i ≡ identity_of r → eq_by_cmp identity_cmp i (identity_of r) ≡ true
  tied i same = ap (λ (x : Identity). eq_by_cmp identity_cmp x (identity_of r)) same ∙ ap is_eq (tied_itself identity_total (identity_of r))

  elsewhere : (i : Identity) → IsAmong spans i → eq_by_cmp identity_cmp i (identity_of r) ≡ false → slot spans i ≡ slot spans (identity_of r) → ⊥
  elsewhere i w apart at = false≢true (sym apart ∙ tied i (slot_apart spans i (identity_of r) w within at))

  count_same : (i : Identity) → eq_by_cmp identity_cmp i (identity_of r) ≡ true → count_at (seen ++ r ∷ []) i ≡ count_at seen i + 1
  count_same i e = count_snoc seen r i ∙ ap (λ (b : Bool). count_at seen i + cond b 1 0) e

  count_other : (i : Identity) → eq_by_cmp identity_cmp i (identity_of r) ≡ false → count_at (seen ++ r ∷ []) i ≡ count_at seen i
  count_other i e = let more_none : count_at (seen ++ r ∷ []) i ≡ count_at seen i + 0 = count_snoc seen r i ∙ ap (λ (b : Bool). count_at seen i + cond b 1 0) e in omega (arith, more_none)

  exact : (i : Identity) → eq_by_cmp identity_cmp i (identity_of r) ≡ true → i ≡ identity_of r
  exact i e = identity_exact i (identity_of r) ((Equal-is (identity_cmp i (identity_of r))).0 e)

  at_it : get_or new (slot spans (identity_of r)) 0 ≡ min 2 (count_at seen (identity_of r) + 1)
  at_it =
      let number = slot_within spans (identity_of r) within in
      let inside : slot spans (identity_of r) < length marks = omega (arith, number, so_far.size) in
      ap (λ (l : List ℕ). get_or l (slot spans (identity_of r)) 0) marked
      ∙ get_or-set_same marks (slot spans (identity_of r)) (one_more (get_or marks (slot spans (identity_of r)) 0)) 0 inside
      ∙ ap one_more was
      ∙ one_more_is (count_at seen (identity_of r))

  counted_more : (i : Identity) → IsAmong spans i → get_or new (slot spans i) 0 ≡ min 2 (count_at (seen ++ r ∷ []) i)
  counted_more i w = by (eq_by_cmp identity_cmp i (identity_of r)) refl
    where
      by : (b : Bool) → eq_by_cmp identity_cmp i (identity_of r) ≡ b → get_or new (slot spans i) 0 ≡ min 2 (count_at (seen ++ r ∷ []) i)
      by true e =
          let same = exact i e in
          ap (λ (x : Identity). get_or new (slot spans x) 0) same ∙ at_it ∙ ap (λ (x : Identity). min 2 (count_at seen x + 1)) (sym same) ∙ ap (min 2) (sym (count_same i e))
      by false e =
          let apart : (slot spans i) ≢ (slot spans (identity_of r)) = λ at. elsewhere i w e at in
          ap (λ (l : List ℕ). get_or l (slot spans i) 0) marked
          ∙ get_or-set_other marks (slot spans (identity_of r)) (slot spans i) (one_more (get_or marks (slot spans (identity_of r)) 0)) 0 apart
          ∙ so_far.counted i w
          ∙ ap (min 2) (sym (count_other i e))

  last : (i : Identity) → has identity_cmp (again ++ identity_of r ∷ []) i ≡ (has identity_cmp again i || (eq_by_cmp identity_cmp i (identity_of r) || false))
  unfolding has
  last i = has-append identity_cmp identity_total again (identity_of r ∷ []) i

  pushed : count_at seen (identity_of r) ≡ 1 → (i : Identity) → has identity_cmp (again ++ identity_of r ∷ []) i ≡ nat_lt 1 (count_at (seen ++ r ∷ []) i)
  pushed one i = last i ∙ by (eq_by_cmp identity_cmp i (identity_of r)) refl
    where
      or_true : (b : Bool) → (b || true) ≡ true
      or_true true = refl
      or_true false = refl

      or_false : (b : Bool) → (b || false) ≡ b
      or_false true = refl
      or_false false = refl

      by : (b : Bool) → eq_by_cmp identity_cmp i (identity_of r) ≡ b → (has identity_cmp again i || (b || false)) ≡ nat_lt 1 (count_at (seen ++ r ∷ []) i)
      by true e =
          let first : count_at seen i ≡ 1 = ap (λ (x : Identity). count_at seen x) (exact i e) ∙ one in
          or_true (has identity_cmp again i) ∙ ap (λ (n : ℕ). nat_lt 1 (n + 1)) (sym first) ∙ ap (nat_lt 1) (sym (count_same i e))
      by false e = or_false (has identity_cmp again i) ∙ so_far.twice i ∙ ap (nat_lt 1) (sym (count_other i e))

  kept : (count_at seen (identity_of r) ≡ 1 → ⊥) → (i : Identity) → has identity_cmp again i ≡ nat_lt 1 (count_at (seen ++ r ∷ []) i)
  kept not_one i = so_far.twice i ∙ by (eq_by_cmp identity_cmp i (identity_of r)) refl
    where
      by : (b : Bool) → eq_by_cmp identity_cmp i (identity_of r) ≡ b → nat_lt 1 (count_at seen i) ≡ nat_lt 1 (count_at (seen ++ r ∷ []) i)
      by true e =
          let unlike : count_at seen i ≢ 1 = λ is. not_one (ap (λ (x : Identity). count_at seen x) (sym (exact i e)) ∙ is) in
          tests_alike 1 (count_at seen i) 1 (count_at seen i + 1) (λ h. omega (arith, h)) (λ h. omega (arith, h, unlike)) ∙ ap (nat_lt 1) (sym (count_same i e))
      by false e = ap (nat_lt 1) (sym (count_other i e))

  twice_more : (i : Identity) → has identity_cmp more i ≡ nat_lt 1 (count_at (seen ++ r ∷ []) i)
  twice_more i =
      ap (λ (l : List Identity). has identity_cmp l i) gains
      ∙ elim (nat_eq (get_or marks (slot spans (identity_of r)) 0) 1) as (λ b. nat_eq (get_or marks (slot spans (identity_of r)) 0) 1 ≡ b → has identity_cmp (cond b (again ++ identity_of r ∷ []) again) i ≡ nat_lt 1 (count_at (seen ++ r ∷ []) i)) [
        | true ↦ λ e. let m = eqb-true (get_or marks (slot spans (identity_of r)) 0) 1 e in pushed (omega (arith, m, was)) i
        | false ↦ λ e. let m = eqb-false (get_or marks (slot spans (identity_of r)) 0) 1 e in kept (λ one. m (omega (arith, one, was))) i
      ] refl

  pub marked_more : AreMarked spans (seen ++ r ∷ []) new more
  marked_more = record {
    size = ap length marked ∙ length-set marks (slot spans (identity_of r)) (one_more (get_or marks (slot spans (identity_of r)) 0)) ∙ so_far.size;
    counted = counted_more;
    twice = twice_more;
  }

-- what holds of each and of one more
pub all_and_one : (P : PacketReport → Type 0) (rs : List PacketReport) (r : PacketReport) → AllByRecursion P rs → P r → AllByRecursion P (rs ++ r ∷ [])
all_and_one P [] r h p = (p, tt)
all_and_one P (x ∷ xs) r h p = (h.0, all_and_one P xs r h.1 p)
