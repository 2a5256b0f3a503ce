-- The undisputed reports and the disputed identities with one more report.
use Rattle.std.proofs.Common.{◌≡◌, ℕ, ◌+◌, ◌-◌, ◌<◌, Bool, true, false, not, ◌&&◌, ◌||◌, cond, eqb, List, [], ◌∷◌, length, filter, refl, sym, ap, subst, ◌∙◌, arith}
use Rattle.std.specs.Prelude.{nat_lt}
use Rattle.std.specs.List.Sorted.{IsStrictlySortedBy}
use Rattle.std.specs.Ordering.{eq_by_cmp, is_eq}
use Rattle.std.specs.Cmp.{tied_itself}
use Rattle.std.proofs.lemmas.Bool.{ne_eqb}
use Rattle.std.proofs.lemmas.List.Kept.{IsStrictlySortedBy-filter}
use Rattle.tca_join.specs.Sets.{has, put}
use Rattle.tca_join.proofs.Sets.{has-put, rises_put, only_one}
use Rattle.tca_report.specs.report.Reports.{PacketReport, report_cmp}
use Rattle.tca_report.specs.report.Identities.{identity_of, identity_cmp, identity_total}
use Rattle.tca_report.proofs.lemmas.report.Order.{report_total, report_exact}
use Rattle.tca_report.proofs.lemmas.report.Identities.{identity_exact}
use Rattle.tca_report.specs.declared.report.Identity.{Identity}
use Rattle.tca_log.specs.declared.answer.Added.{Added}
use Rattle.tca_log.specs.declared.answer.Added.TheVariants.{Fresh, Repeat, NewDispute, MoreDispute}
use Rattle.tca_log.specs.Rows.Ordered.{without}
use Rattle.tca_log.specs.Disputes.{has_identity, contents, undisputed, disputed, added, added_to}
use Rattle.tca_log.specs.inside.Logs.{count_at}
use Rattle.tca_log.proofs.Contents.{count_put, has-disputed, disputed_rises, disputed_is, has-filter}
use Rattle.tca_log.proofs.Logs.{same_count, first_one, second_one, further_one}
use Rattle.tca_log.proofs.OrderedRows.Positions.{length_put, length_without}
use Rattle.tca_log.proofs.OrderedRows.Search.{put_there}
use Rattle.tca_log.proofs.Undisputed.{member_counts, undisputed_rises}
use Rattle.tca_log.specs.Next.{reports_after, disputed_after, undisputed_after, kept_after, count_after}
use Rattle.tca_log.proofs.Filters.{alike, has-without, rises_without, filter_put, filter_without}

false_true : (A : Type 0) → false ≡ true → A
false_true A e = absurd cc

-- b: one identity; t: one report; h: it is a member; n: how many its identity has
fresh_member : (b t h : Bool) (n : ℕ) → (t ≡ true → b ≡ true) → (h ≡ true → 0 < n) → (b ≡ true → n ≡ 0) → (eqb (n + cond b 1 0) 1 && (t || h)) ≡ (t || (eqb n 1 && h))
fresh_member true t true n f g e = absurd (let none : n ≡ 0 = e refl in let some : 0 < n = g refl in omega arith)
fresh_member true true false n f g e = let none : n ≡ 0 = e refl in rw none refl
fresh_member true false false n f g e = let none : n ≡ 0 = e refl in rw none refl
fresh_member false true h n f g e = false_true _ (f refl)
fresh_member false false h n f g e = let same : n + 0 ≡ n = omega arith in rw same refl

second_member : (b t h u : Bool) (n : ℕ) → (t ≡ true → b ≡ true) → (b ≡ true → n ≡ 1) → (b ≡ true → h ≡ true → u ≡ true) → (b ≡ false → u ≡ false)
    → (eqb (n + cond b 1 0) 1 && (t || h)) ≡ (not u && (eqb n 1 && h))
second_member true t true true n f e g k = let one : n ≡ 1 = e refl in rw one refl
second_member true t true false n f e g k = false_true _ (g refl refl)
second_member true t false true n f e g k = let one : n ≡ 1 = e refl in rw one refl
second_member true t false false n f e g k = let one : n ≡ 1 = e refl in rw one refl
second_member false true h u n f e g k = false_true _ (f refl)
second_member false false h u n f e g k = let same : n + 0 ≡ n = omega arith in let other : u ≡ false = k refl in rw (same, other) refl

further_member : (b t h : Bool) (n : ℕ) → (t ≡ true → b ≡ true) → (b ≡ true → 1 < n) → (eqb (n + cond b 1 0) 1 && (t || h)) ≡ (eqb n 1 && h)
further_member true t h n f e = let many : 1 < n = e refl in rw (ne_eqb (n + 1) 1 (λ q. omega arith), ne_eqb n 1 (λ q. omega arith)) refl
further_member false true h n f e = false_true _ (f refl)
further_member false false h n f e = let same : n + 0 ≡ n = omega arith in rw same refl

-- a report is undisputed where it is a member and its identity has no other
has-undisputed : (rs : List PacketReport) (q : PacketReport) → has report_cmp (undisputed rs) q ≡ (eqb (count_at rs (identity_of q)) 1 && has report_cmp rs q)
unfolding undisputed
has-undisputed rs q = has-filter report_cmp report_exact (λ r. eqb (length (contents rs (identity_of r))) 1) rs q

-- one report has one identity
one_identity : (q r : PacketReport) → eq_by_cmp report_cmp q r ≡ true → eq_by_cmp identity_cmp (identity_of q) (identity_of r) ≡ true
one_identity q r e = ap (λ x. eq_by_cmp identity_cmp (identity_of x) (identity_of r)) (alike report_cmp report_total report_exact q r e) ∙ ap is_eq (tied_itself identity_total (identity_of r))

-- the only member of an identity
module _ (rs : List PacketReport) (r x : PacketReport) (only : contents rs (identity_of r) ≡ x ∷ []) where
  its_identity : has_identity (identity_of r) x ≡ true
  unfolding contents has
  its_identity =
      let both : (has_identity (identity_of r) x && has report_cmp rs x) ≡ true = sym (has-filter report_cmp report_exact (has_identity (identity_of r)) rs x) ∙ ap (λ xs. has report_cmp xs x) only ∙ ap (λ c. is_eq c || false) (tied_itself report_total x) in
      first (has_identity (identity_of r) x) (has report_cmp rs x) both
    where
      first : (a b : Bool) → (a && b) ≡ true → a ≡ true
      first true b e = refl
      first false b e = e

  pub its_place : has report_cmp rs x ≡ true
  unfolding contents has
  its_place =
      let both : (has_identity (identity_of r) x && has report_cmp rs x) ≡ true = sym (has-filter report_cmp report_exact (has_identity (identity_of r)) rs x) ∙ ap (λ xs. has report_cmp xs x) only ∙ ap (λ c. is_eq c || false) (tied_itself report_total x) in
      second (has_identity (identity_of r) x) (has report_cmp rs x) both
    where
      second : (a b : Bool) → (a && b) ≡ true → b ≡ true
      second true b e = e
      second false b e = absurd cc

  same_identity : identity_of r ≡ identity_of x
  same_identity = alike identity_cmp identity_total identity_exact (identity_of r) (identity_of x) its_identity

  -- a member of that identity is this one
  is_it : (q : PacketReport) → eq_by_cmp identity_cmp (identity_of q) (identity_of r) ≡ true → has report_cmp rs q ≡ true → eq_by_cmp report_cmp x q ≡ true
  unfolding contents has
  is_it q t h =
      let same : identity_of q ≡ identity_of r = alike identity_cmp identity_total identity_exact (identity_of q) (identity_of r) t in
      let own : has_identity (identity_of r) q ≡ true = ap (λ i. eq_by_cmp identity_cmp (identity_of r) i) same ∙ ap is_eq (tied_itself identity_total (identity_of r)) in
      let there : has report_cmp (contents rs (identity_of r)) q ≡ true = has-filter report_cmp report_exact (has_identity (identity_of r)) rs q ∙ (λ i. own i && h i) in
      let ties : eq_by_cmp report_cmp q x ≡ true = or_none (eq_by_cmp report_cmp q x) ∙ ap (λ xs. has report_cmp xs q) (sym only) ∙ there in
      let one : q ≡ x = alike report_cmp report_total report_exact q x ties in
      ap (λ y. eq_by_cmp report_cmp x y) one ∙ ap is_eq (tied_itself report_total x)
    where
      or_none : (b : Bool) → b ≡ (b || false)
      or_none true = refl
      or_none false = refl

  is_apart : (q : PacketReport) → eq_by_cmp identity_cmp (identity_of q) (identity_of r) ≡ false → eq_by_cmp report_cmp x q ≡ false
  is_apart q t =
      elim (eq_by_cmp report_cmp x q) as (λ b. eq_by_cmp report_cmp x q ≡ b → b ≡ false) [
        | true ↦ λ e.
            let one : x ≡ q = alike report_cmp report_total report_exact x q e in
            let tied : eq_by_cmp identity_cmp (identity_of q) (identity_of r) ≡ true = ap (λ y. eq_by_cmp identity_cmp (identity_of y) (identity_of r)) (sym one) ∙ ap (λ i. eq_by_cmp identity_cmp i (identity_of r)) (sym same_identity) ∙ ap is_eq (tied_itself identity_total (identity_of r)) in
            sym tied ∙ t
        | false ↦ λ e. refl
      ] refl

  pub its_undisputed : has report_cmp (undisputed rs) x ≡ true
  its_undisputed = has-undisputed rs x ∙ (λ i. eqb ((ap (count_at rs) (sym same_identity) ∙ ap length only) i) 1 && its_place i)

module _ (rs : List PacketReport) (r : PacketReport) (s : IsStrictlySortedBy report_cmp rs) (new : has report_cmp rs r ≡ false) where
  abbrev news : List PacketReport
  news = put report_cmp r rs

  more : (i : Identity) → count_at news i ≡ count_at rs i + cond (eq_by_cmp identity_cmp i (identity_of r)) 1 0
  more i = count_put rs r i new

  rises : IsStrictlySortedBy report_cmp (undisputed news)
  rises = undisputed_rises news (rises_put report_cmp report_total r rs s)

  now : (q : PacketReport) → has report_cmp (undisputed news) q ≡ (eqb (count_at rs (identity_of q) + cond (eq_by_cmp identity_cmp (identity_of q) (identity_of r)) 1 0) 1 && (eq_by_cmp report_cmp q r || has report_cmp rs q))
  now q = has-undisputed news q ∙ (λ i. eqb (more (identity_of q) i) 1 && has-put report_cmp report_total r rs q i)

  count_is : (n : ℕ) → count_at rs (identity_of r) ≡ n → (i : Identity) → eq_by_cmp identity_cmp i (identity_of r) ≡ true → count_at rs i ≡ n
  count_is n e i t = same_count rs i (identity_of r) t ∙ e

  fresh : count_at rs (identity_of r) ≡ 0 → undisputed news ≡ put report_cmp r (undisputed rs)
  fresh none = only_one report_cmp report_total report_exact (undisputed news) (put report_cmp r (undisputed rs)) rises (rises_put report_cmp report_total r (undisputed rs) (undisputed_rises rs s)) (λ q.
      now q
      ∙ fresh_member (eq_by_cmp identity_cmp (identity_of q) (identity_of r)) (eq_by_cmp report_cmp q r) (has report_cmp rs q) (count_at rs (identity_of q)) (one_identity q r) (member_counts rs q) (count_is 0 none (identity_of q))
      ∙ sym (has-put report_cmp report_total r (undisputed rs) q ∙ ap (λ b. eq_by_cmp report_cmp q r || b) (has-undisputed rs q)))

  further : 1 < count_at rs (identity_of r) → undisputed news ≡ undisputed rs
  further many = only_one report_cmp report_total report_exact (undisputed news) (undisputed rs) rises (undisputed_rises rs s) (λ q.
      now q
      ∙ further_member (eq_by_cmp identity_cmp (identity_of q) (identity_of r)) (eq_by_cmp report_cmp q r) (has report_cmp rs q) (count_at rs (identity_of q)) (one_identity q r) (λ t. subst (λ n. 1 < n) (sym (same_count rs (identity_of q) (identity_of r) t)) many)
      ∙ sym (has-undisputed rs q))

  second : (x : PacketReport) → contents rs (identity_of r) ≡ x ∷ [] → undisputed news ≡ without report_cmp x (undisputed rs)
  second x only = only_one report_cmp report_total report_exact (undisputed news) (without report_cmp x (undisputed rs)) rises (rises_without report_cmp report_total report_exact x (undisputed rs) (undisputed_rises rs s)) (λ q.
      now q
      ∙ second_member (eq_by_cmp identity_cmp (identity_of q) (identity_of r)) (eq_by_cmp report_cmp q r) (has report_cmp rs q) (eq_by_cmp report_cmp x q) (count_at rs (identity_of q)) (one_identity q r) (count_is 1 (ap length only) (identity_of q)) (is_it rs r x only q) (is_apart rs r x only q)
      ∙ sym (has-without report_cmp report_total report_exact x (undisputed rs) q ∙ ap (λ b. not (eq_by_cmp report_cmp x q) && b) (has-undisputed rs q)))

  abbrev tied_at : Identity → Bool
  tied_at i = eq_by_cmp identity_cmp i (identity_of r)

  fresh_disputed : count_at rs (identity_of r) ≡ 0 → disputed rs ≡ disputed news
  fresh_disputed none = disputed_is news (disputed rs) (disputed_rises rs) (λ i. has-disputed rs i ∙ first_one (tied_at i) (count_at rs i) (count_is 0 none i) ∙ ap (nat_lt 1) (sym (more i)))

  second_disputed : count_at rs (identity_of r) ≡ 1 → put identity_cmp (identity_of r) (disputed rs) ≡ disputed news
  second_disputed one = disputed_is news (put identity_cmp (identity_of r) (disputed rs)) (rises_put identity_cmp identity_total (identity_of r) (disputed rs) (disputed_rises rs)) (λ i.
      has-put identity_cmp identity_total (identity_of r) (disputed rs) i
      ∙ ap (λ b. tied_at i || b) (has-disputed rs i)
      ∙ second_one (tied_at i) (count_at rs i) (λ t. subst (λ n. 0 < n) (sym (count_is 1 one i t)) (omega arith))
      ∙ ap (nat_lt 1) (sym (more i)))

  second_new : count_at rs (identity_of r) ≡ 1 → has identity_cmp (disputed rs) (identity_of r) ≡ false
  second_new one = has-disputed rs (identity_of r) ∙ ap (nat_lt 1) one

  further_disputed : 1 < count_at rs (identity_of r) → disputed rs ≡ disputed news
  further_disputed many = disputed_is news (disputed rs) (disputed_rises rs) (λ i.
      has-disputed rs i ∙ further_one (tied_at i) (count_at rs i) (λ t. subst (λ n. 1 < n) (sym (same_count rs i (identity_of r) t)) many) ∙ ap (nat_lt 1) (sym (more i)))

  new_undisputed : (xs : List PacketReport) → contents rs (identity_of r) ≡ xs → undisputed news ≡ undisputed_after (added_to xs) r (undisputed rs)
  new_undisputed [] e = fresh (ap length e)
  new_undisputed (x ∷ []) e = second x e
  new_undisputed (x ∷ y ∷ xs) e = further (omega (arith, ap length e))

  new_disputed : (xs : List PacketReport) → contents rs (identity_of r) ≡ xs → length (disputed news) ≡ disputed_after (added_to xs) (length (disputed rs))
  new_disputed [] e = ap length (sym (fresh_disputed (ap length e)))
  new_disputed (x ∷ []) e = ap length (sym (second_disputed (ap length e))) ∙ length_put identity_cmp identity_total (identity_of r) (disputed rs) (second_new (ap length e))
  new_disputed (x ∷ y ∷ xs) e = ap length (sym (further_disputed (omega (arith, ap length e))))

  new_reports : (xs : List PacketReport) → length news ≡ reports_after (added_to xs) (length rs)
  new_reports [] = length_put report_cmp report_total r rs new
  new_reports (x ∷ []) = length_put report_cmp report_total r rs new
  new_reports (x ∷ y ∷ xs) = length_put report_cmp report_total r rs new

pub undisputed_next : (rs : List PacketReport) (r : PacketReport) → IsStrictlySortedBy report_cmp rs → undisputed (put report_cmp r rs) ≡ undisputed_after (added rs r) r (undisputed rs)
unfolding added
undisputed_next rs r s =
    elim (has report_cmp rs r) as (λ b. has report_cmp rs r ≡ b → undisputed (put report_cmp r rs) ≡ undisputed_after (cond b Repeat (added_to (contents rs (identity_of r)))) r (undisputed rs)) [
      | true ↦ λ h. ap undisputed (put_there report_cmp report_total r rs s h)
      | false ↦ λ h. new_undisputed rs r s h (contents rs (identity_of r)) refl
    ] refl

pub disputed_next : (rs : List PacketReport) (r : PacketReport) → IsStrictlySortedBy report_cmp rs → length (disputed (put report_cmp r rs)) ≡ disputed_after (added rs r) (length (disputed rs))
unfolding added
disputed_next rs r s =
    elim (has report_cmp rs r) as (λ b. has report_cmp rs r ≡ b → length (disputed (put report_cmp r rs)) ≡ disputed_after (cond b Repeat (added_to (contents rs (identity_of r)))) (length (disputed rs))) [
      | true ↦ λ h. ap (λ xs. length (disputed xs)) (put_there report_cmp report_total r rs s h)
      | false ↦ λ h. new_disputed rs r s h (contents rs (identity_of r)) refl
    ] refl

pub reports_next : (rs : List PacketReport) (r : PacketReport) → IsStrictlySortedBy report_cmp rs → length (put report_cmp r rs) ≡ reports_after (added rs r) (length rs)
unfolding added
reports_next rs r s =
    elim (has report_cmp rs r) as (λ b. has report_cmp rs r ≡ b → length (put report_cmp r rs) ≡ reports_after (cond b Repeat (added_to (contents rs (identity_of r)))) (length rs)) [
      | true ↦ λ h. ap length (put_there report_cmp report_total r rs s h)
      | false ↦ λ h. new_reports rs r s h (contents rs (identity_of r))
    ] refl

pub kept_next : (p : PacketReport → Bool) (rs : List PacketReport) (r : PacketReport) → IsStrictlySortedBy report_cmp rs → filter p (undisputed (put report_cmp r rs)) ≡ kept_after p (added rs r) r (filter p (undisputed rs))
kept_next p rs r s = ap (filter p) (undisputed_next rs r s) ∙ by (added rs r)
  where
    by : (a : Added) → filter p (undisputed_after a r (undisputed rs)) ≡ kept_after p a r (filter p (undisputed rs))
    by Fresh = filter_put report_cmp report_total report_exact p r (undisputed rs) (undisputed_rises rs s)
    by Repeat = refl
    by (NewDispute q) = filter_without report_cmp report_total report_exact p q (undisputed rs) (undisputed_rises rs s)
    by MoreDispute = refl

-- a report that is there is a repeat
known_is : (A : Type 0) (rs : List PacketReport) (r : PacketReport) → (Repeat ≡ added rs r → A) → (has report_cmp rs r ≡ false → A) → A
unfolding added
known_is A rs r f g = elim (has report_cmp rs r) as (λ b. has report_cmp rs r ≡ b → A) [
  | true ↦ λ h. f (sym (ap (λ b. cond b Repeat (added_to (contents rs (identity_of r)))) h))
  | false ↦ λ h. g h
] refl

answered_new : (rs : List PacketReport) (r : PacketReport) → has report_cmp rs r ≡ false → added rs r ≡ added_to (contents rs (identity_of r))
unfolding added
answered_new rs r h = ap (λ b. cond b Repeat (added_to (contents rs (identity_of r)))) h

repeat_fresh : (A : Type 0) → Repeat ≡ Fresh → A
repeat_fresh A e = absurd cc

repeat_dispute : (A : Type 0) (q : PacketReport) → Repeat ≡ NewDispute q → A
repeat_dispute A q e = absurd cc

pub fresh_is_new : (p : PacketReport → Bool) (rs : List PacketReport) (r : PacketReport) → added rs r ≡ Fresh → has report_cmp (filter p (undisputed rs)) r ≡ false
fresh_is_new p rs r e =
    known_is _ rs r (λ h. repeat_fresh _ (h ∙ e)) (λ h.
    has-filter report_cmp report_exact p (undisputed rs) r
    ∙ ap (λ b. p r && b) (has-undisputed rs r ∙ ap (λ b. eqb (count_at rs (identity_of r)) 1 && b) h ∙ and_false (eqb (count_at rs (identity_of r)) 1))
    ∙ and_false (p r))
  where
    and_false : (b : Bool) → (b && false) ≡ false
    and_false true = refl
    and_false false = refl

withdrawn_only : (xs : List PacketReport) (q : PacketReport) → added_to xs ≡ NewDispute q → xs ≡ q ∷ []
withdrawn_only [] q e = absurd cc
withdrawn_only (x ∷ []) q e = let same : x ≡ q = cc in rw same refl
withdrawn_only (x ∷ y ∷ xs) q e = absurd cc

pub withdrawn_is_there : (p : PacketReport → Bool) (rs : List PacketReport) (r q : PacketReport) → added rs r ≡ NewDispute q → p q ≡ true → has report_cmp (filter p (undisputed rs)) q ≡ true
withdrawn_is_there p rs r q e so =
    known_is _ rs r (λ h. repeat_dispute _ q (h ∙ e)) (λ h.
    let only : contents rs (identity_of r) ≡ q ∷ [] = withdrawn_only (contents rs (identity_of r)) q (sym (answered_new rs r h) ∙ e) in
    has-filter report_cmp report_exact p (undisputed rs) q ∙ (λ i. so i && its_undisputed rs r q only i))

pub count_next : (p : PacketReport → Bool) (rs : List PacketReport) (r : PacketReport) → IsStrictlySortedBy report_cmp rs → length (filter p (undisputed (put report_cmp r rs))) ≡ count_after p (added rs r) r (length (filter p (undisputed rs)))
count_next p rs r s = ap length (kept_next p rs r s) ∙ by (added rs r) refl
  where
    rises_us : IsStrictlySortedBy report_cmp (filter p (undisputed rs))
    rises_us = IsStrictlySortedBy-filter report_cmp p (undisputed rs) (undisputed_rises rs s)

    by : (a : Added) → added rs r ≡ a → length (kept_after p a r (filter p (undisputed rs))) ≡ count_after p a r (length (filter p (undisputed rs)))
    by Fresh e = elim (p r) as (λ b. length (cond b (put report_cmp r (filter p (undisputed rs))) (filter p (undisputed rs))) ≡ cond b (length (filter p (undisputed rs)) + 1) (length (filter p (undisputed rs)))) [
      | true ↦ length_put report_cmp report_total r (filter p (undisputed rs)) (fresh_is_new p rs r e)
      | false ↦ refl
    ]
    by Repeat e = refl
    by (NewDispute q) e = elim (p q) as (λ b. p q ≡ b → length (cond b (without report_cmp q (filter p (undisputed rs))) (filter p (undisputed rs))) ≡ cond b (length (filter p (undisputed rs)) - 1) (length (filter p (undisputed rs)))) [
      | true ↦ λ so. omega (arith, length_without report_cmp report_total q (filter p (undisputed rs)) rises_us (withdrawn_is_there p rs r q e so))
      | false ↦ λ n. refl
    ] refl
    by MoreDispute e = refl
