-- The reports of a set beside those that no other disputes, both in order.
use Rattle.std.proofs.Common.{◌≡◌, ◌∙◌, Bool, true, false, ◌&&◌, cond, List, [], ◌∷◌, ◌++◌, append_assoc, Option, Some, None, Bor, ap, sym, subst, refl}
use Rattle.std.specs.Prelude.{map, filter, MatchOption}
use Rattle.std.specs.List.{AllByRecursion}
use Rattle.std.specs.List.Sorted.{IsStrictlySortedBy}
use Rattle.std.specs.Cmp.{tied_itself}
use Rattle.std.specs.Ordering.{eq_by_cmp}
use Rattle.std.specs.declared.cmp.Ordering.TheVariants.{Less}
use Rattle.tca_join.specs.Sets.{has}
use Rattle.tca_report.specs.report.Reports.{PacketReport, report_cmp}
use Rattle.tca_report.proofs.lemmas.report.Order.{report_total, report_exact}
use Rattle.tca_log.specs.Disputes.{undisputed}
use Rattle.tca_log.proofs.Contents.{has-filter}
use Rattle.tca_log.proofs.OrderedRows.Each.{members}
use Rattle.tca_log.proofs.OrderedRows.Parts.{turned}
use Rattle.tcatool.specs.Listed.{is_settled, item_alone}
use Rattle.tcatool.specs.inside.Settling.{ahead, is_next}
use Rattle.tcatool.specs.inside.Sharing.{settled_in}
use Rattle.tcatool.specs.declared.item.Item.{Item}

filter_among : (p q : PacketReport → Bool) (xs : List PacketReport) → AllByRecursion (λ x. p x ≡ q x) xs → filter p xs ≡ filter q xs
filter_among p q [] h = refl
filter_among p q (x ∷ xs) h = (λ i. cond (h.0 i) (x ∷ filter_among p q xs h.1 i) (filter_among p q xs h.1 i))

and_true : (a b : Bool) → b ≡ true → a ≡ (a && b)
and_true true b h = sym h
and_true false b h = refl

each_as : (p : PacketReport → Bool) (rs xs : List PacketReport) → AllByRecursion (λ x. has report_cmp rs x ≡ true) xs → AllByRecursion (λ x. p x ≡ has report_cmp (filter p rs) x) xs
each_as p rs [] h = tt
each_as p rs (x ∷ xs) h = (and_true (p x) (has report_cmp rs x) h.0 ∙ sym (has-filter report_cmp report_exact p rs x), each_as p rs xs h.1)

-- the undisputed reports are those of a set that are settled
pub settled_are : (rs : List PacketReport) → undisputed rs ≡ filter (is_settled rs) rs
unfolding undisputed
settled_are rs = filter_among _ _ rs (each_as _ rs rs (members report_cmp report_total rs))

-- the reports of settled items are the undisputed ones
pub settled_alone : (rs : List PacketReport) → settled_in (map (item_alone rs) rs) ≡ undisputed rs
settled_alone rs = of rs ∙ sym (settled_are rs)
  where
    of : (xs : List PacketReport) → settled_in (map (item_alone rs) xs) ≡ filter (is_settled rs) xs
    of [] = refl
    of (x ∷ xs) =
        elim (is_settled rs x) as (λ b. map (λ (i : Item). i.report) (cond b (item_alone rs x ∷ filter (λ (i : Item). i.is_settled) (map (item_alone rs) xs)) (filter (λ (i : Item). i.is_settled) (map (item_alone rs) xs))) ≡ cond b (x ∷ filter (is_settled rs) xs) (filter (is_settled rs) xs)) [
          | true ↦ ap (λ (l : List PacketReport). x ∷ l) (of xs)
          | false ↦ of xs
        ]

-- no item has a share yet
pub none_yet : (rs xs : List PacketReport) → AllByRecursion (λ (i : Item). i.share ≡ None) (map (item_alone rs) xs)
none_yet rs [] = tt
none_yet rs (x ∷ xs) = (refl, none_yet rs xs)

-- what comes next, and those behind it, are what was there
pub ahead_from : (before : List PacketReport) (next : Option (Bor PacketReport)) (later : List PacketReport) → MatchOption next ((before ≡ []) × (later ≡ [])) (λ x. before ≡ x.now ∷ later) → ahead next later ≡ before
ahead_from before None later steps = sym steps.0
ahead_from before (Some r) later steps = sym steps

all_kept : (P : PacketReport → Type 0) (p : PacketReport → Bool) (xs : List PacketReport) → AllByRecursion P xs → AllByRecursion P (filter p xs)
all_kept P p [] h = tt
all_kept P p (x ∷ xs) h = elim (p x) as (λ b. AllByRecursion P (cond b (x ∷ filter p xs) (filter p xs))) [ true ↦ (h.0, all_kept P p xs h.1) | false ↦ all_kept P p xs h.1 ]

module _ (p : PacketReport → Bool) (r : PacketReport) (rest : List PacketReport) (rises : IsStrictlySortedBy report_cmp (r ∷ rest)) where
  -- a report that is kept comes next, and one that isn't doesn't
  pub next_is : (next : Option (Bor PacketReport)) (later : List PacketReport) → ahead next later ≡ filter p (r ∷ rest) → is_next next r ≡ p r
  unfolding IsStrictlySortedBy
  next_is None later h =
      elim (p r) as (λ b. [] ≡ cond b (r ∷ filter p rest) (filter p rest) → false ≡ b) [ true ↦ λ e. absurd cc | false ↦ λ e. refl ] h
  next_is (Some q) later h =
      elim (p r) as (λ b. q.now ∷ later ≡ cond b (r ∷ filter p rest) (filter p rest) → eq_by_cmp report_cmp q.now r ≡ b) [
        | true ↦ λ e. let same : q.now ≡ r = cc in rw (same, tied_itself report_total r) refl
        | false ↦ λ e.
            let above : AllByRecursion (λ x. report_cmp r x ≡ Less) (q.now ∷ later) = subst (AllByRecursion (λ x. report_cmp r x ≡ Less)) (sym e) (all_kept (λ x. report_cmp r x ≡ Less) p rest rises.0) in
            rw (turned report_cmp report_total r q.now Less above.0) refl
      ] h

  -- behind a report that is kept come those behind it
  pub passed : (next : Option (Bor PacketReport)) (later : List PacketReport) → ahead next later ≡ filter p (r ∷ rest) → p r ≡ true → later ≡ filter p rest
  passed None later h is = absurd (let e : [] ≡ r ∷ filter p rest = h ∙ ap (λ b. cond b (r ∷ filter p rest) (filter p rest)) is in cc)
  passed (Some q) later h is = let e : q.now ∷ later ≡ r ∷ filter p rest = h ∙ ap (λ b. cond b (r ∷ filter p rest) (filter p rest)) is in cc

  -- one that isn't kept leaves them as they are
  pub left_out : (ahead_of : List PacketReport) → ahead_of ≡ filter p (r ∷ rest) → p r ≡ false → ahead_of ≡ filter p rest
  left_out ahead_of h is = h ∙ ap (λ b. cond b (r ∷ filter p rest) (filter p rest)) is

  -- after a report that came next, the one after it does; any other leaves them as they are
  pub went_on : (next : Option (Bor PacketReport)) (later : List PacketReport) → ahead next later ≡ filter p (r ∷ rest) → is_next next r ≡ true
      → (then : Option (Bor PacketReport)) (left : List PacketReport) → MatchOption then ((later ≡ []) × (left ≡ [])) (λ x. later ≡ x.now ∷ left) → ahead then left ≡ filter p rest
  went_on next later h here then left steps = ahead_from later then left steps ∙ passed next later h (sym (next_is next later h) ∙ here)

  pub stayed : (next : Option (Bor PacketReport)) (later : List PacketReport) → ahead next later ≡ filter p (r ∷ rest) → is_next next r ≡ false → ahead next later ≡ filter p rest
  stayed next later h apart = left_out (ahead next later) h (sym (next_is next later h) ∙ apart)

-- one item more
pub item_more : (rs : List PacketReport) (items more : List Item) (r : PacketReport) (rest : List PacketReport) (item : Item) → items ++ map (item_alone rs) (r ∷ rest) ≡ map (item_alone rs) rs → item ≡ item_alone rs r → more ≡ items ++ item ∷ []
    → more ++ map (item_alone rs) rest ≡ map (item_alone rs) rs
item_more rs items more r rest item so_far is grows =
    ap (λ (l : List Item). l ++ map (item_alone rs) rest) (grows ∙ ap (λ (x : Item). items ++ x ∷ []) is) ∙ append_assoc items (item_alone rs r ∷ []) (map (item_alone rs) rest) ∙ so_far
