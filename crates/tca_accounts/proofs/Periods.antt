-- The spans of reports with one more, whose period is none before theirs.
use Rattle.std.proofs.Common.{◌≡◌, ℕ, ◌<◌, ◌≤◌, ◌||◌, cond, eqb, Bool, true, false, List, [], ◌∷◌, ◌++◌, Option, Some, None, refl, sym, ap, ◌∙◌, subst, inl, inr, arith}
use Rattle.std.specs.Prelude.{map, MatchOption}
use Rattle.std.specs.List.{AllByRecursion}
use Rattle.std.specs.List.Sorted.{IsStrictlySortedBy}
use Rattle.std.specs.Ordering.{nat_cmp, is_eq}
use Rattle.std.specs.declared.cmp.Ordering.TheVariants.{Less, Equal}
use Rattle.std.proofs.lemmas.Bool.{cases_eq, cases_lt, eq-eqb, eqb-true, eqb-false, ne_eqb, false≢true}
use Rattle.std.proofs.lemmas.Cmp.{ranked, nat_cmp_total}
use Rattle.std.proofs.lemmas.List.{append-nil, map_push}
use Rattle.std.proofs.lemmas.List.Elements.{filter-append}
use Rattle.tca_join.specs.Sets.{has, in_order}
use Rattle.tca_join.proofs.Sets.{all_more, has-append, has-in_order, rises_in_order, ordered_is}
use Rattle.tca_join.proofs.Positions.{less_is, equal_is, greater_is}
use Rattle.tca_report.specs.report.Reports.{PacketReport}
use Rattle.tca_meters.specs.declared.colour.Colour.{Colour}
use Rattle.tca_accounts.specs.Sums.{ColourSums, sums_of, with_packet}
use Rattle.tca_accounts.specs.Spans.{Ascend, period_of, within, spans_of}
use Rattle.tca_accounts.specs.Metering.{with_last, closed_by, sums_in, no_sums}
use Rattle.tca_accounts.specs.declared.span.Span.{Span}
use Rattle.tca_accounts.proofs.Counting.{sums_push}

exact : (m n : ℕ) → nat_cmp m n ≡ Equal → m ≡ n
exact m n h = ranked m n Equal (sym h)

less : (m n : ℕ) → nat_cmp m n ≡ Less → m < n
less m n h = ranked m n Less (sym h)

or_true : (b : Bool) → (b || true) ≡ true
or_true true = refl
or_true false = refl

or_false : (b : Bool) → (b || false) ≡ b
or_false true = refl
or_false false = refl

neither : (a b : Bool) → (a || b) ≡ false → (a ≡ false) × (b ≡ false)
neither true b h = absurd cc
neither false b h = (refl, h)

pub all_push : {K : Type 0} (P : K → Type 0) (xs : List K) (x : K) → AllByRecursion P xs → P x → AllByRecursion P (xs ++ x ∷ [])
all_push P [] x h p = (p, tt)
all_push P (y ∷ xs) x h p = (h.0, all_push P xs x h.1 p)

all_front : {K : Type 0} (P : K → Type 0) (xs : List K) (x : K) → AllByRecursion P (xs ++ x ∷ []) → AllByRecursion P xs × P x
all_front P [] x h = (tt, h.0)
all_front P (y ∷ xs) x h = let rest = all_front P xs x h.1 in ((h.0, rest.0), rest.1)

-- a list of numbers with a greater one still rises
rises_push : (ks : List ℕ) (i : ℕ) → IsStrictlySortedBy nat_cmp ks → AllByRecursion (λ k. k < i) ks → IsStrictlySortedBy nat_cmp (ks ++ i ∷ [])
unfolding IsStrictlySortedBy
rises_push [] i s h = (tt, tt)
rises_push (k ∷ ks) i s h = (all_push (λ m. nat_cmp k m ≡ Less) ks i s.0 (less_is k i h.0), rises_push ks i s.1 h.1)

not_among : (ks : List ℕ) (i : ℕ) → AllByRecursion (λ k. k < i) ks → has nat_cmp ks i ≡ false
unfolding has
not_among [] i h = refl
not_among (k ∷ ks) i h = rw (greater_is i k h.0) (not_among ks i h.1)

only : (i q : ℕ) → (q ≡ i → ⊥) → has nat_cmp (i ∷ []) q ≡ false
unfolding has
only i q h = elim (cases_lt q i) [
  | inl below ↦ rw (less_is q i below) refl
  | inr above ↦ rw (greater_is q i (omega arith)) refl
]

itself : (i : ℕ) → has nat_cmp (i ∷ []) i ≡ true
unfolding has
itself i = rw (equal_is i i refl) refl

indexes_below : (i : ℕ) (spans : List Span) → AllByRecursion (λ s. s.index < i) spans → AllByRecursion (λ k. k < i) (map (λ s. s.index) spans)
indexes_below i [] h = tt
indexes_below i (s ∷ spans) h = (h.0, indexes_below i spans h.1)

last_index : (P : ℕ → Type 0) (ended : List Span) (s : Span) → AllByRecursion P (map (λ x. x.index) (ended ++ s ∷ [])) → P s.index
last_index P [] s h = h.0
last_index P (x ∷ ended) s h = last_index P ended s h.1

-- the spans before the last one are of earlier periods
before_last : (ended : List Span) (s : Span) → Ascend (ended ++ s ∷ []) → AllByRecursion (λ x. x.index < s.index) ended
unfolding IsStrictlySortedBy
before_last [] s h = tt
before_last (x ∷ ended) s h = (less x.index s.index (last_index (λ m. nat_cmp x.index m ≡ Less) ended s h.0), before_last ended s h.1)

module _ (period : ℕ) where
  abbrev keys : List (PacketReport × Colour) → List ℕ
  keys pairs = map (λ p. period_of period p.0) pairs

  abbrev span_at : List (PacketReport × Colour) → ℕ → Span
  span_at pairs index = record { index = index; sums = sums_of (within period index pairs) }

  abbrev HasSums : List (PacketReport × Colour) → Span → Type 0
  HasSums pairs s = s.sums ≡ sums_of (within period s.index pairs)

  -- the spans rise, are of just the periods of these reports, and each has their sums
  pub record AreSpans (pairs : List (PacketReport × Colour)) (spans : List Span) : Type 0 where
    pub rises : Ascend spans
    pub members : (q : ℕ) → has nat_cmp (map (λ s. s.index) spans) q ≡ has nat_cmp (keys pairs) q
    pub sums : AllByRecursion (HasSums pairs) spans

  indexes_of : (pairs : List (PacketReport × Colour)) (ks : List ℕ) → map (λ s. s.index) (map (span_at pairs) ks) ≡ ks
  indexes_of pairs [] = refl
  indexes_of pairs (k ∷ ks) = ap (λ (ms : List ℕ). k ∷ ms) (indexes_of pairs ks)

  have_sums : (pairs : List (PacketReport × Colour)) (ks : List ℕ) → AllByRecursion (HasSums pairs) (map (span_at pairs) ks)
  have_sums pairs [] = tt
  have_sums pairs (k ∷ ks) = (refl, have_sums pairs ks)

  from_indexes : (pairs : List (PacketReport × Colour)) (spans : List Span) → AllByRecursion (HasSums pairs) spans → spans ≡ map (span_at pairs) (map (λ s. s.index) spans)
  from_indexes pairs [] h = refl
  from_indexes pairs (s ∷ spans) h = λ i. record { index = s.index; sums = h.0 i } ∷ from_indexes pairs spans h.1 i

  pub are_spans : (pairs : List (PacketReport × Colour)) → AreSpans pairs (spans_of period pairs)
  are_spans pairs =
      let ks = in_order nat_cmp (keys pairs) in
      record {
        rises = subst (IsStrictlySortedBy nat_cmp) (sym (indexes_of pairs ks)) (rises_in_order nat_cmp nat_cmp_total (keys pairs));
        members = λ q. ap (λ (ms : List ℕ). has nat_cmp ms q) (indexes_of pairs ks) ∙ has-in_order nat_cmp nat_cmp_total (keys pairs) q;
        sums = have_sums pairs ks;
      }

  pub spans_are : (pairs : List (PacketReport × Colour)) (spans : List Span) → AreSpans pairs spans → spans ≡ spans_of period pairs
  spans_are pairs spans a =
      from_indexes pairs spans a.sums
      ∙ ap (map (span_at pairs)) (ordered_is nat_cmp nat_cmp_total exact (keys pairs) (map (λ s. s.index) spans) (record { rises = a.rises; members = a.members }))

  -- the span that goes on has the sums of its period so far
  pub last_of : (pairs : List (PacketReport × Colour)) (ended : List Span) (s : Span) → ended ++ s ∷ [] ≡ spans_of period pairs → HasSums pairs s
  last_of pairs ended s is = (all_front (HasSums pairs) ended s (subst (AllByRecursion (HasSums pairs)) (sym is) ((are_spans pairs).sums))).1

  within_none : (i : ℕ) (pairs : List (PacketReport × Colour)) → has nat_cmp (keys pairs) i ≡ false → within period i pairs ≡ []
  unfolding has
  within_none i [] h = refl
  within_none i (p ∷ pairs) h =
      elim (cases_eq (period_of period p.0) i) [
        | inl same ↦ absurd (false≢true (sym (neither _ _ h).0 ∙ ap is_eq (equal_is i (period_of period p.0) (sym same))))
        | inr apart ↦ rw (ne_eqb (period_of period p.0) i apart) (within_none i pairs (neither _ _ h).1)
      ]

  module _ (pairs : List (PacketReport × Colour)) (r : PacketReport) (c : Colour) where
    abbrev more : List (PacketReport × Colour)
    more = pairs ++ (r, c) ∷ []

    abbrev here : ℕ
    here = period_of period r

    own : within period here more ≡ within period here pairs ++ (r, c) ∷ []
    own = filter-append (λ (p : PacketReport × Colour). eqb (period_of period p.0) here) pairs ((r, c) ∷ []) ∙ rw (eq-eqb here here refl) refl

    other : (k : ℕ) → k < here → within period k more ≡ within period k pairs
    other k h =
        filter-append (λ (p : PacketReport × Colour). eqb (period_of period p.0) k) pairs ((r, c) ∷ [])
        ∙ rw (ne_eqb here k (λ e. omega arith)) (append-nil (within period k pairs))

    -- the sums of earlier periods stay
    others : (spans : List Span) → AllByRecursion (λ s. s.index < here) spans → AllByRecursion (HasSums pairs) spans → AllByRecursion (HasSums more) spans
    others [] h a = tt
    others (s ∷ spans) h a = (a.0 ∙ ap sums_of (sym (other s.index h.0)), others spans h.1 a.1)

    counted : (sums : ColourSums) → sums ≡ sums_of (within period here pairs) → with_packet c r.octets sums ≡ sums_of (within period here more)
    counted sums is = ap (with_packet c r.octets) is ∙ sym (sums_push (within period here pairs) r c) ∙ ap sums_of (sym own)

    abbrev span_with : ColourSums → Span
    span_with sums = record { index = here; sums = with_packet c r.octets sums }

    -- a period that had no report before
    new_span : (spans : List Span) → AreSpans pairs spans → AllByRecursion (λ s. s.index < here) spans → AreSpans more (spans ++ span_with no_sums ∷ [])
    new_span spans a below =
        let ks = map (λ s. s.index) spans in
        let pushed = map_push (λ (s : Span). s.index) spans (span_with no_sums) in
        let under : AllByRecursion (λ k. k < here) ks = indexes_below here spans below in
        let none : within period here pairs ≡ [] = within_none here pairs (sym (a.members here) ∙ not_among ks here under) in
        record {
          rises = rw pushed (rises_push ks here a.rises under);
          members = λ q.
              ap (λ (ms : List ℕ). has nat_cmp ms q) pushed
              ∙ has-append nat_cmp nat_cmp_total ks (here ∷ []) q
              ∙ ap (λ b. b || has nat_cmp (here ∷ []) q) (a.members q)
              ∙ sym (has-append nat_cmp nat_cmp_total (keys pairs) (here ∷ []) q)
              ∙ ap (λ (ms : List ℕ). has nat_cmp ms q) (sym (map_push (λ (p : PacketReport × Colour). period_of period p.0) pairs (r, c)));
          sums = all_push (HasSums more) spans (span_with no_sums) (others spans below a.sums) (counted no_sums (ap sums_of (sym none)));
        }

    -- the period of the last span goes on
    same_span : (ended : List Span) (s : Span) → AreSpans pairs (ended ++ s ∷ []) → s.index ≡ here → AreSpans more (ended ++ span_with s.sums ∷ [])
    same_span ended s a is =
        let front = map (λ (s : Span). s.index) ended in
        let old = map_push (λ (s : Span). s.index) ended s ∙ ap (λ k. front ++ k ∷ []) is in
        let pushed = map_push (λ (s : Span). s.index) ended (span_with s.sums) in
        let parts = all_front (HasSums pairs) ended s a.sums in
        let known : has nat_cmp (keys pairs) here ≡ true =
        sym (a.members here) ∙ ap (λ (ms : List ℕ). has nat_cmp ms here) old ∙ has-append nat_cmp nat_cmp_total front (here ∷ []) here ∙ ap (λ b. has nat_cmp front here || b) (itself here) ∙ or_true (has nat_cmp front here) in
        let stays : (q : ℕ) → has nat_cmp (keys pairs) q ≡ (has nat_cmp (keys pairs) q || has nat_cmp (here ∷ []) q) = λ q.
        elim (cases_eq q here) [
          | inl same ↦ subst (λ k. has nat_cmp (keys pairs) k ≡ (has nat_cmp (keys pairs) k || has nat_cmp (here ∷ []) k)) (sym same) (rw known refl)
          | inr apart ↦ rw (only here q apart) (sym (or_false (has nat_cmp (keys pairs) q)))
        ] in
        record {
          rises = rw pushed (rw old at a.rises);
          members = λ q.
              ap (λ (ms : List ℕ). has nat_cmp ms q) (pushed ∙ sym old)
              ∙ a.members q
              ∙ stays q
              ∙ sym (has-append nat_cmp nat_cmp_total (keys pairs) (here ∷ []) q)
              ∙ ap (λ (ms : List ℕ). has nat_cmp ms q) (sym (map_push (λ (p : PacketReport × Colour). period_of period p.0) pairs (r, c)));
          sums = all_push (HasSums more) ended (span_with s.sums) (others ended (rw is at (before_last ended s a.rises)) parts.0) (counted s.sums (rw is at parts.1));
        }

    pub spans_push : (ended : List Span) (current : Option Span) → with_last ended current ≡ spans_of period pairs → MatchOption current (ended ≡ []) (λ s. s.index ≤ here)
        → with_last (closed_by current here ended) (Some (span_with (sums_in current here))) ≡ spans_of period more
    spans_push ended None is last =
        let a : AreSpans pairs ended = subst (AreSpans pairs) (sym is) (are_spans pairs) in
        spans_are more (ended ++ span_with no_sums ∷ []) (new_span ended a (rw last tt))
    spans_push ended (Some s) is last =
        let a : AreSpans pairs (ended ++ s ∷ []) = subst (AreSpans pairs) (sym is) (are_spans pairs) in
        elim (eqb s.index here) as (λ b. eqb s.index here ≡ b → cond b ended (ended ++ s ∷ []) ++ span_with (cond b s.sums no_sums) ∷ [] ≡ spans_of period more) [
          | true ↦ λ e. spans_are more (ended ++ span_with s.sums ∷ []) (same_span ended s a (eqb-true s.index here e))
          | false ↦ λ e.
              let apart = eqb-false s.index here e in
              let low : s.index < here = omega arith in
              let below = all_push (λ x. x.index < here) ended s (all_more (λ x. x.index < s.index) (λ x. x.index < here) (λ x l. omega arith) ended (before_last ended s a.rises)) low in
              spans_are more ((ended ++ s ∷ []) ++ span_with no_sums ∷ []) (new_span (ended ++ s ∷ []) a below)
        ] refl
