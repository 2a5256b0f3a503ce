-- Items add up to the bill.
use Rattle.std.proofs.Common.{◌≡◌, ◌∙◌, ℕ, ◌+◌, ◌<◌, Bool, true, false, ◌&&◌, ◌||◌, cond, eqb, List, [], ◌∷◌, length, get_or, Option, Some, None, ap, sym, refl, arith, inl, inr, zero-add}
use Rattle.std.specs.Prelude.{map, find, slice_get, sum_by, option_and_then}
use Rattle.std.specs.List.{cons_option, enumerate_from, list_any}
use Rattle.std.specs.Ordering.{eq_by_cmp, nat_cmp, is_eq}
use Rattle.std.proofs.lemmas.Bool.{cases_eq, cases_lt, eq-eqb, ne_eqb, false≢true}
use Rattle.std.proofs.lemmas.Cmp.{nat_cmp_total}
use Rattle.std.proofs.lemmas.Option.{get_or_from_slice_get, slice_get-get_or, slice_get_within}
use Rattle.std.proofs.lemmas.List.{get_or-map, length-map}
use Rattle.std.proofs.lemmas.List.FromFn.{get_or-enumerate_from, length-enumerate_from}
use Rattle.std.proofs.lemmas.List.Sums.{sum_by-cons}
use Rattle.tca_join.specs.Sets.{has, in_order}
use Rattle.tca_join.proofs.Positions.{equal_is, greater_is, less_is}
use Rattle.tca_join.proofs.Sets.{has-in_order}
use Rattle.tca_report.specs.report.Reports.{PacketReport}
use Rattle.tca_meters.specs.declared.colour.Colour.{Colour}
use Rattle.tca_meters.specs.declared.colour.Colour.TheVariants.{Green, Yellow, Red}
use Rattle.tca_meters.specs.Colours.{colour_number}
use Rattle.tca_accounts.specs.Plans.{AccountPlan, PlannedAccount}
use Rattle.tca_accounts.specs.Bills.{bill_of, coloured_in, reports_of, tally_of}
use Rattle.tca_accounts.specs.Spans.{period_of, spans_of, within}
use Rattle.tca_accounts.specs.Sums.{octets_in, packets_in, sums_of}
use Rattle.tca_accounts.specs.declared.span.Span.{Span}
use Rattle.tca_accounts.specs.declared.tally.Tally.{Tally}
use Rattle.tcatool.specs.Itemised.{billed_octets, billed_packets, is_share_of, item_octets, item_packets, items_in, items_of, sums_in, sums_of_span}
use Rattle.tcatool.specs.Listed.{AreItemsUnder, colour_if, counted}
use Rattle.tcatool.specs.declared.item.Item.{Item}
use Rattle.tcatool.specs.declared.item.Share.{Share}

-- the sums of a colour, by its number
by_octets : (c : Colour) (pairs : List (PacketReport × Colour)) → billed_octets c (sums_of pairs) ≡ octets_in c pairs
by_octets Green pairs = refl
by_octets Yellow pairs = refl
by_octets Red pairs = refl

by_packets : (c : Colour) (pairs : List (PacketReport × Colour)) → billed_packets c (sums_of pairs) ≡ packets_in c pairs
by_packets Green pairs = refl
by_packets Yellow pairs = refl
by_packets Red pairs = refl

module _ (n : ℕ) (c : Colour) where
  abbrev of_pair : PacketReport × Colour → ℕ
  of_pair p = cond (eqb (colour_number p.1) (colour_number c)) p.0.octets 0

  abbrev one_pair : PacketReport × Colour → ℕ
  one_pair p = cond (eqb (colour_number p.1) (colour_number c)) 1 0

  octets_step : (x : Item) (items : List Item) (share : Option Share) → item_octets n c items ≡ octets_in c (counted n items)
      → sum_by (λ (i : Item). i.report.octets) (cond (is_share_of n c share) (x ∷ items_of n c items) (items_of n c items))
      ≡ octets_in c (cons_option (option_and_then (colour_if n x.report) share) (counted n items))
  octets_step x items None so = so
  octets_step x items (Some s) so =
      elim (eqb s.account n) as (λ a. sum_by (λ (i : Item). i.report.octets) (cond (a && eqb (colour_number s.colour) (colour_number c)) (x ∷ items_of n c items) (items_of n c items)) ≡ octets_in c (cons_option (cond a (Some (x.report, s.colour)) None) (counted n items))) [
        | true ↦
            elim (eqb (colour_number s.colour) (colour_number c)) as (λ b. sum_by (λ (i : Item). i.report.octets) (cond b (x ∷ items_of n c items) (items_of n c items)) ≡ cond b x.report.octets 0 + octets_in c (counted n items)) [
              | true ↦ sum_by-cons (λ (i : Item). i.report.octets) x (items_of n c items) ∙ ap (λ k. x.report.octets + k) so
              | false ↦ so ∙ sym (zero-add (octets_in c (counted n items)))
            ] ∙ sym (sum_by-cons of_pair (x.report, s.colour) (counted n items))
        | false ↦ so
      ]

  -- the octets of an account's items of a colour
  octets_are : (items : List Item) → item_octets n c items ≡ octets_in c (counted n items)
  octets_are [] = refl
  octets_are (x ∷ items) = octets_step x items x.share (octets_are items)

  packets_step : (x : Item) (items : List Item) (share : Option Share) → item_packets n c items ≡ packets_in c (counted n items)
      → length (cond (is_share_of n c share) (x ∷ items_of n c items) (items_of n c items))
      ≡ packets_in c (cons_option (option_and_then (colour_if n x.report) share) (counted n items))
  packets_step x items None so = so
  packets_step x items (Some s) so =
      elim (eqb s.account n) as (λ a. length (cond (a && eqb (colour_number s.colour) (colour_number c)) (x ∷ items_of n c items) (items_of n c items)) ≡ packets_in c (cons_option (cond a (Some (x.report, s.colour)) None) (counted n items))) [
        | true ↦
            elim (eqb (colour_number s.colour) (colour_number c)) as (λ b. length (cond b (x ∷ items_of n c items) (items_of n c items)) ≡ cond b 1 0 + packets_in c (counted n items)) [
              | true ↦ omega (arith, so)
              | false ↦ so ∙ sym (zero-add (packets_in c (counted n items)))
            ] ∙ sym (sum_by-cons one_pair (x.report, s.colour) (counted n items))
        | false ↦ so
      ]

  -- and how many there are
  packets_are : (items : List Item) → item_packets n c items ≡ packets_in c (counted n items)
  packets_are [] = refl
  packets_are (x ∷ items) = packets_step x items x.share (packets_are items)

apart_is : (k index : ℕ) → (k ≡ index → ⊥) → eq_by_cmp nat_cmp index k ≡ false
apart_is k index apart = elim (cases_lt index k) [
  | inl below ↦ ap is_eq (less_is index k below)
  | inr above ↦ ap is_eq (greater_is index k (omega arith))
]

module _ (period index : ℕ) where
  within_step : (n : ℕ) (x : Item) (items : List Item) (share : Option Share) → counted n (items_in period index items) ≡ within period index (counted n items)
      → cond (eqb (period_of period x.report) index) (cons_option (option_and_then (colour_if n x.report) share) (counted n (items_in period index items))) (counted n (items_in period index items))
      ≡ within period index (cons_option (option_and_then (colour_if n x.report) share) (counted n items))
  within_step n x items None so =
      elim (eqb (period_of period x.report) index) as (λ b. cond b (counted n (items_in period index items)) (counted n (items_in period index items)) ≡ within period index (counted n items)) [ true ↦ so | false ↦ so ]
  within_step n x items (Some s) so =
      elim (eqb s.account n) as (λ a. cond (eqb (period_of period x.report) index) (cons_option (cond a (Some (x.report, s.colour)) None) (counted n (items_in period index items))) (counted n (items_in period index items)) ≡ within period index (cons_option (cond a (Some (x.report, s.colour)) None) (counted n items))) [
        | true ↦ elim (eqb (period_of period x.report) index) as (λ b. cond b ((x.report, s.colour) ∷ counted n (items_in period index items)) (counted n (items_in period index items)) ≡ cond b ((x.report, s.colour) ∷ within period index (counted n items)) (within period index (counted n items))) [
          | true ↦ ap (λ (l : List (PacketReport × Colour)). (x.report, s.colour) ∷ l) so
          | false ↦ so
        ]
        | false ↦ elim (eqb (period_of period x.report) index) as (λ b. cond b (counted n (items_in period index items)) (counted n (items_in period index items)) ≡ within period index (counted n items)) [ true ↦ so | false ↦ so ]
      ]

  counted_cond : (n : ℕ) (b : Bool) (x : Item) (items : List Item) → counted n (cond b (x ∷ items) items) ≡ cond b (cons_option (option_and_then (colour_if n x.report) x.share) (counted n items)) (counted n items)
  counted_cond n true x items = refl
  counted_cond n false x items = refl

  -- what an account counts of a period
  within_are : (n : ℕ) (items : List Item) → counted n (items_in period index items) ≡ within period index (counted n items)
  within_are n [] = refl
  within_are n (x ∷ items) =
      counted_cond n (eqb (period_of period x.report) index) x (items_in period index items) ∙ within_step n x items x.share (within_are n items)

  neither : (a b : Bool) → (a || b) ≡ false → (a ≡ false) × (b ≡ false)
  neither true b h = absurd cc
  neither false b h = (refl, h)

  -- a period without a report
  nothing_within : (pairs : List (PacketReport × Colour)) → has nat_cmp (map (λ (p : PacketReport × Colour). period_of period p.0) pairs) index ≡ false → within period index pairs ≡ []
  unfolding has
  nothing_within [] h = refl
  nothing_within (p ∷ pairs) h =
      let parts = neither _ _ h in
      elim (cases_eq (period_of period p.0) index) [
        | inl same ↦ absurd (false≢true (sym parts.0 ∙ ap is_eq (equal_is index (period_of period p.0) (sym same))))
        | inr apart ↦ rw (ne_eqb (period_of period p.0) index apart) (nothing_within pairs parts.1)
      ]

  span_found : (pairs : List (PacketReport × Colour)) (ks : List ℕ) → (has nat_cmp ks index ≡ false → within period index pairs ≡ [])
      → sums_of_span (find (λ (s : Span). eqb s.index index) (map (λ k. record { index = k; sums = sums_of (within period k pairs) }) ks)) ≡ sums_of (within period index pairs)
  unfolding has
  span_found pairs [] none = sym (ap sums_of (none refl))
  span_found pairs (k ∷ ks) none =
      elim (cases_eq k index) [
        | inl same ↦ rw (eq-eqb k index same) (ap (λ m. sums_of (within period m pairs)) same)
        | inr apart ↦ rw (ne_eqb k index apart) (span_found pairs ks (λ h. none (ap (λ b. b || list_any (eq_by_cmp nat_cmp index) ks) (apart_is k index apart) ∙ h)))
      ]

  -- the sums of a period, by the spans
  span_is : (pairs : List (PacketReport × Colour)) → sums_in index (spans_of period pairs) ≡ sums_of (within period index pairs)
  span_is pairs =
      let keys = map (λ (p : PacketReport × Colour). period_of period p.0) pairs in
      span_found pairs (in_order nat_cmp keys) (λ h. nothing_within pairs (sym (has-in_order nat_cmp nat_cmp_total keys index) ∙ h))

some_account : (accounts : List PlannedAccount) (n : ℕ) → n < length accounts → PlannedAccount
some_account [] n h = absurd (omega arith)
some_account (a ∷ accounts) n h = a

-- account n of a bill, by the plan
account_is : (plan : AccountPlan) (rs : List PacketReport) (n : ℕ) (t : Tally) → slice_get (bill_of plan rs).accounts n ≡ Some t
    → (a : PlannedAccount) × (slice_get plan.accounts n ≡ Some a) × (t ≡ tally_of plan.period (coloured_in a (reports_of plan n rs)))
account_is plan rs n t is =
    let numbered = enumerate_from 0 plan.accounts in
    let tally : ℕ × PlannedAccount → Tally = λ (x : ℕ × PlannedAccount). tally_of plan.period (coloured_in x.1 (reports_of plan x.0 rs)) in
    let inside : n < length plan.accounts = omega (arith, slice_get_within (map tally numbered) n t is, length-map numbered tally, length-enumerate_from 0 plan.accounts) in
    let d = some_account plan.accounts n inside in
    let low : n < length numbered = omega (arith, length-enumerate_from 0 plan.accounts) in
    let at : get_or numbered n (n, d) ≡ (0 + n, get_or plan.accounts n d) = get_or-enumerate_from 0 plan.accounts n (n, d) inside in (
      get_or plan.accounts n d,
      slice_get-get_or plan.accounts n d inside,
      sym (get_or_from_slice_get (map tally numbered) n t t is) ∙ get_or-map tally numbered n (n, d) t low ∙ ap tally at ∙ ap (λ k. tally_of plan.period (coloured_in (get_or plan.accounts n d) (reports_of plan k rs))) (zero-add n),
    )

module _ (plan : AccountPlan) (rs : List PacketReport) (items : List Item) (are : AreItemsUnder plan rs items) (n : ℕ) (t : Tally) (is : slice_get (bill_of plan rs).accounts n ≡ Some t) (c : Colour) where
  its_pairs : (pairs : List (PacketReport × Colour)) × (counted n items ≡ pairs) × (t ≡ tally_of plan.period pairs)
  its_pairs = let its = account_is plan rs n t is in (coloured_in its.0 (reports_of plan n rs), are.colours n its.0 its.1, its.2)

  pub octets_add_up : item_octets n c items ≡ billed_octets c t.total
  octets_add_up =
      let its = its_pairs in
      octets_are n c items ∙ ap (octets_in c) its.1 ∙ sym (ap (λ (x : Tally). billed_octets c x.total) its.2 ∙ by_octets c its.0)

  pub packets_add_up : item_packets n c items ≡ billed_packets c t.total
  packets_add_up =
      let its = its_pairs in
      packets_are n c items ∙ ap (packets_in c) its.1 ∙ sym (ap (λ (x : Tally). billed_packets c x.total) its.2 ∙ by_packets c its.0)

  module _ (index : ℕ) where
    here : counted n (items_in plan.period index items) ≡ within plan.period index its_pairs.0
    here = within_are plan.period index n items ∙ ap (within plan.period index) its_pairs.1

    pub period_octets_add_up : item_octets n c (items_in plan.period index items) ≡ billed_octets c (sums_in index t.spans)
    period_octets_add_up =
        let its = its_pairs in
        octets_are n c (items_in plan.period index items) ∙ ap (octets_in c) here
        ∙ sym (ap (λ (x : Tally). billed_octets c (sums_in index x.spans)) its.2 ∙ ap (billed_octets c) (span_is plan.period index its.0) ∙ by_octets c (within plan.period index its.0))

    pub period_packets_add_up : item_packets n c (items_in plan.period index items) ≡ billed_packets c (sums_in index t.spans)
    period_packets_add_up =
        let its = its_pairs in
        packets_are n c (items_in plan.period index items) ∙ ap (packets_in c) here
        ∙ sym (ap (λ (x : Tally). billed_packets c (sums_in index x.spans)) its.2 ∙ ap (billed_packets c) (span_is plan.period index its.0) ∙ by_packets c (within plan.period index its.0))
