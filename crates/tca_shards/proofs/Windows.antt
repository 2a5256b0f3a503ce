-- The bill of two windows of time.
use Rattle.std.proofs.Common.{◌≡◌, ◌⊎◌, inl, inr, ℕ, zero, suc, ◌+◌, ◌<◌, ◌≤◌, Bool, true, false, not, ◌&&◌, cond, eqb, leb, List, [], ◌∷◌, ◌++◌, length, map, filter, is_none, refl, sym, ap, ◌∙◌, subst, arith}
use Rattle.std.specs.Prelude.{nat_lt, ◌==◌}
use Rattle.std.specs.List.{AllByRecursion, enumerate_from, list_any, prefix_len}
use Rattle.std.specs.List.Sorted.{IsStrictlySortedBy}
use Rattle.std.proofs.lemmas.Bool.{cases_lt, eqb-true, false≢true, le-leb, le-ltb, lt-leb}
use borrow.Author.Tests.{ltb-true, ltb-false, lt-ltb}
use Rattle.std.proofs.lemmas.List.Kept.{IsStrictlySortedBy-filter}
use Rattle.std.proofs.lemmas.List.Elements.{filter-append}
use Rattle.tca_join.specs.Sets.{has}
use Rattle.tca_join.proofs.Sets.{all_more}
use Rattle.tca_report.specs.report.Reports.{PacketReport, report_cmp}
use Rattle.tca_report.specs.report.Identities.{identity_of, identity_cmp}
use Rattle.tca_report.proofs.lemmas.report.Order.{report_total, report_exact}
use Rattle.tca_report.proofs.lemmas.report.Identities.{identity_exact}
use Rattle.tca_report.specs.declared.report.Identity.{Identity}
use Rattle.tca_meters.specs.declared.colour.Colour.{Colour}
use Rattle.tca_meters.specs.declared.termed.InTerm.{InTerm}
use Rattle.tca_meters.specs.declared.any_meter.AnyMeter.{AnyMeter}
use Rattle.tca_meters.specs.Packets.{Packet, Rule, coloured}
use Rattle.tca_meters.specs.Termed.{IsTermed, TermedMeter, after_tokens, ascend_from, levels_since, term, term_at, termed_rule}
use Rattle.tca_meters.specs.laws.TermedLaws.{begins}
use Rattle.tca_meters.proofs.Terms.{ascends}
use Rattle.tca_meters.proofs.Coloured.{reached, coloured-append, answer_to}
use Rattle.tca_log.specs.Disputes.{has_identity, contents, disputed, undisputed}
use Rattle.tca_log.specs.inside.Logs.{count_at}
use Rattle.tca_log.proofs.Contents.{has-filter, has-disputed, disputed_rises, disputed_is}
use Rattle.tca_log.proofs.Undisputed.{member_counts, undisputed_rises}
use Rattle.tca_log.proofs.OrderedRows.Each.{members}
use Rattle.tca_accounts.specs.Plans.{AccountPlan, PlannedAccount, account_of}
use Rattle.tca_accounts.specs.Sums.{packet_of}
use Rattle.tca_accounts.specs.Bills.{bill_of, is_number, coloured_in, reports_of, tally_of}
use Rattle.tca_accounts.specs.declared.tally.Tally.{Tally}
use Rattle.tca_accounts.proofs.Bills.{rest_later}
use Rattle.tca_shards.specs.Shards.{added_tallies, added_accounts, added_bills}
use Rattle.tca_shards.specs.Windows.{early, late, has_term_from, AreWindows, WindowsAddUp}
use Rattle.tca_shards.proofs.Kept.{either, filter_swap, length_split}
use Rattle.tca_shards.proofs.Owned.{all_numbered}
use Rattle.tca_shards.proofs.AddedUp.{tally_append}

-- two tests that agree on the members where f holds
filter_swap_among : {K : Type 0} (p q f : K → Bool) (xs : List K) → AllByRecursion (λ x. f x ≡ true → p x ≡ q x) xs → filter p (filter f xs) ≡ filter f (filter q xs)
filter_swap_among p q f [] h = refl
filter_swap_among p q f (x ∷ xs) h =
    elim (f x) as (λ b. f x ≡ b → filter p (cond b (x ∷ filter f xs) (filter f xs)) ≡ filter f (cond (q x) (x ∷ filter q xs) (filter q xs))) [
      | true ↦ λ e. ap (λ (b : Bool). cond b (x ∷ filter p (filter f xs)) (filter p (filter f xs))) (h.0 e)
          ∙ elim (q x) as (λ b. cond b (x ∷ filter p (filter f xs)) (filter p (filter f xs)) ≡ filter f (cond b (x ∷ filter q xs) (filter q xs))) [
            | true ↦ (λ i. cond (sym e i) (x ∷ filter_swap_among p q f xs h.1 i) (filter_swap_among p q f xs h.1 i))
            | false ↦ filter_swap_among p q f xs h.1
          ]
      | false ↦ λ e. filter_swap_among p q f xs h.1
          ∙ elim (q x) as (λ b. filter f (filter q xs) ≡ filter f (cond b (x ∷ filter q xs) (filter q xs))) [
            | true ↦ λ i. cond (sym e i) (x ∷ filter f (filter q xs)) (filter f (filter q xs))
            | false ↦ refl
          ]
    ] refl

both_tests : (n : ℕ) → (nat_lt 0 n && nat_lt 1 n) ≡ nat_lt 1 n
both_tests zero = refl
both_tests (suc n) = ap (λ b. b && nat_lt 1 (suc n)) (lt-ltb 0 (suc n) (omega arith))

no_tests : (n : ℕ) → (not (nat_lt 0 n) && nat_lt 1 n) ≡ false
no_tests zero = refl
no_tests (suc n) = ap (λ b. not b && nat_lt 1 (suc n)) (lt-ltb 0 (suc n) (omega arith))

module _ (f g : PacketReport → Bool) (rs : List PacketReport) (counts : (i : Identity) → count_at rs i ≡ count_at (filter f rs) i + count_at (filter g rs) i)
    (apart : (i : Identity) → (contents (filter f rs) i ≡ []) ⊎ (contents (filter g rs) i ≡ [])) where
  all_here : (i : Identity) → contents (filter g rs) i ≡ [] → count_at (filter f rs) i ≡ count_at rs i
  all_here i none = let n : count_at (filter g rs) i ≡ 0 = ap length none in omega (arith, n, counts i)

  all_there : (i : Identity) → contents (filter f rs) i ≡ [] → count_at (filter g rs) i ≡ count_at rs i
  all_there i none = let n : count_at (filter f rs) i ≡ 0 = ap length none in omega (arith, n, counts i)

  alone_in_part : (r : PacketReport) → has report_cmp rs r ≡ true → f r ≡ true → (count_at (filter f rs) (identity_of r) == 1) ≡ (count_at rs (identity_of r) == 1)
  alone_in_part r h e =
      elim (apart (identity_of r)) [
        | inl none ↦
            let some : 0 < count_at (filter f rs) (identity_of r) = member_counts (filter f rs) r (has-filter report_cmp report_exact f rs r ∙ (λ j. e j && h j)) in
            let n : count_at (filter f rs) (identity_of r) ≡ 0 = ap length none in
            absurd (omega (arith, some, n))
        | inr none ↦ ap (λ (n : ℕ). n == 1) (all_here (identity_of r) none)
      ]

  pub undisputed_of_part : undisputed (filter f rs) ≡ filter f (undisputed rs)
  unfolding undisputed
  undisputed_of_part =
      filter_swap_among (λ r. length (contents (filter f rs) (identity_of r)) == 1) (λ r. length (contents rs (identity_of r)) == 1) f rs
      (all_more (λ r. has report_cmp rs r ≡ true) (λ r. f r ≡ true → (count_at (filter f rs) (identity_of r) == 1) ≡ (count_at rs (identity_of r) == 1)) alone_in_part rs (members report_cmp report_total rs))

  abbrev is_here : Identity → Bool
  is_here i = nat_lt 0 (count_at (filter f rs) i)

  disputed_here : filter is_here (disputed rs) ≡ disputed (filter f rs)
  disputed_here =
      disputed_is (filter f rs) (filter is_here (disputed rs)) (IsStrictlySortedBy-filter identity_cmp is_here (disputed rs) (disputed_rises rs)) (λ i.
      has-filter identity_cmp identity_exact is_here (disputed rs) i
      ∙ ap (λ b. is_here i && b) (has-disputed rs i)
      ∙ elim (apart i) [
        | inl none ↦ (λ j. nat_lt 0 (length (none j)) && nat_lt 1 (count_at rs i)) ∙ sym (ap (λ (l : List PacketReport). nat_lt 1 (length l)) none)
        | inr none ↦ ap (λ (n : ℕ). is_here i && nat_lt 1 n) (sym (all_here i none)) ∙ both_tests (count_at (filter f rs) i)
      ])

  disputed_there : filter (λ i. not (is_here i)) (disputed rs) ≡ disputed (filter g rs)
  disputed_there =
      disputed_is (filter g rs) (filter (λ i. not (is_here i)) (disputed rs)) (IsStrictlySortedBy-filter identity_cmp (λ i. not (is_here i)) (disputed rs) (disputed_rises rs)) (λ i.
      has-filter identity_cmp identity_exact (λ j. not (is_here j)) (disputed rs) i
      ∙ ap (λ b. not (is_here i) && b) (has-disputed rs i)
      ∙ elim (apart i) [
        | inl none ↦ (λ j. not (nat_lt 0 (length (none j))) && nat_lt 1 (count_at rs i)) ∙ ap (nat_lt 1) (sym (all_there i none))
        | inr none ↦ ap (λ (n : ℕ). not (is_here i) && nat_lt 1 n) (sym (all_here i none)) ∙ no_tests (count_at (filter f rs) i) ∙ sym (ap (λ (l : List PacketReport). nat_lt 1 (length l)) none)
      ])

  pub disputed_parts : length (disputed rs) ≡ length (disputed (filter f rs)) + length (disputed (filter g rs))
  disputed_parts = length_split is_here (disputed rs) ∙ (λ i. length (disputed_here i) + length (disputed_there i))

-- a term that starts at a moment is above the time before all terms
start_above : (last : ℕ) (later : List (ℕ × AnyMeter)) (t : ℕ) → ascend_from last later ≡ true → list_any (λ (s : ℕ × AnyMeter). eqb s.0 t) later ≡ true → last < t
start_above last [] t e h = absurd (false≢true h)
start_above last (s ∷ ss) t e h =
    let first = ascends last s ss e in
    let above : last < s.0 = first.above in
    either (eqb s.0 t) (list_any (λ (s : ℕ × AnyMeter). eqb s.0 t) ss)
    (λ k. let same : s.0 ≡ t = eqb-true s.0 t k in omega (arith, above, same))
    (λ k. let rest : s.0 < t = start_above s.0 ss t first.others k in omega (arith, above, rest)) h

-- where a term begins in an interval, more terms have started by its end than by its start
more_terms : (last : ℕ) (later : List (ℕ × AnyMeter)) (t : ℕ) → ascend_from last later ≡ true → list_any (λ (s : ℕ × AnyMeter). eqb s.0 t) later ≡ true → (a b : ℕ) → a < t → t ≤ b
    → prefix_len (λ (s : ℕ × AnyMeter). leb s.0 a) later < prefix_len (λ (s : ℕ × AnyMeter). leb s.0 b) later
more_terms last [] t e h a b low high = absurd (false≢true h)
more_terms last (s ∷ ss) t e h a b low high =
    let first = ascends last s ss e in
    either (eqb s.0 t) (list_any (λ (s : ℕ × AnyMeter). eqb s.0 t) ss)
    (λ k.
    let same : s.0 ≡ t = eqb-true s.0 t k in
    let past : a < s.0 = omega (arith, same, low) in
    let here : s.0 ≤ b = omega (arith, same, high) in
    rw (lt-leb s.0 a past, le-leb s.0 b here) (omega arith))
    (λ k.
    let above : s.0 < t = start_above s.0 ss t first.others k in
    let here : s.0 ≤ b = omega (arith, above, high) in
    let rest = more_terms s.0 ss t first.others k a b low high in
    elim (cases_lt a s.0) [
      | inl past ↦ rw (lt-leb s.0 a past, le-leb s.0 b here) (omega arith)
      | inr old ↦ rw (le-leb s.0 a old, le-leb s.0 b here) (omega (arith, rest))
    ]) h

-- a term that began after `from` is all that the state at `to` comes from
anew_from : (m : TermedMeter) (from to : ℕ) (s : InTerm) → term_at m from < term_at m to → (termed_rule m).filled from to s ≡ record { term = term_at m to; levels = levels_since (term m (term_at m to)) to }
unfolding termed_rule
anew_from m from to s h = ap (after_tokens m from to s) (begins m from to h)

module _ {S : Type 0} (rule : Rule S) (packet : PacketReport → Packet) where
  -- two states that are one at the next packet colour alike from there on
  alike_from : (s : S) (l : ℕ) (s' : S) (l' : ℕ) (ys : List PacketReport) → AllByRecursion (λ y. rule.filled l (packet y).time s ≡ rule.filled l' (packet y).time s') ys
      → coloured rule packet s l ys ≡ coloured rule packet s' l' ys
  unfolding coloured
  alike_from s l s' l' [] h = refl
  alike_from s l s' l' (y ∷ ys) h =
      λ i. let found = rule.judged (h.0 i) (packet y).octets (packet y).pre in
      (y, found.0) ∷ coloured rule packet found.1 (packet y).time ys

  reached_by : (t : ℕ) (s : S) (l : ℕ) (xs : List PacketReport) → l < t → AllByRecursion (λ x. (packet x).time < t) xs → (reached rule packet s l xs).1 < t
  unfolding reached
  reached_by t s l [] low h = low
  reached_by t s l (x ∷ xs) low h = reached_by t (answer_to rule packet s l x).1 (packet x).time xs h.0 h.1

module _ (t : ℕ) where
  abbrev is_early : PacketReport → Bool
  is_early r = nat_lt r.time t

  abbrev is_late : PacketReport → Bool
  is_late r = not (nat_lt r.time t)

  late_all : (xs : List PacketReport) → AllByRecursion (λ (q : PacketReport). nat_lt q.time t ≡ false) xs → (early t xs ≡ []) × (late t xs ≡ xs)
  late_all [] h = (refl, refl)
  late_all (x ∷ xs) h =
      let rest = late_all xs h.1 in
      ((λ i. cond (h.0 i) (x ∷ early t xs) (early t xs)) ∙ rest.0, (λ i. cond (not (h.0 i)) (x ∷ late t xs) (late t xs)) ∙ ap (λ (l : List PacketReport). x ∷ l) rest.1)

  -- of reports in order, the early ones come first
  by_time : (xs : List PacketReport) → IsStrictlySortedBy report_cmp xs → xs ≡ early t xs ++ late t xs
  by_time [] s = refl
  by_time (x ∷ xs) s =
      let later = rest_later x xs s in
      elim (nat_lt x.time t) as (λ b. nat_lt x.time t ≡ b → x ∷ xs ≡ cond b (x ∷ early t xs) (early t xs) ++ cond (not b) (x ∷ late t xs) (late t xs)) [
        | true ↦ λ e. ap (λ (l : List PacketReport). x ∷ l) (by_time xs later.1)
        | false ↦ λ e.
            let over : t ≤ x.time = ltb-false x.time t e in
            let all = late_all xs (all_more (λ (q : PacketReport). x.time ≤ q.time) (λ (q : PacketReport). nat_lt q.time t ≡ false) (λ q l. le-ltb q.time t (omega (arith, l, over))) xs later.0) in
            λ i. sym all.0 i ++ x ∷ sym all.1 i
      ] refl

  early_by : (p : PacketReport → Bool) (xs : List PacketReport) → AllByRecursion (λ (x : PacketReport). x.time < t) (filter p (early t xs))
  early_by p xs = kept p (early t xs) (those xs)
    where
      kept : (p : PacketReport → Bool) (ys : List PacketReport) → AllByRecursion (λ (x : PacketReport). x.time < t) ys → AllByRecursion (λ (x : PacketReport). x.time < t) (filter p ys)
      kept p [] h = tt
      kept p (y ∷ ys) h = elim (p y) as (λ b. AllByRecursion (λ (x : PacketReport). x.time < t) (cond b (y ∷ filter p ys) (filter p ys))) [ true ↦ (h.0, kept p ys h.1) | false ↦ kept p ys h.1 ]

      those : (xs : List PacketReport) → AllByRecursion (λ (x : PacketReport). x.time < t) (early t xs)
      those [] = tt
      those (x ∷ xs) = elim (nat_lt x.time t) as (λ b. nat_lt x.time t ≡ b → AllByRecursion (λ (x : PacketReport). x.time < t) (cond b (x ∷ early t xs) (early t xs))) [
        | true ↦ λ e. (ltb-true x.time t e, those xs)
        | false ↦ λ e. those xs
      ] refl

  late_by : (p : PacketReport → Bool) (xs : List PacketReport) → AllByRecursion (λ (x : PacketReport). t ≤ x.time) (filter p (late t xs))
  late_by p xs = kept p (late t xs) (those xs)
    where
      kept : (p : PacketReport → Bool) (ys : List PacketReport) → AllByRecursion (λ (x : PacketReport). t ≤ x.time) ys → AllByRecursion (λ (x : PacketReport). t ≤ x.time) (filter p ys)
      kept p [] h = tt
      kept p (y ∷ ys) h = elim (p y) as (λ b. AllByRecursion (λ (x : PacketReport). t ≤ x.time) (cond b (y ∷ filter p ys) (filter p ys))) [ true ↦ (h.0, kept p ys h.1) | false ↦ kept p ys h.1 ]

      those : (xs : List PacketReport) → AllByRecursion (λ (x : PacketReport). t ≤ x.time) (late t xs)
      those [] = tt
      those (x ∷ xs) = elim (nat_lt x.time t) as (λ b. nat_lt x.time t ≡ b → AllByRecursion (λ (x : PacketReport). t ≤ x.time) (cond (not b) (x ∷ late t xs) (late t xs))) [
        | true ↦ λ e. those xs
        | false ↦ λ e. (ltb-false x.time t e, those xs)
      ] refl

module _ (plan : AccountPlan) (t : ℕ) (rs : List PacketReport) (w : AreWindows plan t rs) where
  abbrev f : PacketReport → Bool
  f r = nat_lt r.time t

  abbrev g : PacketReport → Bool
  g r = not (nat_lt r.time t)

  counts : (i : Identity) → count_at rs i ≡ count_at (filter f rs) i + count_at (filter g rs) i
  unfolding contents
  counts i =
      let one = filter_swap (has_identity i) (has_identity i) f rs (λ x e. refl) in
      let two = filter_swap (has_identity i) (has_identity i) g rs (λ x e. refl) in
      length_split f (filter (has_identity i) rs) ∙ (λ j. length (sym one j) + length (sym two j))

  turned_counts : (i : Identity) → count_at rs i ≡ count_at (filter g rs) i + count_at (filter f rs) i
  turned_counts i = omega (arith, counts i)

  turned_apart : (i : Identity) → (contents (filter g rs) i ≡ []) ⊎ (contents (filter f rs) i ≡ [])
  turned_apart i = elim (w.apart i) [ inl h ↦ inr h | inr h ↦ inl h ]

  settled_early : undisputed (early t rs) ≡ early t (undisputed rs)
  settled_early = undisputed_of_part f g rs counts w.apart

  settled_late : undisputed (late t rs) ≡ late t (undisputed rs)
  settled_late = undisputed_of_part g f rs turned_counts turned_apart

  kept_parts : (p : PacketReport → Bool) → filter p (undisputed rs) ≡ filter p (undisputed (early t rs)) ++ filter p (undisputed (late t rs))
  kept_parts p =
      ap (filter p) (by_time t (undisputed rs) (undisputed_rises rs w.rises))
      ∙ filter-append p (early t (undisputed rs)) (late t (undisputed rs))
      ∙ (λ i. filter p (sym settled_early i) ++ filter p (sym settled_late i))

  -- how many are kept
  kept_counts : (p : PacketReport → Bool) → length (filter p (undisputed rs)) ≡ length (filter p (undisputed (early t rs))) + length (filter p (undisputed (late t rs)))
  kept_counts p = ap length (kept_parts p) ∙ lengths (filter p (undisputed (early t rs))) (filter p (undisputed (late t rs)))
    where
      lengths : (xs ys : List PacketReport) → length (xs ++ ys) ≡ length xs + length ys
      lengths [] ys = omega arith
      lengths (x ∷ xs) ys = omega (arith, lengths xs ys)

  module _ (a : ℕ × PlannedAccount) (is : IsTermed a.1.meter) (starts : has_term_from t a.1.meter ≡ true) where
    abbrev rule : Rule InTerm
    rule = termed_rule a.1.meter

    abbrev packet : PacketReport → Packet
    packet = packet_of a.1.other

    abbrev firsts : List PacketReport
    firsts = reports_of plan a.0 (early t rs)

    abbrev seconds : List PacketReport
    seconds = reports_of plan a.0 (late t rs)

    abbrev last : InTerm × ℕ
    last = reached rule packet rule.opening 0 firsts

    firsts_low : AllByRecursion (λ (x : PacketReport). x.time < t) firsts
    firsts_low = subst (AllByRecursion (λ (x : PacketReport). x.time < t)) (sym (ap (filter (λ r. is_number a.0 (account_of plan r))) settled_early)) (early_by t (λ r. is_number a.0 (account_of plan r)) (undisputed rs))

    seconds_high : AllByRecursion (λ (x : PacketReport). t ≤ x.time) seconds
    seconds_high = subst (AllByRecursion (λ (x : PacketReport). t ≤ x.time)) (sym (ap (filter (λ r. is_number a.0 (account_of plan r))) settled_late)) (late_by t (λ r. is_number a.0 (account_of plan r)) (undisputed rs))

    some_time : 0 < t
    some_time = start_above 0 a.1.meter.later t is.ascend starts

    last_low : last.1 < t
    last_low = reached_by rule packet t rule.opening 0 firsts some_time firsts_low

    -- from the moment on it is as if nothing had been
    anew : (y : PacketReport) → t ≤ y.time → rule.filled last.1 y.time last.0 ≡ rule.filled 0 y.time rule.opening
    anew y h =
        anew_from a.1.meter last.1 y.time last.0 (more_terms 0 a.1.meter.later t is.ascend starts last.1 y.time last_low h)
        ∙ sym (anew_from a.1.meter 0 y.time rule.opening (more_terms 0 a.1.meter.later t is.ascend starts 0 y.time some_time h))

    colours_parts : coloured_in a.1 (reports_of plan a.0 rs) ≡ coloured_in a.1 firsts ++ coloured_in a.1 seconds
    colours_parts =
        ap (coloured_in a.1) (kept_parts (λ r. is_number a.0 (account_of plan r)))
        ∙ coloured-append rule packet rule.opening 0 firsts seconds
        ∙ ap (λ (l : List (PacketReport × Colour)). coloured_in a.1 firsts ++ l)
        (alike_from rule packet last.0 last.1 rule.opening 0 seconds (all_more (λ (y : PacketReport). t ≤ y.time) (λ (y : PacketReport). rule.filled last.1 (packet y).time last.0 ≡ rule.filled 0 (packet y).time rule.opening) anew seconds seconds_high))

    tally_parts : tally_of plan.period (coloured_in a.1 (reports_of plan a.0 rs)) ≡ added_tallies (tally_of plan.period (coloured_in a.1 firsts)) (tally_of plan.period (coloured_in a.1 seconds))
    tally_parts = ap (tally_of plan.period) colours_parts ∙ sym (tally_append plan.period (coloured_in a.1 firsts) (coloured_in a.1 seconds))

  abbrev tally : List PacketReport → ℕ × PlannedAccount → Tally
  tally part a = tally_of plan.period (coloured_in a.1 (reports_of plan a.0 part))

  tallies_parts : (accounts : List (ℕ × PlannedAccount)) → AllByRecursion (λ (a : ℕ × PlannedAccount). IsTermed a.1.meter) accounts
      → AllByRecursion (λ (a : ℕ × PlannedAccount). has_term_from t a.1.meter ≡ true) accounts
      → map (tally rs) accounts ≡ added_accounts (map (tally (early t rs)) accounts) (map (tally (late t rs)) accounts)
  unfolding added_accounts
  tallies_parts [] is starts = refl
  tallies_parts (a ∷ accounts) is starts = λ i. tally_parts a is.0 starts.0 i ∷ tallies_parts accounts is.1 starts.1 i

  pub bill_parts : bill_of plan rs ≡ added_bills (bill_of plan (early t rs)) (bill_of plan (late t rs))
  bill_parts = λ i. record {
    reports = length_split f rs i;
    disputed = disputed_parts f g rs counts w.apart i;
    unassigned = kept_counts (λ r. is_none (account_of plan r)) i;
    accounts = tallies_parts (enumerate_from 0 plan.accounts)
        (all_numbered (λ a. IsTermed a.meter) 0 plan.accounts w.meters)
        (all_numbered (λ a. has_term_from t a.meter ≡ true) 0 plan.accounts w.terms) i;
  }

pub windows_add_up : WindowsAddUp
windows_add_up = bill_parts
