-- The accounts of a plan while each settled report is given to the one that owns it.
use Rattle.std.proofs.Common.{◌≡◌, ◌∙◌, ℕ, suc, ◌+◌, ◌<◌, ◌≤◌, true, false, cond, List, [], ◌∷◌, ◌++◌, append_assoc, append-nil, map-id, length, get_or, set, take, drop, Option, Some, None, ap, sym, subst, refl, arith, inl, inr}
use Rattle.std.specs.Prelude.{map, filter, slice_get, option_and_then, option_map}
use Rattle.std.specs.List.{AllByRecursion, cons_option}
use Rattle.std.specs.List.Sorted.{IsStrictlySortedBy}
use Rattle.std.proofs.lemmas.Bool.{cases_eq, eq-eqb, ne_eqb}
use Rattle.std.proofs.lemmas.Option.{get_or_from_slice_get, slice_get_within}
use Rattle.std.proofs.lemmas.List.{get_or-map, get_or-set_other, get_or-set_same, length-append, length-map, length-set, map-append, drop-set-lt, set-get_or, take_all, take_more, take_more_set}
use Rattle.std.proofs.lemmas.List.Elements.{filter_map-append}
use Rattle.std.proofs.Math.ListN.{drop_of_length-le}
use Rattle.std.proofs.Math.Seq.{drop-cons}
use Rattle.tca_report.specs.report.Reports.{PacketReport, report_cmp}
use Rattle.tca_meters.specs.declared.colour.Colour.{Colour}
use Rattle.tca_meters.specs.Packets.{coloured}
use Rattle.tca_meters.specs.Termed.{TermedMeter, termed_rule}
use Rattle.tca_accounts.specs.Plans.{AccountPlan, PlannedAccount, account_of}
use Rattle.tca_accounts.specs.Sums.{packet_of, with_packet}
use Rattle.tca_accounts.specs.Bills.{coloured_in, is_number}
use Rattle.tca_accounts.specs.Metering.{HasRoom, metered_none, owned}
use Rattle.tca_accounts.proofs.Bills.{coloured_length, field_at, filter_few, from_zero, rest_later}
use Rattle.tca_accounts.proofs.Counting.{packets_few, sums_push}
use Rattle.tcatool.specs.Listed.{AreItemsUnder, account_in, colour_if, counted, item_alone}
use Rattle.tcatool.specs.inside.Sharing.{AreGiven, AreSharing, IsSharing, next_colour, opened, owner_in, settled_in, with_next}
use Rattle.tca_log.proofs.Undisputed.{undisputed_rises}
use Rattle.tcatool.proofs.Settling.{settled_alone}
use Rattle.tcatool.specs.declared.item.Item.{Item}
use Rattle.tcatool.specs.declared.item.Share.{Share}
use Rattle.tcatool.specs.declared.sharing.Running.{Running}

-- what an account counts with one item more: nothing where that has no share, or that of another account
counted_none : (n : ℕ) (done : List Item) (i : Item) → i.share ≡ None → counted n (done ++ i ∷ []) ≡ counted n done
counted_none n done i none =
    filter_map-append (λ (x : Item). option_and_then (colour_if n x.report) x.share) done (i ∷ [])
    ∙ ap (λ s. counted n done ++ cons_option (option_and_then (colour_if n i.report) s) []) none
    ∙ append-nil (counted n done)

counted_other : (n k : ℕ) (done : List Item) (i : Item) (colour : Colour) → i.share ≡ Some (record { account = n; colour = colour }) → (n ≡ k → ⊥) → counted k (done ++ i ∷ []) ≡ counted k done
counted_other n k done i colour share apart =
    filter_map-append (λ (x : Item). option_and_then (colour_if k x.report) x.share) done (i ∷ [])
    ∙ ap (λ s. counted k done ++ cons_option (option_and_then (colour_if k i.report) s) []) share
    ∙ ap (λ b. counted k done ++ cons_option (cond b (Some (i.report, colour)) None) []) (ne_eqb n k apart)
    ∙ append-nil (counted k done)

counted_mine : (n : ℕ) (done : List Item) (i : Item) (colour : Colour) → i.share ≡ Some (record { account = n; colour = colour }) → counted n (done ++ i ∷ []) ≡ counted n done ++ (i.report, colour) ∷ []
counted_mine n done i colour share =
    filter_map-append (λ (x : Item). option_and_then (colour_if n x.report) x.share) done (i ∷ [])
    ∙ ap (λ s. counted n done ++ cons_option (option_and_then (colour_if n i.report) s) []) share
    ∙ ap (λ b. counted n done ++ cons_option (cond b (Some (i.report, colour)) None) []) (eq-eqb n n refl)

abbrev account_at : Option Share → Option ℕ
account_at share = option_map (λ s. s.account) share

some_account : (accounts : List PlannedAccount) (n : ℕ) → n < length accounts → PlannedAccount
some_account [] n h = absurd (omega arith)
some_account (a ∷ accounts) n h = a

-- one account more
pub opened_more : (accounts : List PlannedAccount) (n : ℕ) (meter : TermedMeter) (other : Colour) (new : Running) → n < length accounts
    → slice_get (map (λ a. a.meter) accounts) n ≡ Some meter → slice_get (map (λ a. a.other) accounts) n ≡ Some other
    → new ≡ record { meter = meter; other = other; metered = metered_none (termed_rule meter) }
    → map opened (take n accounts) ++ new ∷ [] ≡ map opened (take (n + 1) accounts)
opened_more accounts n meter other new h meter-is other-is is =
    let a = some_account accounts n h in
    let its-meter : (get_or accounts n a).meter ≡ meter = field_at (λ x. x.meter) accounts n meter a h meter-is in
    let its-other : (get_or accounts n a).other ≡ other = field_at (λ x. x.other) accounts n other a h other-is in
    let its : opened (get_or accounts n a) ≡ new = (λ i. record { meter = its-meter i; other = its-other i; metered = metered_none (termed_rule (its-meter i)) }) ∙ sym is in
    sym (ap (map opened) (take_more accounts n a h) ∙ map-append opened (take n accounts) (get_or accounts n a ∷ []) ∙ ap (λ (x : Running). map opened (take n accounts) ++ x ∷ []) its)

module _ (plan : AccountPlan) (all : List PacketReport) where
  -- before the first report
  pub all_opened : (accounts : List Running) → accounts ≡ map opened plan.accounts → AreSharing plan all [] all accounts
  all_opened accounts is = rw is (record {
    count = length-map plan.accounts opened;
    each = λ n a r h. rw (get_or-map opened plan.accounts n a r h) (record { split = refl; total = refl });
    early = λ n r h. rw (get_or-map opened plan.accounts n (some_account plan.accounts n h) r h) (from_zero all);
  })

  -- an item without a share
  pub unshared : (done : List Item) (later : List PacketReport) (accounts : List Running) (i : Item) → AreSharing plan all done later accounts → i.share ≡ None → AreSharing plan all (done ++ i ∷ []) later accounts
  unshared done later accounts i m none = record {
    count = m.count;
    each = λ n a r h. rw (counted_none n done i none) (m.each n a r h);
    early = m.early;
  }

  module _ (done : List Item) (x : PacketReport) (rest : List PacketReport) (accounts : List Running) (m : AreSharing plan all done (x ∷ rest) accounts) where
    owned_here : (n : ℕ) → account_of plan x ≡ Some n → owned plan n (x ∷ rest) ≡ x ∷ owned plan n rest
    owned_here n is = rw (is, eq-eqb n n refl) refl

    owned_apart : (n k : ℕ) → account_of plan x ≡ Some n → (n ≡ k → ⊥) → owned plan k (x ∷ rest) ≡ owned plan k rest
    owned_apart n k is apart = rw (is, ne_eqb n k apart) refl

    owned_none : (k : ℕ) → account_of plan x ≡ None → owned plan k (x ∷ rest) ≡ owned plan k rest
    owned_none k is = rw is refl

    -- a report that no account owns
    pub skipped : account_of plan x ≡ None → AreSharing plan all done rest accounts
    skipped is = record {
      count = m.count;
      each = λ k a r h. rw (owned_none k is) at (m.each k a r h);
      early = λ k r h. (m.early k r h).1;
    }

    module _ (n : ℕ) (old other : Running) (is : account_of plan x ≡ Some n) (h : n < length plan.accounts) (old-is : old ≡ get_or accounts n other) where
      pub in_time : old.metered.time ≤ x.time
      in_time = omega (arith, (m.early n other h).0, ap (λ r. r.metered.time) old-is)

      -- the account that owns a report has it next
      its_next : (a : PlannedAccount) → IsSharing (coloured_in (get_or plan.accounts n a) (owned plan n all)) (counted n done) (x ∷ owned plan n rest) old
      its_next a = subst (IsSharing (coloured_in (get_or plan.accounts n a) (owned plan n all)) (counted n done) (x ∷ owned plan n rest)) (sym old-is) (rw (owned_here n is) at (m.each n a other h))

      pub has_room : length all ≤ 4194304 → HasRoom old.metered.total
      has_room limit =
          let a = get_or plan.accounts n (some_account plan.accounts n h) in
          let mine = owned plan n all in
          let stands = its_next (some_account plan.accounts n h) in
          let whole = coloured_length (termed_rule a.meter) (packet_of a.other) (termed_rule a.meter).opening 0 mine in
          let left = coloured_length (termed_rule old.meter) (packet_of old.other) old.metered.state old.metered.time (x ∷ owned plan n rest) in
          let part = filter_few (λ q. is_number n (account_of plan q)) all in
          let both = length-append (counted n done) (coloured (termed_rule old.meter) (packet_of old.other) old.metered.state old.metered.time (x ∷ owned plan n rest)) in
          let split = ap length stands.split in
          let few : length (counted n done) < 4194304 = omega (arith, split, both, left, whole, part, limit) in
          λ c. rw stands.total (omega (arith, packets_few c (counted n done)))

      mine : (i : Item) → i.report ≡ x → i.share ≡ Some (record { account = n; colour = next_colour old x }) → counted n (done ++ i ∷ []) ≡ counted n done ++ (x, next_colour old x) ∷ []
      mine i report share = counted_mine n done i (next_colour old x) share ∙ ap (λ (r : PacketReport). counted n done ++ (r, next_colour old x) ∷ []) report

      its_more : (a : PlannedAccount) → IsSharing (coloured_in (get_or plan.accounts n a) (owned plan n all)) (counted n done ++ (x, next_colour old x) ∷ []) (owned plan n rest) (with_next old x)
      unfolding coloured
      its_more a =
          let stands = its_next a in
          record {
            split = append_assoc (counted n done) ((x, next_colour old x) ∷ []) _ ∙ stands.split;
            total = ap (with_packet (next_colour old x) x.octets) stands.total ∙ sym (sums_push (counted n done) x (next_colour old x));
          }

      -- that account counts it, and the others are as they were
      pub given : (i : Item) → i.report ≡ x → i.share ≡ Some (record { account = n; colour = next_colour old x }) → AllByRecursion (λ (q : PacketReport). x.time ≤ q.time) rest
          → AreSharing plan all (done ++ i ∷ []) rest (set accounts n (with_next old x))
      given i report share later =
          let new = with_next old x in
          let inside : n < length accounts = omega (arith, m.count) in
          record {
            count = length-set accounts n new ∙ m.count;
            each = λ k a r l. elim (cases_eq k n) [
              | inl same ↦ rw (same, get_or-set_same accounts n new r inside, mine i report share) (its_more a)
              | inr apart ↦ rw (get_or-set_other accounts n k new r apart, counted_other n k done i (next_colour old x) share (λ e. apart (sym e))) (rw (owned_apart n k is (λ e. apart (sym e))) at (m.each k a r l))
            ];
            early = λ k r l. elim (cases_eq k n) [
              | inl same ↦ rw (same, get_or-set_same accounts n new r inside) later
              | inr apart ↦ rw (get_or-set_other accounts n k new r apart) ((m.early k r l).1)
            ];
          }

-- one item more that was given its share, or left without one
pub given_more : (plan : AccountPlan) (before after : List Item) (x y : Item) → AreGiven plan before after → y.report ≡ x.report → y.is_settled ≡ x.is_settled → account_in y ≡ owner_in plan x
    → AreGiven plan (before ++ x ∷ []) (after ++ y ∷ [])
given_more plan before after x y g report state account = record {
  reports = both (λ i. i.report) (λ i. i.report) g.reports report;
  states = both (λ i. i.is_settled) (λ i. i.is_settled) g.states state;
  accounts = both account_in (owner_in plan) g.accounts account;
}
  where
    both : {T : Type 0} (f g : Item → T) → map f after ≡ map g before → f y ≡ g x → map f (after ++ y ∷ []) ≡ map g (before ++ x ∷ [])
    both f g so here = map-append f after (y ∷ []) ∙ (λ i. so i ++ here i ∷ []) ∙ sym (map-append g before (x ∷ []))

-- The first items were given their shares; the others are as they were, and the accounts stand before their reports.
pub record IsSharedTo (plan : AccountPlan) (before items : List Item) (i : ℕ) (accounts : List Running) : Type 0 where
  pub given : AreGiven plan (take i before) (take i items)
  pub left : drop i items ≡ drop i before
  pub alone : AllByRecursion (λ x. x.share ≡ None) (drop i items)
  pub sharing : AreSharing plan (settled_in before) (take i items) (settled_in (drop i items)) accounts
  pub rises : IsStrictlySortedBy report_cmp (settled_in (drop i items))

settled_here : (x : Item) (items : List Item) → x.is_settled ≡ true → settled_in (x ∷ items) ≡ x.report ∷ settled_in items
settled_here x items is = rw is refl

settled_apart : (x : Item) (items : List Item) → x.is_settled ≡ false → settled_in (x ∷ items) ≡ settled_in items
settled_apart x items is = rw is refl

first_is : (x y : Item) (xs ys : List Item) → x ∷ xs ≡ y ∷ ys → x ≡ y
first_is x y xs ys e = cc

rest_is : (x y : Item) (xs ys : List Item) → x ∷ xs ≡ y ∷ ys → xs ≡ ys
rest_is x y xs ys e = cc

cut_at : (items : List Item) (i : ℕ) (x : Item) → i < length items → drop i items ≡ get_or items i x ∷ drop (i + 1) items
cut_at items i x h = let on : suc i ≡ i + 1 = omega arith in drop-cons items i x h ∙ ap (λ k. get_or items i x ∷ drop k items) on

module _ (plan : AccountPlan) (before : List Item) where
  -- before the first item
  pub none_shared : (accounts : List Running) → accounts ≡ map opened plan.accounts → AllByRecursion (λ x. x.share ≡ None) before → IsStrictlySortedBy report_cmp (settled_in before) → IsSharedTo plan before before 0 accounts
  none_shared accounts is alone rises = record {
    given = record { reports = refl; states = refl; accounts = refl };
    left = refl;
    alone = alone;
    sharing = all_opened plan (settled_in before) accounts is;
    rises = rises;
  }

  module _ (items : List Item) (i : ℕ) (accounts : List Running) (s : IsSharedTo plan before items i accounts) (x other : Item) (h : i < length items) (same : length items ≡ length before) (x-is : x ≡ get_or items i other) where
    cut : drop i items ≡ x ∷ drop (i + 1) items
    cut = cut_at items i other h ∙ ap (λ (y : Item). y ∷ drop (i + 1) items) (sym x-is)

    both : x ∷ drop (i + 1) items ≡ get_or before i other ∷ drop (i + 1) before
    both = sym cut ∙ s.left ∙ cut_at before i other (omega arith)

    before_more : take (i + 1) before ≡ take i before ++ x ∷ []
    before_more = take_more before i other (omega arith) ∙ ap (λ (y : Item). take i before ++ y ∷ []) (sym (first_is x (get_or before i other) _ _ both))

    items_more : take (i + 1) items ≡ take i items ++ x ∷ []
    items_more = take_more items i other h ∙ ap (λ (y : Item). take i items ++ y ∷ []) (sym x-is)

    unmoved : set items i x ≡ items
    unmoved = ap (set items i) x-is ∙ set-get_or items i other

    none : x.share ≡ None
    none = (rw cut at s.alone).0

    rest_alone : AllByRecursion (λ y. y.share ≡ None) (drop (i + 1) items)
    rest_alone = (rw cut at s.alone).1

    -- an item that isn't settled
    pub disputed_next : x.is_settled ≡ false → IsSharedTo plan before (set items i x) (i + 1) accounts
    disputed_next is =
        let apart = settled_apart x (drop (i + 1) items) is in
        rw unmoved (record {
          given = rw (before_more, items_more) (given_more plan (take i before) (take i items) x x s.given refl refl (ap account_at none ∙ sym (ap (λ b. cond b (account_of plan x.report) None) is)));
          left = rest_is x (get_or before i other) _ _ both;
          alone = rest_alone;
          sharing = rw items_more (unshared plan (settled_in before) (take i items) (settled_in (drop (i + 1) items)) accounts x (rw (cut, apart) at s.sharing) none);
          rises = rw (cut, apart) at s.rises;
        })

    module _ (is : x.is_settled ≡ true) where
      here : settled_in (drop i items) ≡ x.report ∷ settled_in (drop (i + 1) items)
      here = ap settled_in cut ∙ settled_here x (drop (i + 1) items) is

      stands : AreSharing plan (settled_in before) (take i items) (x.report ∷ settled_in (drop (i + 1) items)) accounts
      stands = rw here at s.sharing

      later : AllByRecursion (λ (q : PacketReport). x.report.time ≤ q.time) (settled_in (drop (i + 1) items)) × IsStrictlySortedBy report_cmp (settled_in (drop (i + 1) items))
      later = rest_later x.report (settled_in (drop (i + 1) items)) (rw here at s.rises)

      -- a settled one that no account owns
      pub unowned_next : account_of plan x.report ≡ None → IsSharedTo plan before (set items i x) (i + 1) accounts
      unowned_next nobody = rw unmoved (record {
        given = rw (before_more, items_more) (given_more plan (take i before) (take i items) x x s.given refl refl (ap account_at none ∙ sym (ap (λ b. cond b (account_of plan x.report) None) is ∙ nobody)));
        left = rest_is x (get_or before i other) _ _ both;
        alone = rest_alone;
        sharing = rw items_more (unshared plan (settled_in before) (take i items) (settled_in (drop (i + 1) items)) accounts x (skipped plan (settled_in before) (take i items) x.report (settled_in (drop (i + 1) items)) accounts stands nobody) none);
        rises = later.1;
      })

      module _ (n : ℕ) (old running : Running) (owns : account_of plan x.report ≡ Some n) (low : n < length plan.accounts) (old-is : old ≡ get_or accounts n running) where
        pub next_in_time : old.metered.time ≤ x.report.time
        next_in_time = in_time plan (settled_in before) (take i items) x.report (settled_in (drop (i + 1) items)) accounts stands n old running owns low old-is

        pub next_has_room : length before ≤ 4194304 → HasRoom old.metered.total
        next_has_room limit =
            has_room plan (settled_in before) (take i items) x.report (settled_in (drop (i + 1) items)) accounts stands n old running owns low old-is
            (omega (arith, limit, length-map (filter (λ (y : Item). y.is_settled) before) (λ (y : Item). y.report), filter_few (λ (y : Item). y.is_settled) before))

        -- one that an account owns
        pub shared_next : (y : Item) (new : Running) → y ≡ record { report = x.report; is_settled = x.is_settled; share = Some (record { account = n; colour = next_colour old x.report }) } → new ≡ with_next old x.report
            → IsSharedTo plan before (set items i y) (i + 1) (set accounts n new)
        shared_next y new y-is new-is =
            let share : y.share ≡ Some (record { account = n; colour = next_colour old x.report }) = ap (λ z. z.share) y-is in
            let report : y.report ≡ x.report = ap (λ z. z.report) y-is in
            let after = drop-set-lt (i + 1) items i y (omega arith) in
            rw new-is (record {
              given = rw (before_more, take_more_set items i y h) (given_more plan (take i before) (take i items) x y s.given report (ap (λ z. z.is_settled) y-is) (ap account_at share ∙ sym (ap (λ b. cond b (account_of plan x.report) None) is ∙ owns)));
              left = after ∙ rest_is x (get_or before i other) _ _ both;
              alone = rw after rest_alone;
              sharing = rw (take_more_set items i y h, after) (given plan (settled_in before) (take i items) x.report (settled_in (drop (i + 1) items)) accounts stands n old running owns low old-is y report share later.0);
              rises = rw after later.1;
            })

  -- once all have theirs, each account counts all of its reports
  pub all_counted : (items : List Item) (i : ℕ) (accounts : List Running) → IsSharedTo plan before items i accounts → length items ≤ i
      → (n : ℕ) (a : PlannedAccount) → slice_get plan.accounts n ≡ Some a → counted n items ≡ coloured_in a (owned plan n (settled_in before))
  unfolding coloured
  all_counted items i accounts s whole n a is =
      let low : n < length plan.accounts = slice_get_within plan.accounts n a is in
      let none : drop i items ≡ [] = drop_of_length-le items whole in
      let stands = rw (none, take_all i items whole) at (s.sharing.each n a (some_running accounts n (omega (arith, s.sharing.count))) low) in
      sym (append-nil (counted n items)) ∙ stands.split ∙ ap (λ (b : PlannedAccount). coloured_in b (owned plan n (settled_in before))) (get_or_from_slice_get plan.accounts n a a is)
    where
      some_running : (accounts : List Running) (n : ℕ) → n < length accounts → Running
      some_running [] n h = absurd (omega arith)
      some_running (a ∷ accounts) n h = a

-- what two maps give, one after the other
map_after : {X Y : Type 0} (f : PacketReport → X) (g : X → Y) (xs : List PacketReport) → map g (map f xs) ≡ map (λ x. g (f x)) xs
map_after f g [] = refl
map_after {X} {Y} f g (x ∷ xs) = ap (λ (l : List Y). g (f x) ∷ l) (map_after f g xs)

-- the items of a set that were given their shares are its items under the plan
pub items_are : (plan : AccountPlan) (rs : List PacketReport) (items : List Item) → AreGiven plan (map (item_alone rs) rs) items
    → ((n : ℕ) (a : PlannedAccount) → slice_get plan.accounts n ≡ Some a → counted n items ≡ coloured_in a (owned plan n (settled_in (map (item_alone rs) rs))))
    → AreItemsUnder plan rs items
items_are plan rs items given colours = record {
  reports = given.reports ∙ map_after (item_alone rs) (λ i. i.report) rs ∙ map-id rs;
  states = given.states ∙ map_after (item_alone rs) (λ i. i.is_settled) rs;
  accounts = given.accounts ∙ map_after (item_alone rs) (owner_in plan) rs;
  colours = λ n a is. colours n a is ∙ ap (λ (l : List PacketReport). coloured_in a (owned plan n l)) (settled_alone rs);
}

-- the settled items of a set rise
pub settled_rise : (rs : List PacketReport) → IsStrictlySortedBy report_cmp rs → IsStrictlySortedBy report_cmp (settled_in (map (item_alone rs) rs))
settled_rise rs rises = rw (settled_alone rs) (undisputed_rises rs rises)
