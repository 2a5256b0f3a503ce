-- The accounts of a plan while reports are metered.
use Rattle.std.proofs.Common.{◌≡◌, ℕ, zero, suc, ◌+◌, ◌<◌, ◌≤◌, Bool, eqb, List, [], ◌∷◌, ◌++◌, length, get_or, set, Option, Some, None, refl, sym, ap, ◌∙◌, subst, arith, zero-add, inl, inr}
use Rattle.std.specs.Prelude.{map, filter, slice_get, is_none, IfSome}
use Rattle.std.specs.List.{AllByRecursion, enumerate_from}
use Rattle.std.specs.List.Sorted.{IsStrictlySortedBy}
use Rattle.std.specs.Ordering.{nat_cmp, ordering_then, MatchOrdering}
use Rattle.std.specs.declared.cmp.Ordering.{Ordering}
use Rattle.std.specs.declared.cmp.Ordering.TheVariants.{Less, Equal, Greater}
use Rattle.std.proofs.lemmas.Bool.{cases_eq, cases_lt, eq-eqb, ne_eqb}
use Rattle.std.proofs.lemmas.Cmp.{ranked}
use Rattle.std.proofs.lemmas.Option.{get_or_from_slice_get}
use Rattle.std.proofs.lemmas.List.{append-nil, length-append, length-map, length_push, get_or-map, get_or_push, get_or_append_left, get_or-set_same, get_or-set_other, length-set}
use Rattle.std.proofs.lemmas.List.FromFn.{get_or-enumerate_from, length-enumerate_from}
use Rattle.std.proofs.lemmas.List.Sums.{length-filter, count_by-le-length}
use Rattle.tca_join.specs.Sets.{in_order}
use Rattle.tca_join.proofs.Sets.{all_more}
use Rattle.tca_report.specs.report.Reports.{PacketReport, report_cmp}
use Rattle.tca_meters.specs.declared.colour.Colour.{Colour}
use Rattle.tca_meters.specs.Packets.{Rule, Packet, coloured}
use Rattle.tca_meters.specs.Termed.{TermedMeter, termed_rule}
use Rattle.tca_meters.proofs.Coloured.{map-coloured}
use Rattle.tca_log.specs.Disputes.{undisputed}
use Rattle.tca_accounts.specs.Plans.{AccountPlan, PlannedAccount, account_of}
use Rattle.tca_accounts.specs.Sums.{packet_of, sums_of}
use Rattle.tca_accounts.specs.Spans.{Ascend, within, spans_of, period_of}
use Rattle.tca_accounts.specs.Bills.{is_number, coloured_by, coloured_in, reports_of, tally_of}
use Rattle.tca_accounts.specs.Metering.{HasRoom, CanAdd, Stands, IsRunning, AreRunning, metered_none, owned, tally_at, tally_so_far, with_last}
use Rattle.tca_accounts.specs.declared.metered.Metered.{Metered}
use Rattle.tca_accounts.specs.declared.running.Running.{Running}
use Rattle.tca_accounts.specs.declared.span.Span.{Span}
use Rattle.tca_accounts.proofs.Counting.{packets_few}
use Rattle.tca_accounts.proofs.Periods.{are_spans, last_of}

first_less : (o p : Ordering) (m n : ℕ) → MatchOrdering o (m < n) (m ≡ n) (n < m) → ordering_then o p ≡ Less → m ≤ n
first_less Less p m n h e = omega arith
first_less Equal p m n h e = omega arith
first_less Greater p m n h e = absurd cc

-- times don't fall from a report to one above it
no_earlier : (a b : PacketReport) → report_cmp a b ≡ Less → a.time ≤ b.time
no_earlier a b h = first_less (nat_cmp a.time b.time) _ a.time b.time (ranked a.time b.time (nat_cmp a.time b.time) refl) h

-- of a list that rises, the reports after the first aren't earlier than it, and rise
pub rest_later : (r : PacketReport) (rest : List PacketReport) → IsStrictlySortedBy report_cmp (r ∷ rest) → AllByRecursion (λ (q : PacketReport). r.time ≤ q.time) rest × IsStrictlySortedBy report_cmp rest
unfolding IsStrictlySortedBy
rest_later r rest h = (all_more (λ q. report_cmp r q ≡ Less) (λ q. r.time ≤ q.time) (no_earlier r) rest h.0, h.1)

pub from_zero : (reports : List PacketReport) → AllByRecursion (λ (q : PacketReport). 0 ≤ q.time) reports
from_zero [] = tt
from_zero (r ∷ reports) = (omega arith, from_zero reports)

pub filter_few : {K : Type 0} (p : K → Bool) (xs : List K) → length (filter p xs) ≤ length xs
filter_few p xs = omega (arith, length-filter p xs, count_by-le-length p xs)

pub coloured_length : {S : Type 0} (rule : Rule S) (packet : PacketReport → Packet) (s : S) (last : ℕ) (reports : List PacketReport) → length (coloured rule packet s last reports) ≡ length reports
coloured_length rule packet s last reports = sym (length-map (coloured rule packet s last reports) (λ (p : PacketReport × Colour). p.0)) ∙ ap length (map-coloured rule packet s last reports)

-- what holds at each place holds of each
pub all_from : {K : Type 0} (P : K → Type 0) (xs : List K) → ((k : ℕ) (d : K) → k < length xs → P (get_or xs k d)) → AllByRecursion P xs
all_from P [] h = tt
all_from P (x ∷ xs) h = (h zero x (omega arith), all_from P xs (λ k d l. h (suc k) d (omega arith)))

-- two lists whose values agree place by place
pub same_maps : {A B T : Type 0} (f : A → T) (g : B → T) (xs : List A) (ys : List B) → length xs ≡ length ys → ((k : ℕ) (a : A) (b : B) → k < length xs → f (get_or xs k a) ≡ g (get_or ys k b)) → map f xs ≡ map g ys
same_maps f g [] [] e h = refl
same_maps f g [] (y ∷ ys) e h = absurd (omega arith)
same_maps f g (x ∷ xs) [] e h = absurd (omega arith)
same_maps f g (x ∷ xs) (y ∷ ys) e h = λ i. h zero x y (omega arith) i ∷ same_maps f g xs ys (omega arith) (λ k a b l. h (suc k) a b (omega arith)) i

some_account : (accounts : List PlannedAccount) (n : ℕ) → n < length accounts → PlannedAccount
some_account [] n h = absurd (omega arith)
some_account (a ∷ accounts) n h = a

-- a part of an account, by the list of these parts
pub field_at : {T : Type 0} (f : PlannedAccount → T) (accounts : List PlannedAccount) (n : ℕ) (x : T) (a : PlannedAccount) → n < length accounts → slice_get (map f accounts) n ≡ Some x → f (get_or accounts n a) ≡ x
field_at f accounts n x a h is = sym (get_or-map f accounts n a x h) ∙ get_or_from_slice_get (map f accounts) n x x is

-- before the first report
pub stands_begun : {S : Type 0} (rule : Rule S) (other : Colour) (period : ℕ) (reports : List PacketReport) → Stands rule other period (coloured_by rule other reports) reports (metered_none rule) [] None
unfolding in_order
stands_begun rule other period reports = record { sofar = []; split = refl; total = refl; spans = refl; last = refl }

module _ {S : Type 0} (rule : Rule S) (other : Colour) (period : ℕ) (whole : List (PacketReport × Colour)) (m : Metered S) (ended : List Span) (current : Option Span) where
  -- the tally once no report is left
  pub tally_done : Stands rule other period whole [] m ended current → tally_at m.total ended current ≡ tally_of period whole
  unfolding coloured
  tally_done k =
      let same : k.sofar ≡ whole = sym (append-nil k.sofar) ∙ k.split in
      λ i. record { total = (k.total ∙ ap sums_of same) i; spans = (k.spans ∙ ap (spans_of period) same) i }

  pub spans_rise : (later : List PacketReport) → Stands rule other period whole later m ended current → Ascend (with_last ended current)
  spans_rise later k = subst Ascend (sym k.spans) ((are_spans period k.sofar).rises)

  -- where there are fewer reports so far than the limit there is room for another
  pub few_of : (later : List PacketReport) → length whole < 4194304 + length later → Stands rule other period whole later m ended current → CanAdd m.total current
  few_of later limit k =
      let split = ap length k.split in
      let all = length-append k.sofar (coloured rule (packet_of other) m.state m.time later) in
      let rest = coloured_length rule (packet_of other) m.state m.time later in
      let few : length k.sofar < 4194304 = omega (arith, split, all, rest) in
      record {
        total = λ c. rw k.total (omega (arith, packets_few c k.sofar));
        current = current_few current ended k.sofar few k.spans;
      }
    where
      current_few : (current : Option Span) (ended : List Span) (sofar : List (PacketReport × Colour)) → length sofar < 4194304 → with_last ended current ≡ spans_of period sofar → IfSome current (λ s. HasRoom s.sums)
      current_few None ended sofar few is = tt
      current_few (Some s) ended sofar few is = λ c.
          let sums = last_of period sofar ended s is in
          rw sums (omega (arith, packets_few c (within period s.index sofar), filter_few (λ (p : PacketReport × Colour). eqb (period_of period p.0) s.index) sofar))

-- the first accounts of a plan, before their first reports
pub record AreBegun (plan : AccountPlan) (n : ℕ) (rs : List Running) : Type 0 where
  pub count : length rs ≡ n
  pub each : (k : ℕ) (a : PlannedAccount) (r : Running) (reports : List PacketReport) → k < n → IsRunning plan.period (coloured_in (get_or plan.accounts k a) reports) reports (get_or rs k r)
  pub times : (k : ℕ) (r : Running) → k < n → (get_or rs k r).metered.time ≡ 0

module _ (plan : AccountPlan) where
  pub none_begun : (rs : List Running) → rs ≡ [] → AreBegun plan 0 rs
  none_begun rs is = record { count = ap length is; each = λ k a r reports h. absurd (omega arith); times = λ k r h. absurd (omega arith) }

  pub begun_more : (n : ℕ) (rs : List Running) (meter : TermedMeter) (other : Colour) (new : Running) → AreBegun plan n rs → n < length plan.accounts
      → slice_get (map (λ a. a.meter) plan.accounts) n ≡ Some meter → slice_get (map (λ a. a.other) plan.accounts) n ≡ Some other
      → ((period : ℕ) (reports : List PacketReport) → IsRunning period (coloured_by (termed_rule meter) other reports) reports new) → new.metered.time ≡ 0
      → AreBegun plan (n + 1) (rs ++ new ∷ [])
  begun_more n rs meter other new b inside meter-is other-is running time = record {
    count = length_push rs new ∙ ap (λ m. m + 1) b.count;
    each = λ k a r reports h. elim (cases_lt k n) [
      | inl below ↦ rw (get_or_append_left rs (new ∷ []) r k (omega (arith, b.count))) (b.each k a r reports below)
      | inr above ↦
          let last : k ≡ n = omega arith in
          let meter-at = field_at (λ a. a.meter) plan.accounts n meter a inside meter-is in
          let other-at = field_at (λ a. a.other) plan.accounts n other a inside other-is in
          rw (last, get_or_push rs new r n b.count, meter-at, other-at) (running plan.period reports)
    ];
    times = λ k r h. elim (cases_lt k n) [
      | inl below ↦ rw (get_or_append_left rs (new ∷ []) r k (omega (arith, b.count))) (b.times k r below)
      | inr above ↦ let last : k ≡ n = omega arith in rw (last, get_or_push rs new r n b.count) time
    ];
  }

  pub all_begun : (n : ℕ) (rs : List Running) → AreBegun plan n rs → n ≡ length plan.accounts → (all : List PacketReport) → AreRunning plan all all rs
  all_begun n rs b whole all = record {
    count = b.count ∙ whole;
    each = λ k a r h. b.each k a r (owned plan k all) (omega arith);
    early = λ k r h. rw (b.times k r (omega arith)) (from_zero all);
  }

  module _ (all : List PacketReport) (x : PacketReport) (rest : List PacketReport) (rs : List Running) (m : AreRunning plan all (x ∷ rest) rs) where
    owned_here : (n : ℕ) → account_of plan x ≡ Some n → owned plan n (x ∷ rest) ≡ x ∷ owned plan n rest
    owned_here n is = rw (is, eq-eqb n n refl) refl

    owned_apart : (n k : ℕ) → account_of plan x ≡ Some n → (n ≡ k → ⊥) → owned plan k (x ∷ rest) ≡ owned plan k rest
    owned_apart n k is apart = rw (is, ne_eqb n k apart) refl

    owned_none : (k : ℕ) → account_of plan x ≡ None → owned plan k (x ∷ rest) ≡ owned plan k rest
    owned_none k is = rw is refl

    -- the account that owns a report has it next
    pub its_next : (n : ℕ) (a : PlannedAccount) (r : Running) → account_of plan x ≡ Some n → n < length plan.accounts
        → IsRunning plan.period (coloured_in (get_or plan.accounts n a) (owned plan n all)) (x ∷ owned plan n rest) (get_or rs n r)
    its_next n a r is h = rw (owned_here n is) at (m.each n a r h)

    pub in_time : (n : ℕ) (r : Running) → n < length plan.accounts → (get_or rs n r).metered.time ≤ x.time
    in_time n r h = (m.early n r h).0

    pub has_room : (n : ℕ) (r : Running) → account_of plan x ≡ Some n → n < length plan.accounts → length all ≤ 4194304 → CanAdd (get_or rs n r).metered.total (get_or rs n r).current
    has_room n r is h limit =
        let a = some_account plan.accounts n h in
        let account = get_or plan.accounts n a in
        let run = get_or rs n r in
        let mine = owned plan n all in
        let one = coloured_length (termed_rule account.meter) (packet_of account.other) (termed_rule account.meter).opening 0 mine in
        let two = filter_few (λ q. is_number n (account_of plan q)) all in
        few_of (termed_rule run.meter) run.other plan.period (coloured_in account mine) run.metered run.ended.items run.current (x ∷ owned plan n rest) (omega (arith, one, two)) (its_next n a r is h)

    -- that account had it, and the others are as they were
    pub had_next : (n : ℕ) (old new : Running) → account_of plan x ≡ Some n → n < length plan.accounts
        → ((whole : List (PacketReport × Colour)) (later : List PacketReport) → IsRunning plan.period whole (x ∷ later) (get_or rs n old) → IsRunning plan.period whole later new)
        → new.metered.time ≡ x.time → AllByRecursion (λ (q : PacketReport). x.time ≤ q.time) rest → AreRunning plan all rest (set rs n new)
    had_next n old new is h running time later =
        let inside : n < length rs = omega (arith, m.count) in
        record {
          count = length-set rs n new ∙ m.count;
          each = λ k a r l. elim (cases_eq k n) [
            | inl same ↦ rw (same, get_or-set_same rs n new r inside) (running (coloured_in (get_or plan.accounts n a) (owned plan n all)) (owned plan n rest) (its_next n a old is h))
            | inr apart ↦ rw (get_or-set_other rs n k new r apart) (rw (owned_apart n k is (λ e. apart (sym e))) at (m.each k a r l))
          ];
          early = λ k r l. elim (cases_eq k n) [
            | inl same ↦ rw (same, get_or-set_same rs n new r inside, time) later
            | inr apart ↦ rw (get_or-set_other rs n k new r apart) ((m.early k r l).1)
          ];
        }

    -- a report that no account owns
    pub skipped : account_of plan x ≡ None → AreRunning plan all rest rs
    skipped is = record {
      count = m.count;
      each = λ k a r l. rw (owned_none k is) at (m.each k a r l);
      early = λ k r l. (m.early k r l).1;
    }

  module _ (reports : List PacketReport) (rs : List Running) (m : AreRunning plan (undisputed reports) [] rs) where
    pub all_rise : AllByRecursion (λ r. Ascend (tally_so_far r).spans) rs
    all_rise = all_from (λ r. Ascend (tally_so_far r).spans) rs (λ k r l.
        let inside : k < length plan.accounts = omega (arith, m.count) in
        let a = some_account plan.accounts k inside in
        let at = get_or rs k r in
        spans_rise (termed_rule at.meter) at.other plan.period (coloured_in (get_or plan.accounts k a) (owned plan k (undisputed reports))) at.metered at.ended.items at.current [] (m.each k a r inside))

    pub tallies_are : map tally_so_far rs ≡ map (λ a. tally_of plan.period (coloured_in a.1 (reports_of plan a.0 reports))) (enumerate_from 0 plan.accounts)
    tallies_are =
        same_maps tally_so_far (λ (a : ℕ × PlannedAccount). tally_of plan.period (coloured_in a.1 (reports_of plan a.0 reports))) rs (enumerate_from 0 plan.accounts) (m.count ∙ sym (length-enumerate_from 0 plan.accounts)) (λ k r a l.
        let inside : k < length plan.accounts = omega (arith, m.count) in
        let at = get_or-enumerate_from 0 plan.accounts k a inside in
        let run = get_or rs k r in
        rw (at, zero-add k) (tally_done (termed_rule run.meter) run.other plan.period (coloured_in (get_or plan.accounts k a.1) (reports_of plan k reports)) run.metered run.ended.items run.current (m.each k a.1 r inside)))

-- how many of these reports no account owns
abbrev pub none_in : AccountPlan → List PacketReport → ℕ
none_in plan reports = length (filter (λ r. is_none (account_of plan r)) reports)

pub none_more : (plan : AccountPlan) (x : PacketReport) (rest : List PacketReport) → account_of plan x ≡ None → none_in plan (x ∷ rest) ≡ none_in plan rest + 1
none_more plan x rest is = rw is (omega arith)

pub none_same : (plan : AccountPlan) (x : PacketReport) (rest : List PacketReport) (n : ℕ) → account_of plan x ≡ Some n → none_in plan (x ∷ rest) ≡ none_in plan rest
none_same plan x rest n is = rw is refl

pub none_few : (plan : AccountPlan) (reports : List PacketReport) → none_in plan reports ≤ length reports
none_few plan reports = filter_few (λ r. is_none (account_of plan r)) reports
