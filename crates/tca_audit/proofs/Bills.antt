-- The accounts of a plan while reports are metered.
use Rattle.std.proofs.Common.{◌≡◌, ℕ, ◌+◌, ◌<◌, ◌≤◌, List, [], ◌∷◌, ◌++◌, length, get_or, set, drop, true, false, Some, None, refl, sym, ap, ◌∙◌, arith, zero-add, inl, inr}
use Rattle.std.specs.Prelude.{map, slice_get}
use Rattle.std.specs.List.{AllByRecursion, enumerate_from}
use Rattle.std.proofs.lemmas.Bool.{cases_eq, cases_lt, eq-eqb, ne_eqb}
use Rattle.std.proofs.lemmas.List.{length_push, get_or_push, get_or_append_left, get_or-set_same, get_or-set_other, length-set}
use Rattle.std.proofs.lemmas.List.FromFn.{get_or-enumerate_from, length-enumerate_from}
use Rattle.tca_report.specs.report.Reports.{PacketReport}
use Rattle.tca_meters.specs.declared.colour.Colour.{Colour}
use Rattle.tca_meters.specs.Termed.{TermedMeter, termed_rule}
use Rattle.tca_join.specs.Sets.{has}
use Rattle.tca_report.specs.report.Identities.{identity_cmp, identity_of}
use Rattle.tca_report.specs.declared.report.Identity.{Identity}
use Rattle.tca_log.specs.Disputes.{settled_of, undisputed}
use Rattle.tca_log.proofs.Undisputed.{settled_keep, settled_skip}
use Rattle.tca_audit.proofs.Repeats.{drop_read}
use Rattle.tca_accounts.specs.Plans.{AccountPlan, PlannedAccount, account_of}
use Rattle.tca_accounts.specs.Sums.{packet_of}
use Rattle.tca_accounts.specs.Spans.{Ascend}
use Rattle.tca_accounts.specs.Bills.{is_number, coloured_by, coloured_in, reports_of, tally_of}
use Rattle.tca_accounts.specs.Metering.{CanAdd, owned}
use Rattle.tca_accounts.proofs.Bills.{all_from, coloured_length, few_of, field_at, filter_few, from_zero, same_maps, spans_rise, tally_done}
use Rattle.tca_audit.specs.inside.Metering.{AreMetering, IsMetering, standing, tally_so_far}
use Rattle.tca_audit.specs.declared.account.Account.{Account}

some_account : (accounts : List PlannedAccount) (n : ℕ) → n < length accounts → PlannedAccount
some_account [] n h = absurd (omega arith)
some_account (a ∷ accounts) n h = a

-- the first accounts of a plan, before their first reports
pub record AreBegun (plan : AccountPlan) (n : ℕ) (rs : List Account) : Type 0 where
  pub count : length rs ≡ n
  pub each : (k : ℕ) (a : PlannedAccount) (r : Account) (reports : List PacketReport) → k < n → IsMetering plan.period (coloured_in (get_or plan.accounts k a) reports) reports (get_or rs k r)
  pub times : (k : ℕ) (r : Account) → k < n → (get_or rs k r).time ≡ 0

module _ (plan : AccountPlan) where
  pub none_begun : (rs : List Account) → rs ≡ [] → AreBegun plan 0 rs
  none_begun rs is = record { count = ap length is; each = λ k a r reports h. absurd (omega arith); times = λ k r h. absurd (omega arith) }

  pub begun_more : (n : ℕ) (rs : List Account) (meter : TermedMeter) (other : Colour) (new : Account) → AreBegun plan n rs → n < length plan.accounts
      → slice_get (map (λ a. a.meter) plan.accounts) n ≡ Some meter → slice_get (map (λ a. a.other) plan.accounts) n ≡ Some other
      → ((period : ℕ) (reports : List PacketReport) → IsMetering period (coloured_by (termed_rule meter) other reports) reports new) → new.time ≡ 0
      → AreBegun plan (n + 1) (rs ++ new ∷ [])
  begun_more n rs meter other new b inside meter-is other-is running time = record {
    count = length_push rs new ∙ ap (λ m. m + 1) b.count;
    each = λ k a r reports h. elim (cases_lt k n) [
      | inl below ↦ rw (get_or_append_left rs (new ∷ []) r k (omega (arith, b.count))) (b.each k a r reports below)
      | inr above ↦
          let last : k ≡ n = omega arith in
          let meter-at = field_at (λ a. a.meter) plan.accounts n meter a inside meter-is in
          let other-at = field_at (λ a. a.other) plan.accounts n other a inside other-is in
          rw (last, get_or_push rs new r n b.count, meter-at, other-at) (running plan.period reports)
    ];
    times = λ k r h. elim (cases_lt k n) [
      | inl below ↦ rw (get_or_append_left rs (new ∷ []) r k (omega (arith, b.count))) (b.times k r below)
      | inr above ↦ let last : k ≡ n = omega arith in rw (last, get_or_push rs new r n b.count) time
    ];
  }

  pub all_begun : (n : ℕ) (rs : List Account) → AreBegun plan n rs → n ≡ length plan.accounts → (all : List PacketReport) → AreMetering plan all all rs
  all_begun n rs b whole all = record {
    count = b.count ∙ whole;
    each = λ k a r h. b.each k a r (owned plan k all) (omega arith);
    early = λ k r h. rw (b.times k r (omega arith)) (from_zero all);
  }

  module _ (all : List PacketReport) (x : PacketReport) (rest : List PacketReport) (rs : List Account) (m : AreMetering plan all (x ∷ rest) rs) where
    owned_here : (n : ℕ) → account_of plan x ≡ Some n → owned plan n (x ∷ rest) ≡ x ∷ owned plan n rest
    owned_here n is = rw (is, eq-eqb n n refl) refl

    owned_apart : (n k : ℕ) → account_of plan x ≡ Some n → (n ≡ k → ⊥) → owned plan k (x ∷ rest) ≡ owned plan k rest
    owned_apart n k is apart = rw (is, ne_eqb n k apart) refl

    owned_none : (k : ℕ) → account_of plan x ≡ None → owned plan k (x ∷ rest) ≡ owned plan k rest
    owned_none k is = rw is refl

    -- the account that owns a report has it next
    pub its_next : (n : ℕ) (a : PlannedAccount) (r : Account) → account_of plan x ≡ Some n → n < length plan.accounts
        → IsMetering plan.period (coloured_in (get_or plan.accounts n a) (owned plan n all)) (x ∷ owned plan n rest) (get_or rs n r)
    its_next n a r is h = rw (owned_here n is) at (m.each n a r h)

    pub in_time : (n : ℕ) (r : Account) → n < length plan.accounts → (get_or rs n r).time ≤ x.time
    in_time n r h = (m.early n r h).0

    pub has_room : (n : ℕ) (r : Account) → account_of plan x ≡ Some n → n < length plan.accounts → length all ≤ 4194304 → CanAdd (get_or rs n r).total (get_or rs n r).current
    has_room n r is h limit =
        let a = some_account plan.accounts n h in
        let account = get_or plan.accounts n a in
        let run = get_or rs n r in
        let mine = owned plan n all in
        let one = coloured_length (termed_rule account.meter) (packet_of account.other) (termed_rule account.meter).opening 0 mine in
        let two = filter_few (λ q. is_number n (account_of plan q)) all in
        few_of (termed_rule run.meter) run.other plan.period (coloured_in account mine) (standing run) run.ended.items run.current (x ∷ owned plan n rest) (omega (arith, one, two)) (its_next n a r is h)

    -- that account had it, and the others are as they were
    pub had_next : (n : ℕ) (old new : Account) → account_of plan x ≡ Some n → n < length plan.accounts
        → ((whole : List (PacketReport × Colour)) (later : List PacketReport) → IsMetering plan.period whole (x ∷ later) (get_or rs n old) → IsMetering plan.period whole later new)
        → new.time ≡ x.time → AllByRecursion (λ (q : PacketReport). x.time ≤ q.time) rest → AreMetering plan all rest (set rs n new)
    had_next n old new is h running time later =
        let inside : n < length rs = omega (arith, m.count) in
        record {
          count = length-set rs n new ∙ m.count;
          each = λ k a r l. elim (cases_eq k n) [
            | inl same ↦ rw (same, get_or-set_same rs n new r inside) (running (coloured_in (get_or plan.accounts n a) (owned plan n all)) (owned plan n rest) (its_next n a old is h))
            | inr apart ↦ rw (get_or-set_other rs n k new r apart) (rw (owned_apart n k is (λ e. apart (sym e))) at (m.each k a r l))
          ];
          early = λ k r l. elim (cases_eq k n) [
            | inl same ↦ rw (same, get_or-set_same rs n new r inside, time) later
            | inr apart ↦ rw (get_or-set_other rs n k new r apart) ((m.early k r l).1)
          ];
        }

    -- a report that no account owns
    pub skipped : account_of plan x ≡ None → AreMetering plan all rest rs
    skipped is = record {
      count = m.count;
      each = λ k a r l. rw (owned_none k is) at (m.each k a r l);
      early = λ k r l. (m.early k r l).1;
    }

  module _ (reports : List PacketReport) (rs : List Account) (m : AreMetering plan (undisputed reports) [] rs) where
    pub all_rise : AllByRecursion (λ r. Ascend (tally_so_far r).spans) rs
    all_rise = all_from (λ r. Ascend (tally_so_far r).spans) rs (λ k r l.
        let inside : k < length plan.accounts = omega (arith, m.count) in
        let a = some_account plan.accounts k inside in
        let at = get_or rs k r in
        spans_rise (termed_rule at.meter) at.other plan.period (coloured_in (get_or plan.accounts k a) (owned plan k (undisputed reports))) (standing at) at.ended.items at.current [] (m.each k a r inside))

    pub tallies_are : map tally_so_far rs ≡ map (λ a. tally_of plan.period (coloured_in a.1 (reports_of plan a.0 reports))) (enumerate_from 0 plan.accounts)
    tallies_are =
        same_maps tally_so_far (λ (a : ℕ × PlannedAccount). tally_of plan.period (coloured_in a.1 (reports_of plan a.0 reports))) rs (enumerate_from 0 plan.accounts) (m.count ∙ sym (length-enumerate_from 0 plan.accounts)) (λ k r a l.
        let inside : k < length plan.accounts = omega (arith, m.count) in
        let at = get_or-enumerate_from 0 plan.accounts k a inside in
        let run = get_or rs k r in
        rw (at, zero-add k) (tally_done (termed_rule run.meter) run.other plan.period (coloured_in (get_or plan.accounts k a.1) (reports_of plan k reports)) (standing run) run.ended.items run.current (m.each k a.1 r inside)))

-- the later reports that aren't disputed, by the next report
module _ (disputes : List Identity) (rs : List PacketReport) (i : ℕ) (x : PacketReport) (h : i < length rs) (is : x ≡ get_or rs i x) where
  pub next_kept : has identity_cmp disputes (identity_of x) ≡ false → settled_of disputes (drop i rs) ≡ x ∷ settled_of disputes (drop (i + 1) rs)
  next_kept e = ap (settled_of disputes) (drop_read rs i x h is) ∙ settled_keep disputes x (drop (i + 1) rs) e

  pub next_skipped : has identity_cmp disputes (identity_of x) ≡ true → settled_of disputes (drop i rs) ≡ settled_of disputes (drop (i + 1) rs)
  next_skipped e = ap (settled_of disputes) (drop_read rs i x h is) ∙ settled_skip disputes x (drop (i + 1) rs) e
