-- The statement of a bill is in form, and says the bill's figures.
use Rattle.std.proofs.Common.{◌≡◌, ℕ, ◌+◌, ◌≤◌, Bool, true, false, ◌&&◌, ◌||◌, not, cond, eqb, List, [], ◌∷◌, ◌++◌, codes, filter, length, map, suc, refl, sym, subst, ap, ◌∙◌, arith}
use Rattle.std.specs.Prelude.{decimal, is_none}
use Rattle.std.specs.List.{AllByRecursion, IsDistinct, enumerate_from, flat_map, list_any, zip}
use Rattle.std.specs.Str.{bytes_eq}
use Rattle.std.proofs.lemmas.Bool.{false≢true}
use Rattle.std.proofs.lemmas.List.{append-nil, append_assoc}
use Rattle.std.proofs.lemmas.Map.Keys.{IsDistinct-cons}
use Rattle.tca_report.specs.report.Reports.{InRange, PacketReport, most_reports}
use Rattle.tca_report.specs.report.Identities.{identity_of}
use Rattle.tca_log.specs.Disputes.{contents, undisputed}
use Rattle.tca_log.proofs.Repeats.{disputed_few}
use Rattle.tca_meters.specs.Packets.{Packet, Rule, coloured}
use Rattle.tca_meters.specs.Termed.{termed_rule}
use Rattle.tca_accounts.specs.Bills.{bill_of, coloured_in, is_number, reports_of, tally_of}
use Rattle.tca_accounts.specs.Plans.{AccountPlan, IsPlan, PlannedAccount, account_of, all_differ, all_pairs, is_name, same_pair}
use Rattle.tca_accounts.specs.Sums.{packet_of}
use Rattle.tca_accounts.specs.declared.bill.Bill.{Bill}
use Rattle.tca_accounts.specs.declared.span.Span.{Span}
use Rattle.tca_accounts.specs.declared.tally.Tally.{Tally}
use Rattle.tca_accounts.proofs.Bills.{coloured_length, filter_few}
use Rattle.tca_statements.specs.Statements as text
use Rattle.tca_figures.specs.Figures.{IsAccount, IsStatement}
use Rattle.tca_figures.specs.Lines.{account_lines, colour_fields, octets_of, opening_lines, span_line, statement_octets}
use Rattle.tca_figures.proofs.Shown.{account_octets, all_octets}
use Rattle.tca_shards.specs.Statements.{BillsAreRead, IsLogged, account_figures, figures_of, span_figures, stated}
use Rattle.tca_shards.proofs.Accounted.{AreRanged, accounted}
use Rattle.tca_shards.proofs.Figured.{accounts_of}

all_kept : (g : PacketReport → Bool) (rs : List PacketReport) → AllByRecursion InRange rs → AllByRecursion InRange (filter g rs)
all_kept g [] h = tt
all_kept g (r ∷ rs) h = here (g r) (all_kept g rs h.1)
  where
    here : (b : Bool) → AllByRecursion InRange (filter g rs) → AllByRecursion InRange (cond b (r ∷ filter g rs) (filter g rs))
    here true k = (h.0, k)
    here false k = k

coloured_ranged : {S : Type 0} (rule : Rule S) (packet : PacketReport → Packet) (s : S) (last : ℕ) (rs : List PacketReport) → AllByRecursion InRange rs → AreRanged (coloured rule packet s last rs)
unfolding coloured
coloured_ranged rule packet s last [] h = tt
coloured_ranged rule packet s last (r ∷ rs) h =
    let p = packet r in
    (h.0, coloured_ranged rule packet (rule.judged (rule.filled last p.time s) p.octets p.pre).1 p.time rs h.1)

module _ (plan : AccountPlan) (rs : List PacketReport) (few : length rs ≤ most_reports) (ranged : AllByRecursion InRange rs) where
  few_undisputed : length (undisputed rs) ≤ most_reports
  unfolding undisputed
  few_undisputed = let kept = filter_few (λ (r : PacketReport). eqb (length (contents rs (identity_of r))) 1) rs in omega (arith, kept, few)

  undisputed_ranged : AllByRecursion InRange (undisputed rs)
  unfolding undisputed
  undisputed_ranged = all_kept (λ (r : PacketReport). eqb (length (contents rs (identity_of r))) 1) rs ranged

  -- the account of one number
  abbrev tally_at : ℕ → PlannedAccount → Tally
  tally_at n a = tally_of plan.period (coloured_in a (reports_of plan n rs))

  one_account : (n : ℕ) (a : PlannedAccount) → is_name a.name ≡ true → IsAccount plan.period (account_figures a (tally_at n a))
  one_account n a named =
      let own : PacketReport → Bool = λ r. is_number n (account_of plan r) in
      let fewer = filter_few own (undisputed rs) in
      let count = coloured_length (termed_rule a.meter) (packet_of a.other) (termed_rule a.meter).opening 0 (reports_of plan n rs) in
      accounted plan.period a (coloured_in a (reports_of plan n rs)) named (let u = few_undisputed in omega (arith, fewer, count, u))
      (coloured_ranged (termed_rule a.meter) (packet_of a.other) (termed_rule a.meter).opening 0 (reports_of plan n rs) (all_kept own (undisputed rs) undisputed_ranged))

  abbrev tallies_from : ℕ → List PlannedAccount → List Tally
  tallies_from n accounts = map (λ (a : ℕ × PlannedAccount). tally_at a.0 a.1) (enumerate_from n accounts)

  each_account : (n : ℕ) (accounts : List PlannedAccount) → AllByRecursion (λ a. is_name a.name ≡ true) accounts → AllByRecursion (IsAccount plan.period) (accounts_of accounts (tallies_from n accounts))
  each_account n [] h = tt
  each_account n (a ∷ accounts) h = (one_account n a h.0, each_account (n + 1) accounts h.1)

  names_from : (n : ℕ) (accounts : List PlannedAccount) → map (λ a. a.name) (accounts_of accounts (tallies_from n accounts)) ≡ map (λ a. a.name) accounts
  names_from n [] = refl
  names_from n (a ∷ accounts) = ap (λ (l : List (List ℕ)). a.name ∷ l) (names_from (n + 1) accounts)

  count_from : (n : ℕ) (accounts : List PlannedAccount) → length (accounts_of accounts (tallies_from n accounts)) ≡ length accounts
  count_from n [] = refl
  count_from n (a ∷ accounts) = ap suc (count_from (n + 1) accounts)

names_apart : (accounts : List PlannedAccount) → all_differ (λ a b. bytes_eq a.name b.name) accounts ≡ true → IsDistinct bytes_eq (map (λ a. a.name) accounts)
unfolding IsDistinct
names_apart [] h = tt
names_apart (a ∷ accounts) h =
    let p = parts (not (list_any (λ b. bytes_eq a.name b.name) accounts)) (all_differ (λ a b. bytes_eq a.name b.name) accounts) h in
    IsDistinct-cons bytes_eq a.name (map (λ b. b.name) accounts) (none_same accounts (turned (list_any (λ b. bytes_eq a.name b.name) accounts) p.0)) (names_apart accounts p.1)
  where
    parts : (b c : Bool) → (b && c) ≡ true → (b ≡ true) × (c ≡ true)
    parts true c h = (refl, h)
    parts false c h = absurd (false≢true h)

    turned : (b : Bool) → not b ≡ true → b ≡ false
    turned true h = absurd (false≢true h)
    turned false h = refl

    neither : (b c : Bool) → (b || c) ≡ false → (b ≡ false) × (c ≡ false)
    neither true c h = absurd (false≢true (sym h))
    neither false c h = (refl, h)

    none_same : (others : List PlannedAccount) → list_any (λ b. bytes_eq a.name b.name) others ≡ false → AllByRecursion (λ n. bytes_eq a.name n ≡ false) (map (λ b. b.name) others)
    none_same [] e = tt
    none_same (b ∷ others) e = let n = neither (bytes_eq a.name b.name) (list_any (λ c. bytes_eq a.name c.name) others) e in (n.0, none_same others n.1)

pub in_form : (plan : AccountPlan) (rs : List PacketReport) → IsPlan plan → IsLogged rs → IsStatement (stated plan (bill_of plan rs))
in_form plan rs is h =
    let count = count_from plan rs h.few h.ranged 0 plan.accounts in
    let one = disputed_few rs in
    let two = filter_few (λ (r : PacketReport). is_none (account_of plan r)) (undisputed rs) in
    let three = few_undisputed plan rs h.few h.ranged in
    let all = h.few in
    record {
      some_period = is.some_time;
      period = is.time;
      reports = omega (arith, all);
      disputed = omega (arith, one, all);
      unassigned = omega (arith, two, three);
      some = let some = is.some in omega (arith, count, some);
      few = let few = is.few in omega (arith, count, few);
      accounts = each_account plan rs h.few h.ranged 0 plan.accounts is.named;
      apart = subst (IsDistinct bytes_eq) (sym (names_from plan rs h.few h.ranged 0 plan.accounts)) (names_apart plan.accounts (second (all_differ same_pair (all_pairs plan.accounts)) (all_differ (λ a b. bytes_eq a.name b.name) plan.accounts) is.distinct));
    }
  where
    second : (b c : Bool) → (b && c) ≡ true → c ≡ true
    second true c h = h
    second false c h = absurd (false≢true h)

span_text : (s : Span) → text.span_line s ≡ span_line (span_figures s) ++ 10 ∷ []
span_text s = ap (λ (l : List ℕ). codes "span " ++ l) (sym (append_assoc (decimal s.index) (32 ∷ colour_fields (figures_of s.sums)) (10 ∷ [])))

spans_text : (spans : List Span) → flat_map text.span_line spans ≡ octets_of (map span_line (map span_figures spans))
spans_text [] = refl
spans_text (s ∷ spans) = λ i. span_text s i ++ spans_text spans i

account_text : (a : PlannedAccount) (t : Tally) → text.account_lines a.name t ≡ octets_of (account_lines (account_figures a t))
unfolding text.account_lines
account_text a t =
    ap (λ (l : List ℕ). codes "account " ++ (a.name ++ (10 ∷ (text.total_line t.total ++ l)))) (spans_text t.spans)
    ∙ ap (λ (l : List ℕ). codes "account " ++ l) (sym (append_assoc a.name (10 ∷ []) (text.total_line t.total ++ octets_of (map span_line (map span_figures t.spans)))))

accounts_text : (accounts : List PlannedAccount) (tallies : List Tally) → flat_map (λ a. text.account_lines a.0.name a.1) (zip accounts tallies) ≡ account_octets (accounts_of accounts tallies)
accounts_text [] tallies = refl
accounts_text (a ∷ accounts) [] = refl
accounts_text (a ∷ accounts) (t ∷ tallies) = λ i. account_text a t i ++ accounts_text accounts tallies i

opening_text : (plan : AccountPlan) (bill : Bill) → text.opening_lines plan.period bill ≡ octets_of (opening_lines (stated plan bill))
unfolding text.opening_lines
opening_text plan bill =
    ap (λ (l : List ℕ). codes "tcacct statement 1\n" ++ (text.number_line (codes "period") plan.period
    ++ (text.number_line (codes "reports") bill.reports
    ++ (text.number_line (codes "disputed") bill.disputed ++ l)))) (sym (append-nil (text.number_line (codes "unassigned") bill.unassigned)))

pub says : (plan : AccountPlan) (bill : Bill) → text.statement_text plan bill ≡ statement_octets (stated plan bill)
unfolding text.statement_text
says plan bill =
    sym (append_assoc (text.opening_lines plan.period bill) (flat_map (λ a. text.account_lines a.0.name a.1) (zip plan.accounts bill.accounts)) (codes "end\n"))
    ∙ (λ i. (opening_text plan bill i ++ accounts_text plan.accounts bill.accounts i) ++ codes "end\n")
    ∙ all_octets (stated plan bill)

pub bills_are_read : BillsAreRead
bills_are_read plan rs is h = record { octets_are = says plan (bill_of plan rs); in_form = in_form plan rs is h }
