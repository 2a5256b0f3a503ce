-- The reports of an account, term by term.
use Rattle.std.proofs.Common.{◌≡◌, ℕ, ◌+◌, ◌≤◌, List, [], ◌∷◌, ◌++◌, refl, sym, ap, ◌∙◌}
use Rattle.std.specs.List.{AllByRecursion, flat_map, sum_by}
use Rattle.std.specs.List.Sorted.{IsStrictlySortedBy}
use Rattle.std.proofs.lemmas.List.Elements.{filter-append}
use Rattle.std.proofs.lemmas.List.Sums.{sum_by-append, sum_by-cons}
use Rattle.tca_report.specs.report.Reports.{PacketReport, report_cmp}
use Rattle.tca_meters.specs.declared.colour.Colour.{Colour}
use Rattle.tca_meters.specs.Termed.{termed_rule}
use Rattle.tca_meters.specs.TermsApart.{NeverFall, term_numbers}
use Rattle.tca_meters.proofs.Apart.{in_turn, is_plain}
use Rattle.tca_accounts.specs.Plans.{PlannedAccount}
use Rattle.tca_accounts.specs.Spans.{within}
use Rattle.tca_accounts.specs.Sums.{octets_in, packet_of, packets_in}
use Rattle.tca_accounts.specs.Bills.{coloured_by, coloured_in}
use Rattle.tca_accounts.specs.TermBills.{BillsAsOne, BillsByTerm, coloured_in_term}
use Rattle.tca_accounts.proofs.Bills.{from_zero, rest_later}

-- an amount that is none for an empty list, and of two lists the sum, is that of all parts together
of_parts : {X : Type 0} (amount : List X → ℕ) → amount [] ≡ 0 → ((xs ys : List X) → amount (xs ++ ys) ≡ amount xs + amount ys)
    → (part : ℕ → List X) (ns : List ℕ) → amount (flat_map part ns) ≡ sum_by (λ n. amount (part n)) ns
of_parts amount none both part [] = none
of_parts amount none both part (n ∷ ns) =
    both (part n) (flat_map part ns) ∙ ap (λ k. amount (part n) + k) (of_parts amount none both part ns) ∙ sym (sum_by-cons (λ m. amount (part m)) n ns)

octets_append : (c : Colour) (xs ys : List (PacketReport × Colour)) → octets_in c (xs ++ ys) ≡ octets_in c xs + octets_in c ys
octets_append c xs ys = sum_by-append _ xs ys

packets_append : (c : Colour) (xs ys : List (PacketReport × Colour)) → packets_in c (xs ++ ys) ≡ packets_in c xs + packets_in c ys
packets_append c xs ys = sum_by-append _ xs ys

within_append : (period index : ℕ) (xs ys : List (PacketReport × Colour)) → within period index (xs ++ ys) ≡ within period index xs ++ within period index ys
within_append period index xs ys = filter-append _ xs ys

-- times of reports that rise never fall
module _ (other : Colour) where
  never_fall : (last : ℕ) (reports : List PacketReport) → AllByRecursion (λ (q : PacketReport). last ≤ q.time) reports → IsStrictlySortedBy report_cmp reports → NeverFall (packet_of other) last reports
  never_fall last [] h rises = tt
  never_fall last (r ∷ rest) h rises = let later = rest_later r rest rises in (h.0, never_fall r.time rest later.0 later.1)

pub by_term : (account : PlannedAccount) → BillsByTerm account
by_term account is reports rises =
    let turn : coloured_in account reports ≡ flat_map (λ n. coloured_in_term account n reports) (term_numbers account.meter) =
    in_turn account.meter (packet_of account.other) is reports (never_fall account.other 0 reports (from_zero reports) rises) in
    let part = λ (n : ℕ). coloured_in_term account n reports in
    let numbers = term_numbers account.meter in
    record {
      in_turn = turn;
      octets = λ c. ap (octets_in c) turn ∙ of_parts (octets_in c) refl (octets_append c) part numbers;
      packets = λ c. ap (packets_in c) turn ∙ of_parts (packets_in c) refl (packets_append c) part numbers;
      period_octets = λ period index c.
          ap (λ (ps : List (PacketReport × Colour)). octets_in c (within period index ps)) turn
          ∙ of_parts (λ (ps : List (PacketReport × Colour)). octets_in c (within period index ps)) refl (λ xs ys. ap (octets_in c) (within_append period index xs ys) ∙ octets_append c (within period index xs) (within period index ys)) part numbers;
      period_packets = λ period index c.
          ap (λ (ps : List (PacketReport × Colour)). packets_in c (within period index ps)) turn
          ∙ of_parts (λ (ps : List (PacketReport × Colour)). packets_in c (within period index ps)) refl (λ xs ys. ap (packets_in c) (within_append period index xs ys) ∙ packets_append c (within period index xs) (within period index ys)) part numbers;
    }

pub as_one : (account : PlannedAccount) → BillsAsOne account
as_one account none reports =
    let meter = account.meter in
    ap (λ ts. coloured_by (termed_rule (record { first = meter.first; later = ts })) account.other reports) none ∙ is_plain meter.first (packet_of account.other) reports
