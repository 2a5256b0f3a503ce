-- What a bill says of a set of reports under a plan.
use Rattle.std.specs.Prelude.{ℕ, ◌==◌, Bool, false, List, length, filter, map, Option, Some, None, is_none}
use Rattle.std.specs.List.{enumerate_from}
use Rattle.tca_report.specs.report.Reports.{PacketReport}
use Rattle.tca_log.specs.Disputes.{undisputed, disputed}
use Rattle.tca_meters.specs.declared.colour.Colour.{Colour}
use Rattle.tca_meters.specs.Packets.{Rule, colours}
use Rattle.tca_meters.specs.Termed.{termed_rule}
use Rattle.tca_accounts.specs.Plans.{AccountPlan, PlannedAccount, account_of}
use Rattle.tca_accounts.specs.Sums.{packet_of, sums_of}
use Rattle.tca_accounts.specs.Spans.{spans_of}
use Rattle.tca_accounts.specs.declared.tally.Tally.{Tally}
use Rattle.tca_accounts.specs.declared.bill.Bill.{Bill}

-- whether an account is the one of this number
abbrev pub is_number : ℕ → Option ℕ → Bool
is_number n None = false
is_number n (Some m) = m == n

-- the reports of an account: those that no other disputes and that it owns, in order
abbrev pub reports_of : AccountPlan → ℕ → List PacketReport → List PacketReport
reports_of plan n rs = filter (λ r. is_number n (account_of plan r)) (undisputed rs)

-- the reports that no other disputes and that no account owns
abbrev pub unassigned : AccountPlan → List PacketReport → List PacketReport
unassigned plan rs = filter (λ r. is_none (account_of plan r)) (undisputed rs)

-- reports with the colours that a meter gives them, from time 0 on, where a code point that has no colour of its own has `other`
abbrev pub coloured_by : {S : Type 0} → Rule S → Colour → List PacketReport → List (PacketReport × Colour)
coloured_by rule other rs = colours rule (packet_of other) rs

-- and that the meter of an account gives them
abbrev pub coloured_in : PlannedAccount → List PacketReport → List (PacketReport × Colour)
coloured_in account rs = coloured_by (termed_rule account.meter) account.other rs

-- the sums of reports with their colours, in all and by period
abbrev pub tally_of : ℕ → List (PacketReport × Colour) → Tally
tally_of period pairs = record { total = sums_of pairs; spans = spans_of period pairs }

-- the bill of a set of reports: how many there are, how many identities are disputed, how many undisputed reports no
-- account owns, and the tally of each account in the plan's order
abbrev pub bill_of : AccountPlan → List PacketReport → Bill
bill_of plan rs = record {
  reports = length rs;
  disputed = length (disputed rs);
  unassigned = length (unassigned plan rs);
  accounts = map (λ a. tally_of plan.period (coloured_in a.1 (reports_of plan a.0 rs))) (enumerate_from 0 plan.accounts);
}
