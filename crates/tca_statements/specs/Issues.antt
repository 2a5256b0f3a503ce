-- The amounts issued for an account and a period.
use Rattle.std.specs.Prelude.{ℕ, ℤ, pos, ◌≤ℤ◌, ◌+ℤ◌, ◌-ℤ◌, ◌==◌, ◌/◌, ◌*◌, ◌-◌, List, [], ◌∷◌, nat_lt, slice_get, slice_index, Option, Some, None, if◌then◌else◌}
use Rattle.std.specs.List.{find}
use Rattle.std.specs.Map.{lookup}
use Rattle.std.specs.BTreeMap.{is_at}
use Rattle.std.specs.Ordering.{nat_cmp, ordering_then}
use Rattle.std.specs.declared.cmp.Ordering.{Ordering}
use Rattle.tca_accounts.specs.Sums.{ColourSums}
use Rattle.tca_accounts.specs.declared.bill.Bill.{Bill}
use Rattle.tca_accounts.specs.declared.span.Span.{Span}
use Rattle.tca_accounts.specs.declared.tally.Tally.{Tally}
use Rattle.tca_statements.specs.declared.amount.Amount.{Amount}
use Rattle.tca_statements.specs.declared.fault.IssueFault.{IssueFault}
use Rattle.tca_statements.specs.declared.fault.IssueFault.TheVariants.{NoAccount, Period}
use Rattle.tca_report.specs.report.Reports.{most_octets, time_end, most_reports}

-- no octets
abbrev pub nothing : Amount
nothing = record { green = pos 0; yellow = pos 0; red = pos 0 }

-- two amounts together, colour by colour
abbrev pub plus : Amount → Amount → Amount
plus a b = record { green = a.green +ℤ b.green; yellow = a.yellow +ℤ b.yellow; red = a.red +ℤ b.red }

-- one amount less another, colour by colour
abbrev pub less : Amount → Amount → Amount
less a b = record { green = a.green -ℤ b.green; yellow = a.yellow -ℤ b.yellow; red = a.red -ℤ b.red }

-- all of these amounts together
abbrev pub sum_of : List Amount → Amount
sum_of [] = nothing
sum_of (a ∷ others) = plus a (sum_of others)

-- octets of a colour: from 0 to 65,575 for each of 4,194,304 packets
abbrev pub IsOctets : ℤ → Type 0
IsOctets octets = (pos 0 ≤ℤ octets) × (octets ≤ℤ pos (most_octets * most_reports))

-- such octets of each colour
abbrev pub AreOctets : Amount → Type 0
AreOctets a = IsOctets a.green × IsOctets a.yellow × IsOctets a.red

-- the octets of sums by colour
abbrev pub amount_of : ColourSums → Amount
amount_of sums = record { green = pos (slice_index sums.octets 0); yellow = pos (slice_index sums.octets 1); red = pos (slice_index sums.octets 2) }

-- the octets of a period, where there is one
abbrev pub octets_of : Option Span → Amount
octets_of None = nothing
octets_of (Some span) = amount_of span.sums

-- the spans of an account
abbrev pub spans_of : Option Tally → List Span
spans_of None = []
spans_of (Some tally) = tally.spans

-- what a bill has for an account and a period: nothing where it has no such span
unfoldable pub due_now : Bill → ℕ → ℕ → Amount
due_now bill account span = octets_of (find (λ s. s.index == span) (spans_of (slice_get bill.accounts account)))

-- what issues the amounts of one plan: how many accounts it has, the length of a period, and the amounts issued so far by account
-- and period
pub record Issued : Type 0 where
  pub accounts : ℕ
  pub period : ℕ
  pub entries : List ((ℕ × ℕ) × List Amount)

-- the order of the entries: by account, and then by period
abbrev pub entry_cmp : ℕ × ℕ → ℕ × ℕ → Ordering
entry_cmp p q = ordering_then (nat_cmp p.0 q.0) (nat_cmp p.1 q.1)

-- what was found, or nothing
abbrev pub or_none : Option (List Amount) → List Amount
or_none None = []
or_none (Some amounts) = amounts

-- the amounts issued for an account and a period, in their order
unfoldable pub issued_for : Issued → ℕ → ℕ → List Amount
issued_for issued account span = or_none (lookup (is_at (entry_cmp (account, span))) issued.entries)

-- the next amount: what is due now less what was issued before
abbrev pub next_amount : Bill → Issued → ℕ → ℕ → Amount
next_amount bill issued account span = less (due_now bill account span) (sum_of (issued_for issued account span))

-- why no amount can be issued for an account and a period
abbrev pub issue_fault : Issued → ℕ → ℕ → Option IssueFault
issue_fault issued account span =
    if nat_lt account issued.accounts
    then (if nat_lt ((time_end - 1) / issued.period) span then Some Period else None)
    else Some NoAccount
