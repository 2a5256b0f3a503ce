-- What the items of a list come to, by account, colour and period.
use Rattle.std.specs.Prelude.{◌≡◌, ℕ, ◌==◌, Bool, false, ◌&&◌, List, length, filter, find, slice_index, slice_get, sum_by, Option, Some, None}
use Rattle.tca_meters.specs.declared.colour.Colour.{Colour}
use Rattle.tca_meters.specs.Colours.{colour_number}
use Rattle.tca_report.specs.report.Reports.{PacketReport}
use Rattle.tca_accounts.specs.Bills.{bill_of}
use Rattle.tca_accounts.specs.Metering.{no_sums}
use Rattle.tca_accounts.specs.Plans.{AccountPlan}
use Rattle.tca_accounts.specs.Spans.{period_of}
use Rattle.tca_accounts.specs.Sums.{ColourSums}
use Rattle.tca_accounts.specs.declared.span.Span.{Span}
use Rattle.tca_accounts.specs.declared.tally.Tally.{Tally}
use Rattle.tcatool.specs.declared.item.Item.{Item}
use Rattle.tcatool.specs.declared.item.Share.{Share}

-- whether a share is one of an account and a colour
abbrev pub is_share_of : ℕ → Colour → Option Share → Bool
is_share_of n c None = false
is_share_of n c (Some s) = (s.account == n) && (colour_number s.colour == colour_number c)

-- the items that an account counts under a colour
abbrev pub items_of : ℕ → Colour → List Item → List Item
items_of n c items = filter (λ i. is_share_of n c i.share) items

-- the octets of these
abbrev pub item_octets : ℕ → Colour → List Item → ℕ
item_octets n c items = sum_by (λ i. i.report.octets) (items_of n c items)

-- and how many there are
abbrev pub item_packets : ℕ → Colour → List Item → ℕ
item_packets n c items = length (items_of n c items)

-- the items whose reports are of one period
abbrev pub items_in : ℕ → ℕ → List Item → List Item
items_in period index items = filter (λ i. period_of period i.report == index) items

-- the octets of a colour, by the sums of a bill, and its packets
abbrev pub billed_octets : Colour → ColourSums → ℕ
billed_octets c sums = slice_index sums.octets (colour_number c)

abbrev pub billed_packets : Colour → ColourSums → ℕ
billed_packets c sums = slice_index sums.packets (colour_number c)

-- the sums of a span, and those of no packets where there is none
abbrev pub sums_of_span : Option Span → ColourSums
sums_of_span None = no_sums
sums_of_span (Some span) = span.sums

-- the sums of a period, by the spans of a bill
abbrev pub sums_in : ℕ → List Span → ColourSums
sums_in index spans = sums_of_span (find (λ s. s.index == index) spans)

-- what the bill of a set under a plan has of an account
abbrev pub IsTallyOf : AccountPlan → List PacketReport → ℕ → Tally → Type 0
IsTallyOf plan rs n t = slice_get (bill_of plan rs).accounts n ≡ Some t
