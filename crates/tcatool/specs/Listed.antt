-- What the command `list` writes, and what it is refused for.
use Rattle.std.specs.Prelude.{◌≡◌, ◌==◌, ◌++◌, ℕ, Bool, true, false, List, [], ◌∷◌, codes, map, slice_get, Option, Some, None, Ok, option_map, option_and_then, if◌then◌else◌}
use Rattle.std.specs.List.{filter_map}
use Rattle.std.specs.Borrow.{Bor}
use Rattle.tca_join.specs.Sets.{has}
use Rattle.tca_report.specs.report.Reports.{PacketReport, report_cmp}
use Rattle.tca_report.specs.input.Inputs.{InputView}
use Rattle.tca_log.specs.Disputes.{undisputed}
use Rattle.tca_meters.specs.declared.colour.Colour.{Colour}
use Rattle.tca_meters.specs.declared.colour.Colour.TheVariants.{Green, Yellow, Red}
use Rattle.tca_accounts.specs.Plans.{AccountPlan, PlannedAccount, account_of}
use Rattle.tca_accounts.specs.Bills.{coloured_in, reports_of}
use Rattle.tca_program.specs.declared.fault.RunFault.{RunFault}
use Rattle.tca_program.specs.Devices.{Device, IsCutOff, Receives}
use Rattle.tca_program.specs.Planned.{IsPlannedRefused}
use Rattle.tca_program.specs.Outcomes.{IsCommandRefused}
use Rattle.tca_program.specs.Unions.{IsUnion, IsUnitingRefused, united}
use Rattle.tcatool.specs.Csv.{csv_line, csv_text}
use Rattle.tcatool.specs.ReportLines.{report_fields}
use Rattle.tcatool.specs.declared.item.Item.{Item}
use Rattle.tcatool.specs.declared.item.Share.{Share}
use Rattle.tca_accounts.specs.Documents.{IsPlanOf}

-- whether a report of a set is one that no other disputes
abbrev pub is_settled : List PacketReport → PacketReport → Bool
is_settled rs r = has report_cmp (undisputed rs) r

-- the account, counted from 0, that owns a settled report; none for a disputed one
abbrev pub owner : AccountPlan → List PacketReport → PacketReport → Option ℕ
owner plan rs r = if is_settled rs r then account_of plan r else None

-- the account of an item that has a share
abbrev pub account_in : Item → Option ℕ
account_in i = option_map (λ s. s.account) i.share

-- a report and its colour, where it is this account that counts it
abbrev pub colour_if : ℕ → PacketReport → Share → Option (PacketReport × Colour)
colour_if n r s = if s.account == n then Some (r, s.colour) else None

-- the reports of the items that an account counts, each with its colour, in order
abbrev pub counted : ℕ → List Item → List (PacketReport × Colour)
counted n items = filter_map (λ i. option_and_then (colour_if n i.report) i.share) items

-- The items of a set under a plan: one for each report, in order, which says whether it is settled; it has a share just where it is settled
-- and an account owns it; and the items of an account have the colours under which the bill counts its reports.
pub record AreItemsUnder (plan : AccountPlan) (rs : List PacketReport) (items : List Item) : Type 0 where
  pub reports : map (λ i. i.report) items ≡ rs
  pub states : map (λ i. i.is_settled) items ≡ map (is_settled rs) rs
  pub accounts : map account_in items ≡ map (owner plan rs) rs
  pub colours : (n : ℕ) (a : PlannedAccount) → slice_get plan.accounts n ≡ Some a → counted n items ≡ coloured_in a (reports_of plan n rs)

-- an item of a set without a plan has no share
abbrev pub item_alone : List PacketReport → PacketReport → Item
item_alone rs r = record { report = r; is_settled = is_settled rs r; share = None }

-- the items of a set, one for each report, in order: under a plan, or without one
abbrev pub AreItems : Option AccountPlan → List PacketReport → List Item → Type 0
AreItems None rs items = items ≡ map (item_alone rs) rs
AreItems (Some plan) rs items = AreItemsUnder plan rs items

abbrev pub list_header : List ℕ
list_header = codes "time,domain,session,place,octets,dscp,interface,state,account,colour\n"

abbrev pub state_name : Bool → List ℕ
state_name true = codes "settled"
state_name false = codes "disputed"

abbrev pub colour_name : Colour → List ℕ
colour_name Green = codes "green"
colour_name Yellow = codes "yellow"
colour_name Red = codes "red"

-- the name of an account and a colour, or two empty fields where there is no such account
abbrev pub named_share : Option (List ℕ) → Colour → List (List ℕ)
named_share None colour = [] ∷ [] ∷ []
named_share (Some name) colour = name ∷ colour_name colour ∷ []

-- the name of the account that counts a report and the colour under which it does, or two empty fields where none does
abbrev pub share_fields : Option AccountPlan → Option Share → List (List ℕ)
share_fields None share = [] ∷ [] ∷ []
share_fields (Some plan) None = [] ∷ [] ∷ []
share_fields (Some plan) (Some s) = named_share (slice_get (map (λ a. a.name) plan.accounts) s.account) s.colour

-- the line of an item: the fields of its report, its state, and its share
abbrev pub item_line : Option AccountPlan → Item → List ℕ
item_line plan i = csv_line (report_fields i.report ++ (state_name i.is_settled ∷ share_fields plan i.share))

abbrev pub list_text : Option AccountPlan → List Item → List ℕ
list_text plan items = csv_text list_header (item_line plan) items

-- the text of the plan, where one is given
abbrev pub text_given : Option (Bor (List ℕ)) → Option (List ℕ)
text_given plan = option_map (λ p. p.now) plan

-- the text is this plan; without a text there is none
abbrev pub IsPlanGiven : Option (List ℕ) → Option AccountPlan → Type 0
IsPlanGiven None None = Unit {0}
IsPlanGiven None (Some p) = ⊥
IsPlanGiven (Some text) None = ⊥
IsPlanGiven (Some text) (Some p) = IsPlanOf text p

-- The text is this plan, and these are the items under it of all that the inputs hold together.
pub record IsListed (plan : Option (List ℕ)) (inputs : List InputView) (under : Option AccountPlan) (items : List Item) : Type 0 where
  pub named : IsPlanGiven plan under
  pub reports : List PacketReport
  pub union : IsUnion inputs reports
  pub taken : united inputs ≡ Ok reports
  pub items_are : AreItems under reports items

-- Each input is a log export or a capture, and a line was written for each item of their union.
pub record IsListDone (plan : Option (List ℕ)) (inputs : List InputView) (old new : Device) : Type 0 where
  pub under : Option AccountPlan
  pub items : List Item
  pub listed : IsListed plan inputs under items
  pub written : Receives (list_text under items) old new

-- Of the lines only a part went out.
pub record IsListCutOff (plan : Option (List ℕ)) (inputs : List InputView) (old new : Device) : Type 0 where
  pub under : Option AccountPlan
  pub items : List Item
  pub listed : IsListed plan inputs under items
  pub part : IsCutOff (list_text under items) old new

-- Why nothing is listed: the first refusal that is due, the plan's, where one is given, before those of the inputs in order.
abbrev pub IsListingRefused : Option (List ℕ) → List InputView → RunFault → Type 0
IsListingRefused None inputs e = IsUnitingRefused inputs e
IsListingRefused (Some text) inputs e = IsPlannedRefused text inputs e

-- what a refusal is, and what it leaves of the device
abbrev pub IsListRefused : Option (List ℕ) → List InputView → Device → Device → RunFault → Type 0
IsListRefused plan inputs = IsCommandRefused (IsListingRefused plan inputs) (IsListCutOff plan inputs)
