-- What is kept of accounts while each settled report of a set is given to the one that owns it. No public contract cites this: it serves
-- private functions and their proofs alone.
use Rattle.std.specs.Prelude.{◌≡◌, ℕ, ◌<◌, ◌≤◌, ◌++◌, List, length, filter, get_or, map, Option, None, if◌then◌else◌}
use Rattle.std.specs.List.{AllByRecursion}
use Rattle.tca_report.specs.report.Reports.{PacketReport}
use Rattle.tca_meters.specs.declared.colour.Colour.{Colour}
use Rattle.tca_meters.specs.Packets.{coloured}
use Rattle.tca_meters.specs.Termed.{termed_rule}
use Rattle.tca_accounts.specs.Plans.{AccountPlan, PlannedAccount, account_of}
use Rattle.tca_accounts.specs.Sums.{packet_of, sums_of}
use Rattle.tca_accounts.specs.Bills.{coloured_in}
use Rattle.tca_accounts.specs.Metering.{answer_for, metered_none, metered_with, owned}
use Rattle.tcatool.specs.Listed.{account_in, counted}
use Rattle.tcatool.specs.declared.item.Item.{Item}
use Rattle.tcatool.specs.declared.sharing.Running.{Running}

-- an account that has had no report
abbrev pub opened : PlannedAccount → Running
opened a = record { meter = a.meter; other = a.other; metered = metered_none (termed_rule a.meter) }

-- the colour that an account gives the report that comes next
abbrev pub next_colour : Running → PacketReport → Colour
next_colour a r = (answer_for (termed_rule a.meter) a.other a.metered r).0

-- the account after that report
abbrev pub with_next : Running → PacketReport → Running
with_next a r = record { meter = a.meter; other = a.other; metered = metered_with (termed_rule a.meter) a.other a.metered r }

-- the reports of the settled items, in order
abbrev pub settled_in : List Item → List PacketReport
settled_in items = map (λ i. i.report) (filter (λ i. i.is_settled) items)

-- the account that owns the report of an item, where that is settled
abbrev pub owner_in : AccountPlan → Item → Option ℕ
owner_in plan i = if i.is_settled then account_of plan i.report else None

-- Where an account stands before its later reports: the colours so far, and those that its meter gives from here on, are the whole, and
-- the sums are those of the reports so far.
pub record IsSharing (whole sofar : List (PacketReport × Colour)) (later : List PacketReport) (a : Running) : Type 0 where
  pub split : sofar ++ coloured (termed_rule a.meter) (packet_of a.other) a.metered.state a.metered.time later ≡ whole
  pub total : a.metered.total ≡ sums_of sofar

-- Each account of a plan counts what the items so far say, and stands before those of the later reports that it owns; none of these is
-- before one that it had.
pub record AreSharing (plan : AccountPlan) (all : List PacketReport) (done : List Item) (later : List PacketReport) (accounts : List Running) : Type 0 where
  pub count : length accounts ≡ length plan.accounts
  pub each : (n : ℕ) (a : PlannedAccount) (r : Running) → n < length plan.accounts → IsSharing (coloured_in (get_or plan.accounts n a) (owned plan n all)) (counted n done) (owned plan n later) (get_or accounts n r)
  pub early : (n : ℕ) (r : Running) → n < length plan.accounts → AllByRecursion (λ (q : PacketReport). (get_or accounts n r).metered.time ≤ q.time) later

-- items that were given their shares: their reports and states are as they were, and each settled one is of the account that owns it
pub record AreGiven (plan : AccountPlan) (before after : List Item) : Type 0 where
  pub reports : map (λ i. i.report) after ≡ map (λ i. i.report) before
  pub states : map (λ i. i.is_settled) after ≡ map (λ i. i.is_settled) before
  pub accounts : map account_in after ≡ map (owner_in plan) before
