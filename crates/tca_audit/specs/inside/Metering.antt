-- Where an account stands while its reports are metered one after another. No public contract cites this: it serves private
-- functions and their proofs alone.
use Rattle.std.specs.Prelude.{◌≡◌, ℕ, ◌<◌, ◌≤◌, List, length, get_or}
use Rattle.std.specs.List.{AllByRecursion}
use Rattle.tca_report.specs.report.Reports.{PacketReport}
use Rattle.tca_meters.specs.declared.colour.Colour.{Colour}
use Rattle.tca_meters.specs.declared.levels.Levels.{Levels}
use Rattle.tca_meters.specs.declared.termed.InTerm.{InTerm}
use Rattle.tca_meters.specs.Termed.{termed_rule}
use Rattle.tca_accounts.specs.Plans.{AccountPlan, PlannedAccount}
use Rattle.tca_accounts.specs.Bills.{coloured_in}
use Rattle.tca_accounts.specs.Metering.{Stands, owned, tally_at}
use Rattle.tca_accounts.specs.declared.metered.Metered.{Metered}
use Rattle.tca_accounts.specs.declared.tally.Tally.{Tally}
use Rattle.tca_audit.specs.declared.buckets.Buckets.{Buckets}
use Rattle.tca_audit.specs.declared.terms.TermBuckets.{TermBuckets}
use Rattle.tca_audit.specs.declared.account.Account.{Account}

-- two buckets, as the state of a meter
abbrev pub levels_of : Buckets → Levels
levels_of b = record { committed = b.committed; excess = b.excess }

-- a term and its buckets, as the state of a meter with terms
abbrev pub state_of : TermBuckets → InTerm
state_of s = record { term = s.term; levels = levels_of s.buckets }

-- the meter's state, the time and the sums after the last report
abbrev pub standing : Account → Metered InTerm
standing a = record { state = state_of a.state; time = a.time; total = a.total }

-- where an account stands before its later reports
abbrev pub IsMetering : ℕ → List (PacketReport × Colour) → List PacketReport → Account → Type 0
IsMetering period whole later a = Stands (termed_rule a.meter) a.other period whole later (standing a) a.ended.items a.current

-- the sums of the reports so far
abbrev pub tally_so_far : Account → Tally
tally_so_far a = tally_at a.total a.ended.items a.current

-- each account of a plan stands before those of the later reports that it owns, and none of these is before one that it had
pub record AreMetering (plan : AccountPlan) (all later : List PacketReport) (list : List Account) : Type 0 where
  pub count : length list ≡ length plan.accounts
  pub each : (n : ℕ) (planned : PlannedAccount) (a : Account) → n < length plan.accounts → IsMetering plan.period (coloured_in (get_or plan.accounts n planned) (owned plan n all)) (owned plan n later) (get_or list n a)
  pub early : (n : ℕ) (a : Account) → n < length plan.accounts → AllByRecursion (λ (q : PacketReport). (get_or list n a).time ≤ q.time) later
