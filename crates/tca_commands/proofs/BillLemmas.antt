-- A bill's accounts.
use Rattle.std.proofs.Common.{◌≡◌, ◌∙◌, List, length}
use Rattle.std.proofs.lemmas.List.{length-map}
use Rattle.std.proofs.lemmas.List.FromFn.{length-enumerate_from}
use Rattle.std.specs.List.{enumerate_from}
use Rattle.tca_report.specs.report.Reports.{PacketReport}
use Rattle.tca_accounts.specs.Plans.{AccountPlan}
use Rattle.tca_accounts.specs.Bills.{bill_of}

-- a bill has a tally for each account
pub as_many_accounts : (p : AccountPlan) (rs : List PacketReport) → length (bill_of p rs).accounts ≡ length p.accounts
as_many_accounts p rs = length-map (enumerate_from 0 p.accounts) _ ∙ length-enumerate_from 0 p.accounts
