-- What is called on a shared replica, and what it answers.
use Rattle.std.specs.Prelude.{ℕ, Option, Result, List}
use Rattle.tca_report.specs.report.Reports.{PacketReport}
use Rattle.tca_log.specs.declared.fault.LogFault.{LogFault}
use Rattle.tca_accounts.specs.declared.bill.Bill.{Bill}
use Rattle.tca_gossip.specs.declared.fault.AbsorbFault.{AbsorbFault}
use Rattle.tca_gossip.specs.Runs.{RunView}

-- One call, with the number of the pass that made it: reports that are held now, of which some were new, and why it stopped; runs
-- that were absorbed, with the answer; the bill; how long each chain is; and what is held past a summary.
pub data EntryView : Type 0 where
  Took : (pass : ℕ) (reports : List PacketReport) (fresh : ℕ) (stop : Option LogFault) → EntryView
  Absorbed : (pass : ℕ) (runs : List RunView) (result : Result ℕ AbsorbFault) → EntryView
  Answered : (pass : ℕ) (bill : Bill) → EntryView
  Asked : (pass : ℕ) (summary : List (ℕ × ℕ)) → EntryView
  Sent : (pass : ℕ) (since : List (ℕ × ℕ)) (delta : List RunView) → EntryView

-- whose call it was
abbrev pub pass_of : EntryView → ℕ
pass_of (Took pass reports fresh stop) = pass
pass_of (Absorbed pass runs result) = pass
pass_of (Answered pass bill) = pass
pass_of (Asked pass summary) = pass
pass_of (Sent pass since delta) = pass
