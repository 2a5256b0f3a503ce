use Rattle.tcatool.proofs.json.JsonDisplay.fmt.Goals as goal

pub returns-clause-writes : goal.returns-clause-writes
returns-clause-writes g c p ok =
    rw (← c.period-period.ensures, ← c.reports-reports.ensures, ← c.disputed-disputed.ensures, ← c.unassigned-unassigned.ensures, ← c.accounts.ensures) (c.write.ensures.writes p ok)
