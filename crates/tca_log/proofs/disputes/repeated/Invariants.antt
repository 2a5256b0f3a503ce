use Rattle.std.proofs.Common.{◌≡◌, ◌-◌, ◌++◌, drop}
use Rattle.tca_report.specs.report.Identities.{identity_cmp}
use Rattle.tca_log.proofs.Repeats.{repeated_in}
use Rattle.tca_log.proofs.disputes.repeated.Given as goal

-- what was repeated so far, and then what is left
abbrev pub invariant-loop-at : goal.invariant-loop-at
invariant-loop-at g l = l.again.items ++ repeated_in identity_cmp (drop (l.at - 1) l.identities) ≡ repeated_in identity_cmp l.identities
