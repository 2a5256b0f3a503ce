use Rattle.std.proofs.Common.{◌≡◌, ℕ, ◌-◌, ◌∙◌, List, IfOk, length, drop, subst, ap, arith}
use Rattle.tca_report.specs.report.Reports.{PacketReport}
use Rattle.tca_gossip.proofs.RunsAtOnce.{skipped}
use Rattle.tca_gossip.proofs.run.Run.rest.Goals as goal

pub returns-then-skip-eq0 : goal.returns-then-skip-eq0
returns-then-skip-eq0 c =
    let all = c.self.inside.reports in
    let none : 0 ≡ c.args.have - c.self.inside.start = omega (arith, c.if-skip-eq0.true, c.saturating_sub-skip.ensures) in
    rw (← c.self.view_is) (subst (λ (l : List PacketReport). IfOk c.share.result (λ rest. rest ≡ l)) (ap (λ (k : ℕ). drop k all) none) c.share.ensures)

pub returns : goal.returns
returns c =
    let all = c.self.inside.reports in
    let skip = c.min.result in
    let rest =
    c.in_ok-list.ensures.items
    ∙ c.split_at.ensures.back
    ∙ ap (drop skip) c.as_slice-reports.ensures
    ∙ skipped all (c.args.have - c.self.inside.start) skip (omega (arith, c.min.ensures, c.saturating_sub-skip.ensures, ap length c.as_slice-reports.ensures)) in
    rw (← c.self.view_is) (subst (λ (l : List PacketReport). IfOk c.of.result (λ rest. rest ≡ l)) rest c.of.ensures)
