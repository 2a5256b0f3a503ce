use Rattle.std.proofs.Common.{◌≡◌, Bool, List, ℕ, ap}
use Rattle.std.specs.Bool.{Decides}
use Rattle.std.proofs.lemmas.Bool.Decides.{Decides-like}
use Rattle.std.proofs.lemmas.Slice.Eq.{slice_eq-Decides}
use Rattle.tca_report.specs.report.Reports.{PacketReport}
use Rattle.tca_gossip.specs.Runs.{RunView}
use Rattle.tca_gossip.proofs.Exact.{report_decides}
use Rattle.tca_gossip.proofs.run.Run.is_same.Goals as goal

abbrev run : ℕ → ℕ → List PacketReport → RunView
run origin start reports = record { origin = origin; start = start; reports = reports }

-- runs of one origin and place are one where their reports are
one_run : (a b s t : ℕ) (xs ys : List PacketReport) (r : Bool) → a ≡ b → s ≡ t → Decides r (xs ≡ ys) → Decides r (run a s xs ≡ run b t ys)
one_run a b s t xs ys r origin start same = Decides-like r (λ e i. run (origin i) (start i) (e i)) (λ e. ap (λ (v : RunView). v.reports) e) same

pub returns : goal.returns
returns c =
    let same : Decides c.eq.result (c.as_slice.result.now ≡ c.as_slice-2.result.now) = slice_eq-Decides report_decides c.as_slice.result.now c.as_slice-2.result.now c.eq.result c.eq.ensures in
    rw (← c.self.view_is, ← c.other.view_is)
    (one_run c.self.inside.origin c.other.inside.origin c.self.inside.start c.other.inside.start c.self.inside.reports c.other.inside.reports c.eq.result c.if-self-other.false c.if-self-other-2.false
    (rw (← c.as_slice.ensures, ← c.as_slice-2.ensures) same))
