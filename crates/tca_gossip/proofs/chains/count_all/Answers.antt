use Rattle.std.proofs.Common.{ℕ, length, ap, ◌∙◌, arith}
use Rattle.std.proofs.lemmas.List.{take_all}
use Rattle.std.proofs.lemmas.List.Sums.{sum_by_more}
use Rattle.std.specs.Prelude.{min, sum_by}
use Rattle.tca_report.specs.report.Reports.{PacketReport}
use Rattle.tca_join.specs.Chains.{ChainView}
use Rattle.tca_gossip.proofs.chains.count_all.Goals as goal

pub loop-entry-init : goal.loop-entry-init
loop-entry-init c = omega arith

pub loop-entry-preserved : goal.loop-entry-preserved
loop-entry-preserved c =
    let es = c.args.chains.now in
    let items = λ (e : ℕ × ChainView PacketReport). length e.1.items in
    let h = rw c.entries-entry-items.ensures.all at c.loop-entry-test.true in
    let is = rw c.entries-entry-items.ensures.all at c.entry-item.is in
    omega (arith, c.loop-entry.invariant, sum_by_more items es c.loop-entry.entry-index c.entry-item.result h, ap items is, c.len.ensures.length, c.saturating_add-count.ensures)

pub returns : goal.returns
returns c =
    let h = rw c.entries-entry-items.ensures.all at c.loop-entry-test.false in
    c.loop-entry.invariant ∙ ap (λ l. min (sum_by (λ (e : ℕ × ChainView PacketReport). length e.1.items) l) 18446744073709551615) (take_all c.loop-entry.entry-index c.args.chains.now h)
