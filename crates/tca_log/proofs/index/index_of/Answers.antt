use Rattle.std.proofs.Common.{◌≡◌, [], ap, ◌∙◌}
use Rattle.tca_report.specs.declared.report.Identity.{Identity}
use Rattle.tca_log.specs.declared.by_identity.ByIdentity.{ByIdentity}
use Rattle.tca_log.specs.Rows.Ordered.{Ordered}
use Rattle.tca_log.specs.inside.Logs.{index_cmp}
use Rattle.tca_log.specs.inside.Additions.{AddedRows, with_reports}
use Rattle.tca_log.proofs.OrderedRows.Each.{apart_none}
use Rattle.tca_log.proofs.Logs.{index_total}
use Rattle.tca_log.proofs.Uniting.{index_made}
use Rattle.tca_log.proofs.index.index_of.Goals as goal

pub take_all-requires-clause-apart : goal.take_all-requires-clause-apart
take_all-requires-clause-apart g c = rw c.new-index.ensures (apart_none index_cmp index_total c.additions.inside.fresh.rows)

pub returns : goal.returns
returns g c disputed_identities kept =
    let rs = c.args.rows.now.rows in
    let n : AddedRows = c.in_ok-additions.additions in
    let none : AddedRows = record { fresh = []; newly_disputed = [] } in
    let t = c.in_ok-additions.ensures in
    let is : n ≡ with_reports [] [] t.0 none =
    t.2 ∙ ap (λ (o : Ordered ByIdentity). with_reports o.rows c.new.result.rows t.0 none) c.new-index.ensures ∙ ap (λ (o : Ordered Identity). with_reports [] o.rows t.0 none) c.new.ensures in
    let fresh : c.additions.inside.fresh.rows ≡ n.fresh = ap (λ (x : AddedRows). x.fresh) c.additions.view_is in
    rw (c.in_ok-take_all.ensures.ok, fresh, c.new-index.ensures) (index_made rs t.0 n t.1 is c.requires.rises c.requires.few disputed_identities kept.disputed_are)
