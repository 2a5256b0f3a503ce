use Rattle.std.proofs.Common.{◌≡◌, None, List, ap, sym, subst, ◌∙◌}
use Rattle.tca_accounts.specs.Spans.{Ascend}
use Rattle.tca_accounts.specs.Metering.{with_last}
use Rattle.tca_accounts.specs.declared.span.Span.{Span}
use Rattle.tca_replay.specs.inside.Standings.{metering}
use Rattle.tca_replay.specs.Lanes.{row_of}
use Rattle.tca_replay.proofs.Tallies.{spans_ascend, tally_done}
use Rattle.tca_replay.proofs.lane.Lane.tally.Goals as goal

pub ascending-requires : goal.ascending-requires
ascending-requires g c =
    let m = g.M.Meter in
    let l = c.self.inside in
    let w = metering (m.rule l.meter) l.terms in
    let none : row_of l.changed l.rows.rows ≡ None = rw (← c.self.view_is) at c.requires in
    let items : c.in_ok-spans.spans.items ≡ with_last l.closed.items l.standing.current = c.in_ok-spans.ensures ∙ ap (λ (x : List Span). with_last x l.standing.current) c.deref.ensures.value in
    subst Ascend (sym items) (spans_ascend w l.every l.rows l.standing l.marks.items l.closed.items l.ready _ _ c.len-all.ensures.rises l.changed c.self.invariant none)

pub returns : goal.returns
returns g c =
    let m = g.M.Meter in
    let l = c.self.inside in
    let w = metering (m.rule l.meter) l.terms in
    let none : row_of l.changed l.rows.rows ≡ None = rw (← c.self.view_is) at c.requires in
    let items : c.in_ok-spans.spans.items ≡ with_last l.closed.items l.standing.current = c.in_ok-spans.ensures ∙ ap (λ (x : List Span). with_last x l.standing.current) c.deref.ensures.value in
    rw (c.ascending.ensures, items, ← c.self.view_is) (tally_done w l.every l.rows l.standing l.marks.items l.closed.items l.ready _ _ c.len-all.ensures.rises l.changed c.self.invariant none)
