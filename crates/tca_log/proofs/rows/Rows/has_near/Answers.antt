use Rattle.std.proofs.Common.{ap, sym, ◌∙◌, arith}
use Rattle.std.specs.Prelude.{is_some}
use Rattle.tca_log.proofs.OrderedRows.Search.{has_tied}
use Rattle.tca_log.proofs.OrderedRows.Whole.{rises_here, tied_here, tied_empty}
use Rattle.tca_log.specs.inside.Chunks.{joined}
use Rattle.tca_log.proofs.rows.Rows.has_near.Goals as goal

pub returns-then-len-eq0 : goal.returns-then-len-eq0
returns-then-len-eq0 g c =
    let R = g.K.Ord.cmp in
    rw (← c.self.view_is) (ap is_some (tied_empty R g.met.K.Ord.total c.self.inside.chunks.items c.args.key.now (omega (arith, c.len.ensures))) ∙ sym (has_tied R g.met.K.Ord.total c.args.key.now (joined c.self.inside.chunks.items)))

pub has_near-requires : goal.has_near-requires
has_near-requires g c =
    rises_here g.K.Ord.cmp g.met.K.Ord.total c.args.key.now c.self.inside.chunks.items c.position-at.result c.index.result.now c.self.invariant.chunks (rw c.deref.ensures.value at c.position-at.ensures) c.index.ensures

pub returns : goal.returns
returns g c =
    let R = g.K.Ord.cmp in
    let key = c.args.key.now in
    let here = tied_here R g.met.K.Ord.total key c.self.inside.chunks.items c.position-at.result c.index.result.now c.self.invariant.chunks (rw c.deref.ensures.value at c.position-at.ensures) c.index.ensures in
    rw (← c.self.view_is)
    (c.has_near.ensures ∙ has_tied R g.met.K.Ord.total key c.index.result.now ∙ ap is_some (sym here) ∙ sym (has_tied R g.met.K.Ord.total key (joined c.self.inside.chunks.items)))
