use Rattle.std.proofs.Common.{sym, ◌∙◌, arith}
use Rattle.tca_log.proofs.OrderedRows.Whole.{rises_here, tied_here, tied_empty}
use Rattle.tca_log.proofs.rows.Rows.get.Goals as goal

pub returns-then-len-eq0 : goal.returns-then-len-eq0
returns-then-len-eq0 g c =
    rw (← c.self.view_is) (tied_empty g.K.Ord.cmp g.met.K.Ord.total c.self.inside.chunks.items c.args.key.now (omega (arith, c.len.ensures)))

pub get-requires : goal.get-requires
get-requires g c =
    rises_here g.K.Ord.cmp g.met.K.Ord.total c.args.key.now c.self.inside.chunks.items c.position-at.result c.index.result.now c.self.invariant.chunks (rw c.deref.ensures.value at c.position-at.ensures) c.index.ensures

pub returns : goal.returns
returns g c =
    rw (← c.self.view_is) (c.get.ensures ∙ sym (tied_here g.K.Ord.cmp g.met.K.Ord.total c.args.key.now c.self.inside.chunks.items c.position-at.result c.index.result.now c.self.invariant.chunks (rw c.deref.ensures.value at c.position-at.ensures) c.index.ensures))
