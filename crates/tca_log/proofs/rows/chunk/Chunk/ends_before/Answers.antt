use Rattle.std.proofs.Common.{◌≡◌, ◌-◌, Some, None, length, true, ap, sym, ◌∙◌}
use Rattle.std.specs.Prelude.{slice_get}
use Rattle.std.specs.Ordering.{is_lt}
use Rattle.tca_log.proofs.OrderedRows.Search.{after_last, after_none}
use Rattle.tca_log.proofs.rows.chunk.Chunk.ends_before.Goals as goal

pub returns-in-Some : goal.returns-in-Some
returns-in-Some g c =
    let at : Some c.in-Some.last.now ≡ slice_get c.args.self.now (length c.args.self.now - 1) = rw (← c.rows.ensures) c.in-Some.ensures.value in
    let below = λ (t : c.is_lt.result ≡ true). after_last g.K.Ord.cmp g.met.K.Ord.total c.args.key.now c.in-Some.last.now c.args.self.now c.requires at (ap is_lt (sym c.cmp.ensures) ∙ sym c.is_lt.ensures ∙ t) in
    record { put = λ t. (below t).0; none = λ t. (below t).1 }

pub returns-in-None : goal.returns-in-None
returns-in-None g c =
    let at : None ≡ slice_get c.args.self.now (length c.args.self.now - 1) = rw (← c.rows.ensures) c.in-None.ensures.value in
    let both = after_none g.K.Ord.cmp g.met.K.Ord.total c.args.key.now c.args.self.now at in
    record { put = λ t. both.0; none = λ t. both.1 }
