use Rattle.std.proofs.Common.{◌≡◌, drop, sym, ◌∙◌}
use Rattle.std.specs.List.{AllByRecursion}
use Rattle.std.specs.declared.cmp.Ordering.TheVariants.{Less}
use Rattle.tca_log.proofs.OrderedRows.Near.{above_end, above_place, has_between, has_place}
use Rattle.tca_log.proofs.rows.near.told_at.Goals as goal
use Rattle.tca_log.proofs.rows.near.told_at.Goals.{in-Some+in-Less, in_default}

pub returns-in-Equal : goal.returns-in-Equal
returns-in-Equal g c =
    sym (has_place g.K.Ord.cmp g.met.K.Ord.total c.args.key.now c.in-Some.next.now c.args.rows.now c.args.at c.in-Some.ensures.lookup.3.0 c.in-Some.ensures.lookup.1 (sym c.cmp.ensures ∙ c.in-Equal.is))

pub returns-then-is_past : goal.returns-then-is_past
returns-then-is_past g c =
    let R = g.K.Ord.cmp in
    let rows = c.args.rows.now in
    let key = c.args.key.now in
    let high : AllByRecursion (λ y. R key y ≡ Less) (drop c.args.at rows) = elim c.match-get.branch [
      | in-Some+in-Less w ↦ above_place R g.met.K.Ord.total key w.in-Some.next.now rows c.args.at c.requires w.in-Some.ensures.lookup.3.0 w.in-Some.ensures.lookup.1 (sym w.cmp.ensures ∙ w.in-Less.is)
      | in_default w ↦ above_end R g.met.K.Ord.total key rows c.args.at w.in_default.ensures.lookup.3
    ] in
    sym (has_between R g.met.K.Ord.total key rows c.args.at (c.is_past.ensures c.if-is_past.true) high)
