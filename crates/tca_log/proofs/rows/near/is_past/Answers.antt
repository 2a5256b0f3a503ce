use Rattle.std.proofs.Common.{◌≡◌, ◌-◌, suc, take, ap, subst, sym, ◌∙◌, arith}
use Rattle.std.specs.List.{AllByRecursion}
use Rattle.std.specs.Ordering.{is_lt}
use Rattle.std.specs.declared.cmp.Ordering.TheVariants.{Less}
use Rattle.tca_log.proofs.OrderedRows.Parts.{lt_less}
use Rattle.tca_log.proofs.OrderedRows.Near.{below_place}
use Rattle.tca_log.proofs.rows.near.is_past.Goals as goal

pub returns-in-Some : goal.returns-in-Some
returns-in-Some g c t =
    let R = g.K.Ord.cmp in
    let key = c.args.key.now in
    let before = c.in-Some.before.now in
    let less = lt_less (R before key) (ap is_lt (sym c.cmp.ensures) ∙ sym c.is_lt.ensures ∙ t) in
    let one : suc (c.args.at - 1) ≡ c.args.at = omega (arith, c.if-at-eq0.false) in
    subst (λ n. AllByRecursion (λ x. R x key ≡ Less) (take n c.args.rows.now)) one (below_place R g.met.K.Ord.total key before c.args.rows.now (c.args.at - 1) c.requires c.in-Some.ensures.lookup.3.0 c.in-Some.ensures.lookup.1 less)
