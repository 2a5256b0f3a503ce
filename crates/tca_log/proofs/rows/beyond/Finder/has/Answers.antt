use Rattle.std.proofs.Common.{◌≡◌, cond, sym, ap, subst, ◌∙◌}
use Rattle.std.specs.List.Sorted.{IsStrictlySortedBy}
use Rattle.tca_join.specs.Sets.{has}
use Rattle.tca_log.proofs.OrderedRows.Passing.{has_from, rises_from}
use Rattle.tca_log.proofs.rows.beyond.Finder.has.Goals as goal

pub returns-then-self-clause-later : goal.returns-then-self-clause-later
returns-then-self-clause-later g c q l =
    let R = g.K.Ord.cmp in
    let left = c.self.inside.left in
    let old : c.args.self.now ≡ left = sym c.self.view_is ∙ ap (λ b. cond b left c.self.inside.rows.now.rows) c.if-self.true in
    ap (λ x. has R x q) (ap (λ b. cond b c.pass.new.self c.self.inside.rows.now.rows) c.if-self.true ∙ c.pass.ensures.left)
    ∙ has_from R g.met.K.Ord.total c.args.key.now left q l
    ∙ ap (λ x. has R x q) (sym old)

pub returns-then-self-clause-rises : goal.returns-then-self-clause-rises
returns-then-self-clause-rises g c =
    let R = g.K.Ord.cmp in
    let left = c.self.inside.left in
    let old : c.args.self.now ≡ left = sym c.self.view_is ∙ ap (λ b. cond b left c.self.inside.rows.now.rows) c.if-self.true in
    subst (IsStrictlySortedBy R) (sym (ap (λ b. cond b c.pass.new.self c.self.inside.rows.now.rows) c.if-self.true ∙ c.pass.ensures.left)) (rises_from R g.met.K.Ord.total c.args.key.now left (subst (IsStrictlySortedBy R) old c.requires))
