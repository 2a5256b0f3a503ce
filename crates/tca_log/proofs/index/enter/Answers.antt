use Rattle.std.proofs.Common.{◌≡◌, Some, true, false, refl, rules, sym, ap, ◌∙◌}
use Rattle.std.specs.Prelude.{is_some}
use Rattle.tca_join.specs.Sets.{has}
use Rattle.tca_report.specs.report.Identities.{identity_cmp}
use Rattle.tca_log.specs.inside.Logs.{index_cmp, indexed, first_of, is_disputed}
use Rattle.tca_log.proofs.OrderedRows.Search.{has_tied}
use Rattle.tca_log.proofs.Logs.{index_total}
use Rattle.tca_log.proofs.index.enter.Goals as goal

pub put-requires-clause-new : goal.put-requires-clause-new
put-requires-clause-new g c =
    rw c.in_ok-reserve.ensures.rows (has_tied index_cmp index_total (indexed c.args.report) c.args.index.now.rows ∙ ap is_some (sym c.get.ensures ∙ sym c.copied.ensures ∙ c.in_default.is))

pub returns-then-contains-clause-answer : goal.returns-then-contains-clause-answer
returns-then-contains-clause-answer g c =
    let first : first_of c.args.index.now.rows c.args.report ≡ Some c.in-Some.first = sym c.get.ensures ∙ sym c.copied.ensures ∙ c.in-Some.is in
    let is_one : is_disputed c.args.disputed.now.rows c.args.report ≡ true = ap (has identity_cmp c.args.disputed.now.rows) (sym c.identity-identity.ensures) ∙ sym c.contains.ensures ∙ c.if-contains.true in
    rw (first, is_one) refl

pub returns-clause-answer : goal.returns-clause-answer
returns-clause-answer g c =
    let first : first_of c.args.index.now.rows c.args.report ≡ Some c.in-Some.first = sym c.get.ensures ∙ sym c.copied.ensures ∙ c.in-Some.is in
    let is_none : is_disputed c.args.disputed.now.rows c.args.report ≡ false = ap (has identity_cmp c.args.disputed.now.rows) (sym c.identity-identity.ensures) ∙ sym c.contains.ensures ∙ c.if-contains.false in
    rw (first, is_none) refl

pub returns-clause-disputed : goal.returns-clause-disputed
returns-clause-disputed g c =
    let first : first_of c.args.index.now.rows c.args.report ≡ Some c.in-Some.first = sym c.get.ensures ∙ sym c.copied.ensures ∙ c.in-Some.is in
    let is_none : is_disputed c.args.disputed.now.rows c.args.report ≡ false = ap (has identity_cmp c.args.disputed.now.rows) (sym c.identity-identity.ensures) ∙ sym c.contains.ensures ∙ c.if-contains.false in
    rw (first, is_none, ← c.identity-identity.ensures, ← c.in_ok-reserve-2.ensures.rows) (search rules)
