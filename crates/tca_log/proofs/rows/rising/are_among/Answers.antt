use Rattle.std.proofs.Common.{◌∙◌, sym, ap, subst, arith}
use Rattle.std.specs.List.Sorted.{IsStrictlySortedBy}
use Rattle.std.proofs.lemmas.Bool.{false≢true}
use Rattle.std.proofs.lemmas.List.{take_all}
use Rattle.tca_join.specs.Sets.{has}
use Rattle.tca_log.proofs.OrderedRows.Among.{within_from, found_more}
use Rattle.tca_log.proofs.OrderedRows.Passing.{has_none, rises_from}
use Rattle.tca_log.proofs.rows.rising.are_among.Goals as goal

pub loop-key-init : goal.loop-key-init
loop-key-init g c =
    let R = g.K.Ord.cmp in
    let all = c.new-left.ensures ∙ c.of.ensures in
    record {
      rises = subst (IsStrictlySortedBy R) (sym all) c.requires;
      within = λ q h. ap (λ l. has R l q) (sym all) ∙ h;
      found = λ q h. absurd (false≢true (sym (has_none R g.met.K.Ord.total q) ∙ h));
    }

pub loop-key-preserved : goal.loop-key-preserved
loop-key-preserved g c =
    let R = g.K.Ord.cmp in
    let o = g.met.K.Ord.total in
    let before = c.loop-key.invariant in
    let key = c.key-item.result in
    record {
      rises = subst (IsStrictlySortedBy R) (sym c.pass.ensures.left) (rises_from R o key c.loop-key.left before.rises);
      within = λ q h. before.within q (within_from R o key c.loop-key.left q (ap (λ l. has R l q) (sym c.pass.ensures.left) ∙ h));
      found = found_more R o c.args.keys.now c.args.rows.now c.loop-key.left c.loop-key.key-index key (omega arith) c.key-item.is before.within before.found (sym c.pass.ensures.there ∙ c.if-not-pass.false);
    }

pub returns : goal.returns
returns g c told q h = c.loop-key.invariant.found q (ap (λ l. has g.K.Ord.cmp l q) (take_all c.loop-key.key-index c.args.keys.now c.loop-key-test.false) ∙ h)
