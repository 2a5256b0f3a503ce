use Rattle.std.proofs.lemmas.Grind.{common_steps}
use Rattle.std.proofs.Common.{◌<◌, List, length, sym, subst, ◌∙◌, arith}
use Rattle.tca_report.specs.report.Reports.{PacketReport}
use Rattle.tca_log.specs.inside.Logs.{IsLog}
use Rattle.tca_log.proofs.Logs.{repeat, repeat_put, kept, next_log, next_answer}
use Rattle.tca_log.proofs.log.Log.add.Goals as goal

pub returns-then-contains-clause-answer : goal.returns-then-contains-clause-answer
returns-then-contains-clause-answer g c =
    rw (← c.self.view_is) (repeat c.self.inside.rows.rows c.args.report (sym c.contains.ensures ∙ c.if-contains.true))

pub returns-then-contains-clause-ok : goal.returns-then-contains-clause-ok
returns-then-contains-clause-ok g c =
    rw (← c.self.view_is) (repeat_put c.self.inside.rows.rows c.args.report c.self.invariant.rises (sym c.contains.ensures ∙ c.if-contains.true))

pub returns-then-len-ge-LIMIT-clause-new : goal.returns-then-len-ge-LIMIT-clause-new
returns-then-len-ge-LIMIT-clause-new g c = cc

pub invariant_of-self-in_err-answer : goal.invariant_of-self-in_err-answer
invariant_of-self-in_err-answer g c =
    let rs = c.self.inside.rows.rows in
    let index = c.in_ok-index.index.rows in
    let disputed_identities = c.self.inside.disputed.rows in
    let log : IsLog rs index disputed_identities = subst (λ (l : List PacketReport). IsLog l index disputed_identities) c.in_ok-reserve.ensures.rows (c.in_ok-index.ensures disputed_identities (rw (c.in_ok-reserve.ensures.rows, c.take.ensures.value) c.self.invariant)) in
    rw (c.in_ok-reserve.ensures.rows, c.in_err-answer.ensures.err, c.in_err-answer.ensures.err_disputed) (kept log)

pub invariant_of-self-2 : goal.invariant_of-self-2
invariant_of-self-2 g c =
    let rs = c.self.inside.rows.rows in
    let index = c.in_ok-index.index.rows in
    let disputed_identities = c.self.inside.disputed.rows in
    let few : length rs < 4194304 = omega arith in
    let log : IsLog rs index disputed_identities = subst (λ (l : List PacketReport). IsLog l index disputed_identities) c.in_ok-reserve.ensures.rows (c.in_ok-index.ensures disputed_identities (rw (c.in_ok-reserve.ensures.rows, c.take.ensures.value) c.self.invariant)) in
    rw (c.put.ensures, c.in_ok-reserve.ensures.rows, c.in_ok-answer.ensures.index, c.in_ok-answer.ensures.disputed) (kept (next_log rs index disputed_identities c.args.report log (sym c.contains.ensures ∙ c.if-contains.false) few))

pub returns-clause-answer : goal.returns-clause-answer
returns-clause-answer g c =
    let rs = c.self.inside.rows.rows in
    let index = c.in_ok-index.index.rows in
    let disputed_identities = c.self.inside.disputed.rows in
    let few : length rs < 4194304 = omega arith in
    let log : IsLog rs index disputed_identities = subst (λ (l : List PacketReport). IsLog l index disputed_identities) c.in_ok-reserve.ensures.rows (c.in_ok-index.ensures disputed_identities (rw (c.in_ok-reserve.ensures.rows, c.take.ensures.value) c.self.invariant)) in
    rw (← c.self.view_is) (c.in_ok-answer.ensures.answer ∙ next_answer rs index disputed_identities c.args.report log (sym c.contains.ensures ∙ c.if-contains.false) few)

pub same-self : goal.same-self
same-self g c = grind (arith, common_steps)

pub same-self-then-len-ge-LIMIT : goal.same-self-then-len-ge-LIMIT
same-self-then-len-ge-LIMIT g c = grind (arith, common_steps)

pub returns-then-len-ge-LIMIT-clause-err : goal.returns-then-len-ge-LIMIT-clause-err
returns-then-len-ge-LIMIT-clause-err g c = grind (arith, common_steps)

pub returns-then-len-ge-LIMIT-clause-fault : goal.returns-then-len-ge-LIMIT-clause-fault
returns-then-len-ge-LIMIT-clause-fault g c = grind (arith, common_steps)

pub invariant_of-self : goal.invariant_of-self
invariant_of-self g c = grind (arith, common_steps)

pub returns-in_err-reserve-clause-answer : goal.returns-in_err-reserve-clause-answer
returns-in_err-reserve-clause-answer g c = grind (arith, common_steps)

pub returns-in_err-reserve-clause-ok : goal.returns-in_err-reserve-clause-ok
returns-in_err-reserve-clause-ok g c = grind (arith, common_steps)

pub returns-in_err-reserve-clause-err : goal.returns-in_err-reserve-clause-err
returns-in_err-reserve-clause-err g c = grind (arith, common_steps)

pub returns-in_err-reserve-clause-new : goal.returns-in_err-reserve-clause-new
returns-in_err-reserve-clause-new g c = grind (arith, common_steps)

pub returns-in_err-reserve-clause-fault : goal.returns-in_err-reserve-clause-fault
returns-in_err-reserve-clause-fault g c = grind (arith, common_steps)

pub index_of-requires-clause-rises : goal.index_of-requires-clause-rises
index_of-requires-clause-rises g c = grind (arith, common_steps)

pub index_of-requires-clause-few : goal.index_of-requires-clause-few
index_of-requires-clause-few g c = grind (arith, common_steps)

pub invariant_of-self-in_err-index : goal.invariant_of-self-in_err-index
invariant_of-self-in_err-index g c = grind (arith, common_steps)

pub returns-in_err-index-clause-answer : goal.returns-in_err-index-clause-answer
returns-in_err-index-clause-answer g c = grind (arith, common_steps)

pub returns-in_err-index-clause-ok : goal.returns-in_err-index-clause-ok
returns-in_err-index-clause-ok g c = grind (arith, common_steps)

pub returns-in_err-index-clause-err : goal.returns-in_err-index-clause-err
returns-in_err-index-clause-err g c = grind (arith, common_steps)

pub returns-in_err-index-clause-new : goal.returns-in_err-index-clause-new
returns-in_err-index-clause-new g c = grind (arith, common_steps)

pub returns-in_err-index-clause-fault : goal.returns-in_err-index-clause-fault
returns-in_err-index-clause-fault g c = grind (arith, common_steps)

pub enter-entered-requires-clause-few : goal.enter-entered-requires-clause-few
enter-entered-requires-clause-few g c = grind (arith, common_steps)

pub enter-entered-requires-clause-few_disputed : goal.enter-entered-requires-clause-few_disputed
enter-entered-requires-clause-few_disputed g c = grind (arith, common_steps)

pub returns-in_err-answer-clause-answer : goal.returns-in_err-answer-clause-answer
returns-in_err-answer-clause-answer g c = grind (arith, common_steps)

pub returns-in_err-answer-clause-ok : goal.returns-in_err-answer-clause-ok
returns-in_err-answer-clause-ok g c = grind (arith, common_steps)

pub returns-in_err-answer-clause-err : goal.returns-in_err-answer-clause-err
returns-in_err-answer-clause-err g c = grind (arith, common_steps)

pub returns-in_err-answer-clause-new : goal.returns-in_err-answer-clause-new
returns-in_err-answer-clause-new g c = grind (arith, common_steps)

pub returns-in_err-answer-clause-fault : goal.returns-in_err-answer-clause-fault
returns-in_err-answer-clause-fault g c = grind (arith, common_steps)

pub put-requires-clause-ready : goal.put-requires-clause-ready
put-requires-clause-ready g c = grind (arith, common_steps)

pub put-requires-clause-new : goal.put-requires-clause-new
put-requires-clause-new g c = grind (arith, common_steps)

pub put-requires-clause-few : goal.put-requires-clause-few
put-requires-clause-few g c = grind (arith, common_steps)

pub returns-clause-ok : goal.returns-clause-ok
returns-clause-ok g c = grind (arith, common_steps)
