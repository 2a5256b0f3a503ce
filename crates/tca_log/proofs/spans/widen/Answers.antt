use Rattle.std.proofs.Common.{◌≡◌, ◌<◌, true, length, subst, sym, ap, ◌∙◌, arith}
use Rattle.std.proofs.lemmas.List.{take_all}
use Rattle.tca_log.specs.declared.span.Span.{Span}
use Rattle.tca_log.specs.inside.Spans.{IsAmong, is_of}
use Rattle.tca_log.proofs.Slots.{IsWider, added_new, added_old, widened_new, widened_old}
use Rattle.tca_log.proofs.spans.widen.Goals as goal

pub returns-then-at-len-clause-old : goal.returns-then-at-len-clause-old
returns-then-at-len-clause-old g c =
    let s = c.index.result.now in
    let w = c.widened.ensures in
    let wide : IsWider s c.widened.result = record { domain = w.domain; session = w.session; lowest = w.lowest; highest = w.highest } in
    let there : c.place_of-at.result < length c.args.spans.now.items = omega (arith, c.if-at-len.true, c.len.ensures) in
    λ i a. widened_old c.args.spans.now.items c.place_of-at.result s c.widened.result there c.index.ensures wide i a

pub returns-then-at-len-clause-new : goal.returns-then-at-len-clause-new
returns-then-at-len-clause-new g c =
    let spans = c.args.spans.now.items in
    let i = c.args.identity in
    let s = c.index.result.now in
    let w = c.widened.ensures in
    let wide : IsWider s c.widened.result = record { domain = w.domain; session = w.session; lowest = w.lowest; highest = w.highest } in
    let there : c.place_of-at.result < length spans = omega (arith, c.if-at-len.true, c.len.ensures) in
    let found = rw c.deref.ensures.value at c.place_of-at.ensures.there s there in
    let own : is_of s i ≡ true = ap (λ (t : Span). is_of t i) c.index.ensures ∙ found in
    λ e. widened_new spans c.place_of-at.result s c.widened.result there c.index.ensures wide i own w.from w.to (rw c.deref.ensures.value at c.place_of-at.ensures.first)

pub returns-clause-old : goal.returns-clause-old
returns-clause-old g c = λ i a. subst (λ l. IsAmong l i) (sym c.in_ok-push.ensures.items) (added_old c.args.spans.now.items c.of.result i a)

pub returns-clause-new : goal.returns-clause-new
returns-clause-new g c =
    let spans = c.args.spans.now.items in
    let i = c.args.identity in
    let all = take_all c.place_of-at.result spans (omega (arith, c.if-at-len.false, c.len.ensures)) in
    let none = rw all at (rw c.deref.ensures.value at c.place_of-at.ensures.first) in
    λ e. subst (λ l. IsAmong l i) (sym c.in_ok-push.ensures.items) (added_new spans c.of.result i c.of.ensures none)
