use Rattle.std.proofs.Common.{◌≡◌, ◌+◌, arith}
use Rattle.tca_buckets.specs.Tokens.{due}
use Rattle.tca_audit.proofs.TokensLeft.{all_due, come, gained}
use Rattle.tca_audit.proofs.arrivals.filled.Goals as goal

pub returns : goal.returns
returns c =
    let a = c.args in
    let n = due a.rate a.from a.to in
    let first = c.first_after-first.result in
    let last = come a.rate a.to in
    let all : n + first ≡ last + 1 = omega (arith, all_due a.rate a.to a.from c.requires.order, c.first_after-first.ensures) in
    gained a.bucket c.let_in.new.bucket first c.let_in.result last n all
    (record { start = c.let_in.ensures.order.0; finish = c.let_in.ensures.order.1; level = c.let_in.ensures.level; size = c.let_in.ensures.size; within = c.let_in.ensures.within; end = c.let_in.ensures.end })
