use Rattle.std.proofs.Common.{◌≡◌, ◌+◌, ◌∙◌, ap, arith}
use Rattle.tca_buckets.specs.Buckets.{repeated, spill}
use Rattle.tca_buckets.specs.Tokens.{due}
use Rattle.tca_meters.specs.SrTcm.{levels}
use Rattle.tca_audit.proofs.TokensLeft.{all_due, come, spilled}
use Rattle.tca_audit.proofs.srtcm.filled.Goals as goal

pub returns : goal.returns
returns c =
    let a = c.args in
    let cir = c.cir-cir.result in
    let n = due cir a.from a.to in
    let first = c.first_after-first.result in
    let last = come cir a.to in
    let all : n + first ≡ last + 1 = omega (arith, all_due cir a.to a.from c.requires.order, c.first_after-first.ensures) in
    let one = c.let_in-left.ensures in
    let two = c.let_in.ensures in
    let both = spilled a.buckets.committed c.let_in-left.new.bucket a.buckets.excess c.let_in.new.bucket first c.let_in-left.result c.let_in.result last n all
    (record { start = one.order.0; finish = one.order.1; level = one.level; size = one.size; within = one.within; end = one.end })
    (record { start = two.order.0; finish = two.order.1; level = two.level; size = two.size; within = two.within; end = two.end }) in
    ap levels (both ∙ ap (λ r. repeated (due r a.from a.to) spill (a.buckets.committed, a.buckets.excess)) c.cir-cir.ensures.value)
