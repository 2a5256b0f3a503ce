use Rattle.std.proofs.Common.{◌≡◌, ◌+◌, ◌*◌, ◌/◌, ◌%◌, ap, sym, ◌∙◌, arith}
use Rattle.tca_buckets.specs.Tokens.{due}
use Rattle.tca_buckets.proofs.Due.{due_apart}
use Rattle.tca_buckets.proofs.tokens.ticks.Goals as goal

pub returns : goal.returns
returns c =
    let rate = c.args.rate in
    let parts : rate ≡ 1000 * (rate / 1000) + rate % 1000 = omega arith in
    sym (ap (λ r. due r c.args.from c.args.to) parts ∙ due_apart (rate / 1000) (rate % 1000) c.args.from c.args.to c.requires.order)
