use Rattle.std.proofs.Common.{sym}
use Rattle.tca_buckets.proofs.Steps.{repeated_spill}
use Rattle.tca_buckets.proofs.bucket.fill_spilling.Goals as goal

pub returns : goal.returns
returns c =
    let all = repeated_spill c.args.tokens c.first.inside.level c.first.inside.cap c.second.inside.level c.second.inside.cap in
    rw (c.min-to_second.ensures, c.min-to_first.ensures, ← c.first.view_is, ← c.second.view_is) (sym all)
