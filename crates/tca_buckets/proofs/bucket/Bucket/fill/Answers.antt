use Rattle.std.proofs.Common.{sym}
use Rattle.tca_buckets.proofs.Steps.{repeated_gain}
use Rattle.tca_buckets.proofs.bucket.Bucket.fill.Goals as goal

pub returns : goal.returns
returns c = rw (c.min.ensures, ← c.self.view_is) (sym (repeated_gain c.args.tokens c.self.inside.level c.self.inside.cap))
