use Rattle.std.proofs.Common.{rules}
use Rattle.tca_buckets.proofs.bucket.Bucket.full.Goals as goal

pub returns : goal.returns
returns c = search rules
