use Rattle.std.proofs.Common.{rules}
use Rattle.tca_buckets.proofs.bucket.Bucket.fits.Goals as goal

pub returns-then-exact : goal.returns-then-exact
returns-then-exact c = search rules
