use Rattle.tca_log.proofs.Logs.{nothing_kept}
use Rattle.tca_log.proofs.log.Log.new.Goals as goal

pub invariant_of-result : goal.invariant_of-result
invariant_of-result g c = rw (c.new.ensures, c.new-2.ensures) nothing_kept
