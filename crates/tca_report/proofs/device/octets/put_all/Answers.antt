use Rattle.std.proofs.Common.{◌∙◌, rules}
use Rattle.std.proofs.lemmas.List.{take_rest}
use Rattle.tca_report.proofs.lemmas.device.KnownBytes.{appends_next}
use Rattle.tca_report.proofs.device.octets.put_all.Goals as goal

pub loop-done-preserved : goal.loop-done-preserved
loop-done-preserved g c = (
  search rules,
  appends_next _ _ _ c.args.octets.now c.loop-done.done c.in-Ok.n c.loop-done.invariant.1 (rw (take_rest c.args.octets.now c.loop-done.done) at c.in-Ok.ensures.octets),
  c.in-Ok.ensures.count ∙ c.loop-done.invariant.2,
)
