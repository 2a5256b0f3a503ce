use Rattle.std.proofs.Common.{length, ap, arith}
use Rattle.tca_log.proofs.Uniting.{length_keys}
use Rattle.tca_log.proofs.additions.additions_of.Goals as goal

pub additions_in_order-requires : goal.additions_in_order-requires
additions_in_order-requires g c = omega (arith, ap length c.deref.ensures.value, length_keys c.args.news.now.rows c.in_ok-keys.keys.items c.in_ok-keys.ensures, c.requires.few)
