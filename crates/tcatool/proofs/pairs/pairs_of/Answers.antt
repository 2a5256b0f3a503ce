use Rattle.std.proofs.Common.{◌∙◌, ap}
use Rattle.std.proofs.lemmas.List.Filters.{dedup_is}
use Rattle.tca_join.specs.Sets.{in_order}
use Rattle.tca_log.proofs.Gathering.{set_is}
use Rattle.tcatool.specs.Paired.{pair_cmp, same_pair}
use Rattle.tcatool.proofs.Pairing.{pair_exact, pair_total, same_is}
use Rattle.tcatool.proofs.pairs.pairs_of.Goals as goal

pub returns : goal.returns
returns c =
    set_is pair_cmp pair_total pair_exact same_pair same_is c.in_ok-pairs.pairs.items c.sort_unstable.new.self.items c.dedup.new.self.items c.sort_unstable.ensures.permutation c.sort_unstable.ensures.sorted (dedup_is same_pair c.sort_unstable.new.self.items c.dedup.new.self.items c.dedup.ensures.filtered)
    ∙ ap (in_order pair_cmp) c.in_ok-pairs.ensures
