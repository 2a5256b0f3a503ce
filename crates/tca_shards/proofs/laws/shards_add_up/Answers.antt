use Rattle.tca_shards.proofs.Shards.{sides_add_up, shards_add_up}
use Rattle.tca_shards.proofs.ManyShards.{all_shards_add_up}
use Rattle.tca_shards.proofs.DomainsApart.{all_domains_apart_add_up, domains_apart_add_up}
use Rattle.tca_shards.proofs.laws.shards_add_up.Goals as goal

pub returns : goal.returns
returns c = record { two = domains_apart_add_up; all = all_domains_apart_add_up; sides = sides_add_up; two_sides = shards_add_up; homes = all_shards_add_up }
