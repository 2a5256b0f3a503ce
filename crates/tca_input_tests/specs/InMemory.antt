-- Files whose octets a map holds in memory. Cited by tests alone.
use Rattle.std.specs.Prelude.{ℕ, Option, option_map}
use Rattle.std.specs.Global.{Vec}
use Rattle.tca_split.specs.Folders.{Files}

-- the octets that a look-up finds for each domain
abbrev pub octets_of : (ℕ → Option (Vec ℕ)) → Files
octets_of found domain = option_map (λ v. v.items) (found domain)
