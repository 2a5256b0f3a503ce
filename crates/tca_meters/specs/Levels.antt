-- The two buckets of a meter: at time 0, after tokens, and after a packet.
use Rattle.std.specs.Prelude.{ℕ, Bool, ◌&&◌, not, if◌then◌else◌}
use Rattle.tca_buckets.specs.Buckets.{full_bucket, gain, repeated, fits, after_spending, IsOfSize}
use Rattle.tca_meters.specs.declared.colour.Colour.{Colour}
use Rattle.tca_meters.specs.declared.colour.Colour.TheVariants.{Green, Yellow, Red}
use Rattle.tca_meters.specs.declared.levels.Levels.{Levels}
use Rattle.tca_meters.specs.Colours.{is_green, is_red}

-- both buckets full
abbrev pub full_levels : ℕ → ℕ → Levels
full_levels committed excess = record { committed = full_bucket committed; excess = full_bucket excess }

-- so many tokens of one stream for the committed bucket and so many of another for the other bucket, one by one: each is lost where its bucket is full
abbrev pub filled_apart : ℕ → ℕ → Levels → Levels
filled_apart committed excess s = record { committed = repeated committed gain s.committed; excess = repeated excess gain s.excess }

-- green needs a green packet and so many committed tokens, yellow one that isn't red and so many excess tokens, and red spends nothing
abbrev pub committed_or_excess : Bool → Levels → ℕ → Colour → Colour × Levels
committed_or_excess exact s octets pre =
    if is_green pre && fits s.committed octets exact then (Green, record s { committed = after_spending s.committed octets })
    else (if not (is_red pre) && fits s.excess octets exact then (Yellow, record s { excess = after_spending s.excess octets })
    else (Red, s))

-- both buckets are of these sizes
pub record AreOfSizes (s : Levels) (committed_size excess_size : ℕ) : Type 0 where
  pub committed : IsOfSize s.committed committed_size
  pub excess : IsOfSize s.excess excess_size
