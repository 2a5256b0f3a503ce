-- A meter of any of the three kinds is the meter that it has.
use Rattle.std.specs.Prelude.{Bool}
use Rattle.tca_meters.specs.declared.any_meter.AnyMeter.{AnyMeter}
use Rattle.tca_meters.specs.declared.any_meter.AnyMeter.TheVariants.{SrTcm, TrTcm, Rfc4115}
use Rattle.tca_meters.specs.declared.levels.Levels.{Levels}
use Rattle.tca_meters.specs.Packets.{Rule}
use Rattle.tca_meters.specs.SrTcm as single
use Rattle.tca_meters.specs.TrTcm as peak
use Rattle.tca_meters.specs.Rfc4115 as excess

-- its rule
abbrev pub any_rule : AnyMeter → Rule Levels
any_rule (SrTcm m) = single.srtcm_rule m
any_rule (TrTcm m) = peak.trtcm_rule m
any_rule (Rfc4115 m) = excess.rfc4115_rule m

-- both buckets are of its sizes
abbrev pub IsWithinSizes : AnyMeter → Levels → Type 0
IsWithinSizes (SrTcm m) = single.IsWithinSizes m
IsWithinSizes (TrTcm m) = peak.IsWithinSizes m
IsWithinSizes (Rfc4115 m) = excess.IsWithinSizes m

-- whether precolours count
abbrev pub is_aware : AnyMeter → Bool
is_aware (SrTcm m) = m.aware
is_aware (TrTcm m) = m.aware
is_aware (Rfc4115 m) = m.aware
