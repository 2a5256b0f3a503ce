-- The laws that a meter of any of the three kinds keeps: those of the meter that it has.
use Rattle.tca_meters.specs.declared.any_meter.AnyMeter.{AnyMeter}
use Rattle.tca_meters.specs.declared.any_meter.AnyMeter.TheVariants.{SrTcm, TrTcm, Rfc4115}
use Rattle.tca_meters.specs.MeterLaws.{IsAdditive, KeepsSizes, NeverBetters, IgnoresPrecolours, RedKeeps}
use Rattle.tca_meters.specs.AnyMeters.{any_rule, is_aware, IsWithinSizes}
use Rattle.tca_meters.specs.laws.SrTcmLaws as single
use Rattle.tca_meters.specs.laws.TrTcmLaws as peak
use Rattle.tca_meters.specs.laws.Rfc4115Laws as excess

pub additive : (m : AnyMeter) → IsAdditive (any_rule m)
additive (SrTcm m) = single.additive m
additive (TrTcm m) = peak.additive m
additive (Rfc4115 m) = excess.additive m

pub sizes : (m : AnyMeter) → KeepsSizes (any_rule m) (IsWithinSizes m)
sizes (SrTcm m) = single.sizes m
sizes (TrTcm m) = peak.sizes m
sizes (Rfc4115 m) = excess.sizes m

pub never_betters : (m : AnyMeter) → NeverBetters (any_rule m) (λ s. is_aware m)
never_betters (SrTcm m) = single.never_betters m
never_betters (TrTcm m) = peak.never_betters m
never_betters (Rfc4115 m) = excess.never_betters m

pub blind : (m : AnyMeter) → IgnoresPrecolours (any_rule m) (λ s. is_aware m)
blind (SrTcm m) = single.blind m
blind (TrTcm m) = peak.blind m
blind (Rfc4115 m) = excess.blind m

pub red_keeps : (m : AnyMeter) → RedKeeps (any_rule m)
red_keeps (SrTcm m) = single.red_keeps m
red_keeps (TrTcm m) = peak.red_keeps m
red_keeps (Rfc4115 m) = excess.red_keeps m
