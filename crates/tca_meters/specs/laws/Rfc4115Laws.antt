-- The laws that the meter of RFC 4115 keeps, with their proofs.
use Rattle.std.specs.Prelude.{refl}
use Rattle.tca_buckets.specs.Tokens.{due}
use Rattle.tca_meters.specs.Colours.{counted}
use Rattle.tca_meters.specs.MeterLaws.{IsAdditive, KeepsSizes, NeverBetters, IgnoresPrecolours, RedKeeps}
use Rattle.tca_meters.specs.laws.LevelsLaws.{full_levels_of_sizes, filled_apart_parts, filled_apart_of_sizes, committed_or_excess_of_sizes, committed_or_excess_never_betters, committed_or_excess_red_keeps, counted_never_betters}
use Rattle.tca_meters.specs.Rfc4115.{Rfc4115View, rfc4115_rule, judged_packet, IsWithinSizes}

pub additive : (m : Rfc4115View) → IsAdditive (rfc4115_rule m)
additive m a b c s h k = filled_apart_parts m.cir m.eir a b c s h k

pub sizes : (m : Rfc4115View) → KeepsSizes (rfc4115_rule m) (IsWithinSizes m)
sizes m = record {
  opening = full_levels_of_sizes m.cbs m.ebs;
  filled = λ from to. filled_apart_of_sizes (due m.cir from to) (due m.eir from to) m.cbs m.ebs;
  judged = λ s octets pre. committed_or_excess_of_sizes m.exact_fit m.cbs m.ebs s octets (counted m.aware pre);
}

pub never_betters : (m : Rfc4115View) → NeverBetters (rfc4115_rule m) (λ s. m.aware)
never_betters m = counted_never_betters (judged_packet m) (committed_or_excess_never_betters m.exact_fit) m.aware

pub blind : (m : Rfc4115View) → IgnoresPrecolours (rfc4115_rule m) (λ s. m.aware)
blind m s octets pre e = rw e refl

pub red_keeps : (m : Rfc4115View) → RedKeeps (rfc4115_rule m)
red_keeps m s octets pre = committed_or_excess_red_keeps m.exact_fit s octets (counted m.aware pre)
