-- The laws that the meter of RFC 2697 keeps, with their proofs.
use Rattle.std.specs.Prelude.{ℕ, true, refl}
use Rattle.std.proofs.Common.{ap, ◌∙◌}
use Rattle.tca_buckets.specs.Tokens.{due}
use Rattle.tca_buckets.specs.Buckets.{repeated, spill}
use Rattle.tca_buckets.proofs.Due.{due_parts}
use Rattle.tca_buckets.proofs.Steps.{repeated_parts, repeated_spill_of_size}
use Rattle.tca_meters.specs.declared.levels.Levels.{Levels}
use Rattle.tca_meters.specs.Colours.{counted}
use Rattle.tca_meters.specs.MeterLaws.{IsAdditive, KeepsSizes, NeverBetters, IgnoresPrecolours, RedKeeps}
use Rattle.tca_meters.specs.laws.LevelsLaws.{full_levels_of_sizes, committed_or_excess_of_sizes, committed_or_excess_never_betters, committed_or_excess_red_keeps, counted_never_betters}
use Rattle.tca_meters.specs.SrTcm.{SrTcmView, srtcm_rule, levels, judged_packet, IsWithinSizes}

pub additive : (m : SrTcmView) → IsAdditive (srtcm_rule m)
additive m a b c s h k =
    ap levels (repeated_parts spill (due m.cir a b) (due m.cir b c) (s.committed, s.excess) ∙ ap (λ n. repeated n spill (s.committed, s.excess)) (due_parts m.cir a b c h k))

filled_within : (m : SrTcmView) (from to : ℕ) (s : Levels) → IsWithinSizes m s → IsWithinSizes m ((srtcm_rule m).filled from to s)
filled_within m from to s h =
    let both = repeated_spill_of_size (due m.cir from to) m.cbs m.ebs (s.committed, s.excess) (h.committed, h.excess) in
    record { committed = both.0; excess = both.1 }

pub sizes : (m : SrTcmView) → KeepsSizes (srtcm_rule m) (IsWithinSizes m)
sizes m = record {
  opening = full_levels_of_sizes m.cbs m.ebs;
  filled = filled_within m;
  judged = λ s octets pre. committed_or_excess_of_sizes true m.cbs m.ebs s octets (counted m.aware pre);
}

pub never_betters : (m : SrTcmView) → NeverBetters (srtcm_rule m) (λ s. m.aware)
never_betters m = counted_never_betters judged_packet (committed_or_excess_never_betters true) m.aware

pub blind : (m : SrTcmView) → IgnoresPrecolours (srtcm_rule m) (λ s. m.aware)
blind m s octets pre e = rw e refl

pub red_keeps : (m : SrTcmView) → RedKeeps (srtcm_rule m)
red_keeps m s octets pre = committed_or_excess_red_keeps true s octets (counted m.aware pre)
