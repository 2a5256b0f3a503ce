-- The laws that the meter of RFC 2698 keeps, with their proofs.
use Rattle.std.specs.Prelude.{◌≡◌, ℕ, ◌≤◌, Bool, true, false, ◌||◌, not, if◌then◌else◌, refl}
use Rattle.std.proofs.Common.{arith}
use Rattle.tca_buckets.specs.Tokens.{due}
use Rattle.tca_buckets.specs.Buckets.{fits, after_spending}
use Rattle.tca_buckets.proofs.Steps.{after_spending_of_size}
use Rattle.tca_meters.specs.declared.colour.Colour.{Colour}
use Rattle.tca_meters.specs.declared.colour.Colour.TheVariants.{Green, Yellow, Red}
use Rattle.tca_meters.specs.declared.levels.Levels.{Levels}
use Rattle.tca_meters.specs.Colours.{colour_number, is_yellow, is_red, counted}
use Rattle.tca_meters.specs.MeterLaws.{IsAdditive, KeepsSizes, NeverBetters, IgnoresPrecolours, RedKeeps}
use Rattle.tca_meters.specs.laws.LevelsLaws.{full_levels_of_sizes, filled_apart_parts, filled_apart_of_sizes, counted_never_betters}
use Rattle.tca_meters.specs.TrTcm.{TrTcmView, trtcm_rule, judged_packet, IsWithinSizes}

pub additive : (m : TrTcmView) → IsAdditive (trtcm_rule m)
additive m a b c s h k = filled_apart_parts m.cir m.pir a b c s h k

-- what a packet gives where it is red, and else where it is yellow
abbrev given : Levels → ℕ → Bool → Bool → Colour × Levels
given s octets red yellow =
    if red then (Red, s)
    else (if yellow then (Yellow, record s { excess = after_spending s.excess octets })
    else (Green, record { committed = after_spending s.committed octets; excess = after_spending s.excess octets }))

judged_within : (m : TrTcmView) (s : Levels) (octets : ℕ) (pre : Colour) → IsWithinSizes m s → IsWithinSizes m (judged_packet s octets pre).1
judged_within m s octets pre h =
    elim (is_red pre || not (fits s.excess octets true)) as (λ r. IsWithinSizes m (given s octets r (is_yellow pre || not (fits s.committed octets true))).1) [
      | true ↦ h
      | false ↦ elim (is_yellow pre || not (fits s.committed octets true)) as (λ y. IsWithinSizes m (given s octets false y).1) [
        | true ↦ record { committed = h.committed; excess = after_spending_of_size s.excess m.pbs octets h.excess }
        | false ↦ record { committed = after_spending_of_size s.committed m.cbs octets h.committed; excess = after_spending_of_size s.excess m.pbs octets h.excess }
      ]
    ]

pub sizes : (m : TrTcmView) → KeepsSizes (trtcm_rule m) (IsWithinSizes m)
sizes m = record {
  opening = full_levels_of_sizes m.cbs m.pbs;
  filled = λ from to. filled_apart_of_sizes (due m.cir from to) (due m.pir from to) m.cbs m.pbs;
  judged = λ s octets pre. judged_within m s octets (counted m.aware pre);
}

never_betters_aware : (s : Levels) (octets : ℕ) (pre : Colour) → colour_number pre ≤ colour_number (judged_packet s octets pre).0
never_betters_aware s octets Green = omega arith
never_betters_aware s octets Yellow = elim (not (fits s.excess octets true)) as (λ r. 1 ≤ colour_number (given s octets r true).0) [ true ↦ omega arith | false ↦ omega arith ]
never_betters_aware s octets Red = omega arith

pub never_betters : (m : TrTcmView) → NeverBetters (trtcm_rule m) (λ s. m.aware)
never_betters m = counted_never_betters judged_packet never_betters_aware m.aware

pub blind : (m : TrTcmView) → IgnoresPrecolours (trtcm_rule m) (λ s. m.aware)
blind m s octets pre e = rw e refl

red_keeps_all : (s : Levels) (octets : ℕ) (r y : Bool) → (given s octets r y).0 ≡ Red → (given s octets r y).1 ≡ s
red_keeps_all s octets true y e = refl
red_keeps_all s octets false true e = absurd cc
red_keeps_all s octets false false e = absurd cc

pub red_keeps : (m : TrTcmView) → RedKeeps (trtcm_rule m)
red_keeps m s octets pre =
    let pre_counted = counted m.aware pre in
    red_keeps_all s octets (is_red pre_counted || not (fits s.excess octets true)) (is_yellow pre_counted || not (fits s.committed octets true))
