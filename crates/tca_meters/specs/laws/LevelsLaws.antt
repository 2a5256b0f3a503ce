-- What tokens and packets leave true of two buckets.
use Rattle.std.specs.Prelude.{◌≡◌, ℕ, ◌≤◌, Bool, true, false, ◌&&◌, not, IsTrue, if◌then◌else◌, refl}
use Rattle.std.proofs.Common.{ap, ◌∙◌, arith}
use Rattle.tca_buckets.specs.Tokens.{due}
use Rattle.tca_buckets.specs.Buckets.{TokenBucket, gain, repeated, fits, after_spending}
use Rattle.tca_buckets.proofs.Due.{due_parts}
use Rattle.tca_buckets.proofs.Steps.{repeated_parts, repeated_gain_of_size, full_bucket_of_size, after_spending_of_size}
use Rattle.tca_meters.specs.declared.colour.Colour.{Colour}
use Rattle.tca_meters.specs.declared.colour.Colour.TheVariants.{Green, Yellow, Red}
use Rattle.tca_meters.specs.declared.levels.Levels.{Levels}
use Rattle.tca_meters.specs.Colours.{colour_number, is_green, is_red, counted}
use Rattle.tca_meters.specs.Levels.{full_levels, filled_apart, committed_or_excess, AreOfSizes}

pub full_levels_of_sizes : (committed excess : ℕ) → AreOfSizes (full_levels committed excess) committed excess
full_levels_of_sizes committed excess = record { committed = full_bucket_of_size committed; excess = full_bucket_of_size excess }

-- one bucket at a rate, in two adjoining intervals and in the whole
gain_parts : (rate a b c : ℕ) (t : TokenBucket) → a ≤ b → b ≤ c → repeated (due rate b c) gain (repeated (due rate a b) gain t) ≡ repeated (due rate a c) gain t
gain_parts rate a b c t h k = repeated_parts gain (due rate a b) (due rate b c) t ∙ ap (λ n. repeated n gain t) (due_parts rate a b c h k)

pub filled_apart_parts : (cir eir a b c : ℕ) (s : Levels) → a ≤ b → b ≤ c
    → filled_apart (due cir b c) (due eir b c) (filled_apart (due cir a b) (due eir a b) s) ≡ filled_apart (due cir a c) (due eir a c) s
filled_apart_parts cir eir a b c s h k = λ i. record { committed = gain_parts cir a b c s.committed h k i; excess = gain_parts eir a b c s.excess h k i }

pub filled_apart_of_sizes : (n m cbs ebs : ℕ) (s : Levels) → AreOfSizes s cbs ebs → AreOfSizes (filled_apart n m s) cbs ebs
filled_apart_of_sizes n m cbs ebs s h = record { committed = repeated_gain_of_size n cbs s.committed h.committed; excess = repeated_gain_of_size m ebs s.excess h.excess }

-- what a packet gives where it may take committed tokens, and else excess tokens
abbrev given : Levels → ℕ → Bool → Bool → Colour × Levels
given s octets committed excess =
    if committed then (Green, record s { committed = after_spending s.committed octets })
    else (if excess then (Yellow, record s { excess = after_spending s.excess octets }) else (Red, s))

pub committed_or_excess_of_sizes : (exact : Bool) (cbs ebs : ℕ) (s : Levels) (octets : ℕ) (pre : Colour) → AreOfSizes s cbs ebs → AreOfSizes (committed_or_excess exact s octets pre).1 cbs ebs
committed_or_excess_of_sizes exact cbs ebs s octets pre h =
    elim (is_green pre && fits s.committed octets exact) as (λ g. AreOfSizes (given s octets g (not (is_red pre) && fits s.excess octets exact)).1 cbs ebs) [
      | true ↦ record { committed = after_spending_of_size s.committed cbs octets h.committed; excess = h.excess }
      | false ↦ elim (not (is_red pre) && fits s.excess octets exact) as (λ y. AreOfSizes (given s octets false y).1 cbs ebs) [
        | true ↦ record { committed = h.committed; excess = after_spending_of_size s.excess ebs octets h.excess }
        | false ↦ h
      ]
    ]

pub committed_or_excess_never_betters : (exact : Bool) (s : Levels) (octets : ℕ) (pre : Colour) → colour_number pre ≤ colour_number (committed_or_excess exact s octets pre).0
committed_or_excess_never_betters exact s octets Green = omega arith
committed_or_excess_never_betters exact s octets Yellow = elim (fits s.excess octets exact) as (λ y. 1 ≤ colour_number (given s octets false y).0) [ true ↦ omega arith | false ↦ omega arith ]
committed_or_excess_never_betters exact s octets Red = omega arith

red_keeps_all : (s : Levels) (octets : ℕ) (g y : Bool) → (given s octets g y).0 ≡ Red → (given s octets g y).1 ≡ s
red_keeps_all s octets true y e = absurd cc
red_keeps_all s octets false true e = absurd cc
red_keeps_all s octets false false e = refl

pub committed_or_excess_red_keeps : (exact : Bool) (s : Levels) (octets : ℕ) (pre : Colour) → (committed_or_excess exact s octets pre).0 ≡ Red → (committed_or_excess exact s octets pre).1 ≡ s
committed_or_excess_red_keeps exact s octets pre = red_keeps_all s octets (is_green pre && fits s.committed octets exact) (not (is_red pre) && fits s.excess octets exact)

-- where precolours count, what holds of each precolour holds of the one that counts
pub counted_never_betters : (judged : Levels → ℕ → Colour → Colour × Levels) → ((s : Levels) (octets : ℕ) (pre : Colour) → colour_number pre ≤ colour_number (judged s octets pre).0)
    → (aware : Bool) (s : Levels) (octets : ℕ) (pre : Colour) → IsTrue aware → colour_number pre ≤ colour_number (judged s octets (counted aware pre)).0
counted_never_betters judged never true s octets pre _ = never s octets pre
counted_never_betters judged never false s octets pre h = absurd cc
