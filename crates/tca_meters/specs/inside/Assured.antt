-- The code points of assured forwarding by arithmetic. Cited inside this crate alone.
use Rattle.std.specs.Prelude.{ℕ, ◌%◌, ◌==◌, Bool, not, ◌&&◌, nat_lt, nat_le, if◌then◌else◌}
use Rattle.tca_meters.specs.declared.colour.Colour.{Colour}
use Rattle.tca_meters.specs.declared.colour.Colour.TheVariants.{Green, Yellow, Red}

-- the colour of a drop precedence, doubled
abbrev pub colour_of : ℕ → Colour
colour_of doubled = if doubled == 2 then Green else (if doubled == 4 then Yellow else Red)

-- whether a code point has one of the four classes and one of the three drop precedences
abbrev pub is_assured : ℕ → Bool
is_assured dscp = nat_le 8 dscp && (nat_lt dscp 40 && (not (dscp % 8 == 0) && (dscp % 2 == 0)))
