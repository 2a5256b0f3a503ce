-- The colours of packets, by number.
use Rattle.std.specs.Prelude.{ℕ, Bool, true, false, if◌then◌else◌}
use Rattle.tca_meters.specs.declared.colour.Colour.{Colour}
use Rattle.tca_meters.specs.declared.colour.Colour.TheVariants.{Green, Yellow, Red}

-- from better to worse
abbrev pub colour_number : Colour → ℕ
colour_number Green = 0
colour_number Yellow = 1
colour_number Red = 2

-- whether a colour is the best
abbrev pub is_green : Colour → Bool
is_green Green = true
is_green Yellow = false
is_green Red = false

-- whether a colour is the worst
abbrev pub is_red : Colour → Bool
is_red Green = false
is_red Yellow = false
is_red Red = true

-- whether a colour is between them
abbrev pub is_yellow : Colour → Bool
is_yellow Green = false
is_yellow Yellow = true
is_yellow Red = false

-- the precolour that counts: a meter that isn't aware treats each packet as a green one
abbrev pub counted : Bool → Colour → Colour
counted aware pre = if aware then pre else Green
