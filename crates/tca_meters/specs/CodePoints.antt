-- The colours of the assured forwarding code points (RFC 2597 section 6).
use Rattle.std.specs.Prelude.{ℕ, ◌+◌, ◌*◌, ◌==◌, List, [], ◌∷◌, ◌++◌, map, if◌then◌else◌}
use Rattle.tca_meters.specs.declared.colour.Colour.{Colour}
use Rattle.tca_meters.specs.declared.colour.Colour.TheVariants.{Green, Yellow, Red}

-- each drop precedence with its colour
abbrev pub precedences : List (ℕ × Colour)
precedences = (1, Green) ∷ (2, Yellow) ∷ (3, Red) ∷ []

-- the code points of one class with their colours: class x and drop precedence y have 8 * x + 2 * y
abbrev pub class_points : ℕ → List (ℕ × Colour)
class_points x = map (λ y. (8 * x + 2 * y.0, y.1)) precedences

-- those of the four classes
abbrev pub assured_points : List (ℕ × Colour)
assured_points = class_points 1 ++ (class_points 2 ++ (class_points 3 ++ class_points 4))

-- the colour that a table has for a code point, and another where it has none
abbrev pub colour_among : List (ℕ × Colour) → ℕ → Colour → Colour
colour_among [] dscp other = other
colour_among (point ∷ points) dscp other = if dscp == point.0 then point.1 else colour_among points dscp other

-- the colour of a packet of this code point, before it is metered
abbrev pub precolour : ℕ → Colour → Colour
precolour = colour_among assured_points
