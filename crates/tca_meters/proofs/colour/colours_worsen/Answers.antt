use Rattle.std.proofs.Common.{◌≡◌, refl}
use Rattle.std.specs.Ordering.{nat_cmp}
use Rattle.tca_meters.specs.Colours.{colour_number}
use Rattle.tca_meters.specs.declared.colour.Colour.{Colour}
use Rattle.tca_meters.specs.declared.colour.Colour.TheVariants.{Green, Yellow, Red}
use Rattle.tca_meters.specs.contracts.colour.ColourOrd.TheImpl as derived
use Rattle.tca_meters.proofs.colour.colours_worsen.Goals as goal

worsen : (a b : Colour) → (derived.ghosts).cmp a b ≡ nat_cmp (colour_number a) (colour_number b)
worsen Green Green = refl
worsen Green Yellow = refl
worsen Green Red = refl
worsen Yellow Green = refl
worsen Yellow Yellow = refl
worsen Yellow Red = refl
worsen Red Green = refl
worsen Red Yellow = refl
worsen Red Red = refl

pub returns : goal.returns
returns c = worsen
