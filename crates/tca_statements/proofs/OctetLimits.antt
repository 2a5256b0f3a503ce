-- The octets of sums as an amount.
use Rattle.std.proofs.Common.{◌≡◌, ◌∙◌, ◌≤◌, ℕ, List, to_z, w64, arith, ap}
use Rattle.std.proofs.lemmas.Int.{ints}
use Rattle.std.specs.Prelude.{pos, slice_index, FitsSigned}
use Rattle.tca_meters.specs.declared.colour.Colour.{Colour}
use Rattle.tca_meters.specs.declared.colour.Colour.TheVariants.{Green, Yellow, Red}
use Rattle.tca_meters.specs.Colours.{colour_number}
use Rattle.tca_accounts.specs.Sums.{AreInRange, ColourSums}
use Rattle.tca_statements.specs.Issues.{AreOctets, IsOctets, amount_of}
use Rattle.tca_statements.proofs.AmountSums.{same_amounts}

-- no colour has more than a colour's limit
limit : (sums : ColourSums) → AreInRange sums → (c : Colour) → slice_index sums.octets (colour_number c) ≤ 275041484800
limit sums range c = omega (arith, range.octets c, range.packets c)

fits : (n : ℕ) → n ≤ 275041484800 → FitsSigned w64 (pos n)
fits n few = omega (arith, ints)

kept : (n : ℕ) → n ≤ 275041484800 → to_z w64 n ≡ pos n
kept n few = omega (arith, ints)

is_octets : (n : ℕ) → n ≤ 275041484800 → IsOctets (to_z w64 n)
is_octets n few = (omega (arith, ints), omega (arith, ints))

module _ (sums : ColourSums) (range : AreInRange sums) (octets : List ℕ) (same : octets ≡ sums.octets) where
  below : (c : Colour) → slice_index octets (colour_number c) ≤ 275041484800
  below c = rw same (limit sums range c)

  -- so they fit a signed number of 64 bits
  pub octets_fit : (c : Colour) → FitsSigned w64 (pos (slice_index octets (colour_number c)))
  octets_fit c = fits _ (below c)

  -- the signed numbers are the amount
  pub amount_is : record { green = to_z w64 (slice_index octets 0); yellow = to_z w64 (slice_index octets 1); red = to_z w64 (slice_index octets 2) } ≡ amount_of sums
  amount_is = same_amounts _ _
      (kept _ (below Green) ∙ ap (λ xs. pos (slice_index xs 0)) same)
      (kept _ (below Yellow) ∙ ap (λ xs. pos (slice_index xs 1)) same)
      (kept _ (below Red) ∙ ap (λ xs. pos (slice_index xs 2)) same)

  -- within its limits
  pub amount_limits : AreOctets (record { green = to_z w64 (slice_index octets 0); yellow = to_z w64 (slice_index octets 1); red = to_z w64 (slice_index octets 2) })
  amount_limits = (is_octets _ (below Green), is_octets _ (below Yellow), is_octets _ (below Red))
