-- What all meters keep, whatever their rule is.
use Rattle.std.specs.Prelude.{◌≡◌, ℕ, ◌≤◌, Bool, false, IsTrue}
use Rattle.tca_meters.specs.declared.colour.Colour.{Colour}
use Rattle.tca_meters.specs.declared.colour.Colour.TheVariants.{Green, Red}
use Rattle.tca_meters.specs.Colours.{colour_number}
use Rattle.tca_meters.specs.Packets.{Rule}

-- going on to a time in two steps is going on in one
abbrev pub IsAdditive : {S : Type 0} → Rule S → Type 0
IsAdditive {S = S} rule = (a b c : ℕ) (s : S) → a ≤ b → b ≤ c → rule.filled b c (rule.filled a b s) ≡ rule.filled a c s

-- the opening state is within the sizes, and tokens and packets lead from such states to such states
pub record KeepsSizes {S : Type 0} (rule : Rule S) (within : S → Type 0) : Type 0 where
  pub opening : within rule.opening
  pub filled : (from to : ℕ) (s : S) → within s → within (rule.filled from to s)
  pub judged : (s : S) (octets : ℕ) (pre : Colour) → within s → within (rule.judged s octets pre).1

-- where precolours count, no packet gets a better colour than it had
abbrev pub NeverBetters : {S : Type 0} → Rule S → (S → Bool) → Type 0
NeverBetters {S = S} rule aware = (s : S) (octets : ℕ) (pre : Colour) → IsTrue (aware s) → colour_number pre ≤ colour_number (rule.judged s octets pre).0

-- where they don't, each packet is treated as a green one
abbrev pub IgnoresPrecolours : {S : Type 0} → Rule S → (S → Bool) → Type 0
IgnoresPrecolours {S = S} rule aware = (s : S) (octets : ℕ) (pre : Colour) → aware s ≡ false → rule.judged s octets pre ≡ rule.judged s octets Green

-- a packet that gets red changes nothing
abbrev pub RedKeeps : {S : Type 0} → Rule S → Type 0
RedKeeps {S = S} rule = (s : S) (octets : ℕ) (pre : Colour) → (rule.judged s octets pre).0 ≡ Red → (rule.judged s octets pre).1 ≡ s
