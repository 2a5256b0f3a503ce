-- What two equal answers have.
use Rattle.std.proofs.Common.{◌≡◌, ℕ, Some}

pub same_number : (a b : ℕ) → Some a ≡ Some b → a ≡ b
same_number a b e = cc
