-- Octets that are made of parts, one after the other.
use Rattle.std.specs.Prelude.{◌≡◌, ⊤, ℕ, List, [], ◌∷◌, ◌++◌}

-- The octets are one thing's own, and behind them stand those of the others.
pub record StartsWith {X : Type 0} (Is : X → List ℕ → Type 0) (x : X) (Behind : List ℕ → Type 0) (octets : List ℕ) : Type 0 where
  pub own : List ℕ
  pub rest : List ℕ
  pub whole : octets ≡ own ++ rest
  pub is : Is x own
  pub behind : Behind rest

-- The octets are those of the things in their order, and nothing else.
abbrev pub InTurn : {X : Type 0} → (X → List ℕ → Type 0) → List X → List ℕ → Type 0
InTurn Is [] octets = octets ≡ []
InTurn Is (x ∷ xs) octets = StartsWith Is x (InTurn Is xs) octets

-- The things stand in their order at the front of the octets, whatever is behind them.
abbrev pub BeginsWith : {X : Type 0} → (X → List ℕ → Type 0) → List X → List ℕ → Type 0
BeginsWith Is [] octets = ⊤
BeginsWith Is (x ∷ xs) octets = StartsWith Is x (BeginsWith Is xs) octets
