-- What a call does to the files of a folder, one for each observation domain, where they are known.
use Rattle.std.specs.Prelude.{◌≡◌, ℕ, ◌==◌, Bool, true, false, ⊤, List, [], ◌++◌, Option, Some, None, option_map}
use Rattle.tca_split.specs.Surveys.{is_among}

-- the octets of each domain's file, where there is one
abbrev pub Files : Type 0
Files = ℕ → Option (List ℕ)

-- the files of all domains but this one are as they were
abbrev pub OthersStay : ℕ → Files → Files → Type 0
OthersStay domain old new = (d : ℕ) → (d == domain) ≡ false → new d ≡ old d

-- there was no file of this domain, and there is an empty one now
abbrev pub Makes : ℕ → Option Files → Option Files → Type 0
Makes domain None new = ⊤
Makes domain (Some old) None = ⊥
Makes domain (Some old) (Some new) = (old domain ≡ None) × (new domain ≡ Some []) × OthersStay domain old new

-- the file of this domain has these octets more at its end
abbrev pub Lengthens : ℕ → List ℕ → Option Files → Option Files → Type 0
Lengthens domain octets None new = ⊤
Lengthens domain octets (Some old) None = ⊥
Lengthens domain octets (Some old) (Some new) = (new domain ≡ option_map (λ xs. xs ++ octets) (old domain)) × OthersStay domain old new

-- a domain's file, where an empty one was made for it and there was none, or as it was
abbrev pub CreatesOne : Bool → Option (List ℕ) → Option (List ℕ) → Type 0
CreatesOne true before now = (before ≡ None) × (now ≡ Some [])
CreatesOne false before now = now ≡ before

-- there was no file of these domains, and there is an empty one of each now
abbrev pub Creates : List ℕ → Option Files → Option Files → Type 0
Creates domains None new = ⊤
Creates domains (Some old) None = ⊥
Creates domains (Some old) (Some new) = (d : ℕ) → CreatesOne (is_among d domains) (old d) (new d)
