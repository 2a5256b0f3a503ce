-- The sum of the statements of texts, one after the other.
use Rattle.std.specs.Prelude.{◌≡◌, List, [], ◌∷◌, ℕ}
use Rattle.tca_figures.specs.Figures.{Stated}
use Rattle.tca_figures.specs.Lines.{IsTextOf}
use Rattle.tca_figures.specs.Sums.{AreAlike, Fits, added}

-- each of these texts is a statement of the period and the accounts of a sum so far, and the numbers of each sum have 64 bits; this is the
-- sum with all of them added, one after the other
unfoldable pub Adds : Stated → List (List ℕ) → Stated → Type 0
Adds held [] sum = sum ≡ held
Adds held (text ∷ texts) sum = (more : Stated) × IsTextOf text more × AreAlike held more × Fits (added held more) × Adds (added held more) texts sum

-- the sum of the statements of these texts, of which there is one at least
abbrev pub IsSumOf : List (List ℕ) → Stated → Type 0
IsSumOf [] sum = ⊥
IsSumOf (text ∷ texts) sum = (first : Stated) × IsTextOf text first × Adds first texts sum
