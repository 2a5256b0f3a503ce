-- Lines of CSV whose fields need no quotes (RFC 4180 section 2), each ended by a line feed alone.
use Rattle.std.specs.Prelude.{ℕ, ◌≤◌, List, [], ◌∷◌, ◌++◌, codes, length}
use Rattle.std.specs.List.{flat_map}
use Rattle.std.specs.Fmt.{decimal}
use Rattle.tcatool.specs.declared.cell.Cell.{Cell}
use Rattle.tcatool.specs.declared.cell.Cell.TheVariants.{Number, Text}

-- the first field, each further one behind a comma, and a line feed
abbrev pub csv_line : List (List ℕ) → List ℕ
csv_line [] = codes "\n"
csv_line (first ∷ others) = first ++ (flat_map (λ other. codes "," ++ other) others ++ codes "\n")

-- a header, and a line for each of these
abbrev pub csv_text : {A : Type 0} → List ℕ → (A → List ℕ) → List A → List ℕ
csv_text header line all = header ++ flat_map line all

-- a number in decimal, or a text
abbrev pub cell_text : Cell → List ℕ
cell_text (Number n) = decimal n
cell_text (Text t) = t.now

-- a text of a field has at most 32 octets
abbrev pub IsShort : Cell → Type 0
IsShort (Number n) = Unit {0}
IsShort (Text t) = length t.now ≤ 32
