-- A statement as JSON: one compact object and a line feed, members in alphabetical order.
use Rattle.std.specs.Prelude.{◌≡◌, ℕ, List, [], ◌∷◌, ◌++◌, ◌*◌, codes, map, decimal, Option, Some, None}
use Rattle.std.specs.List.{flat_map}
use Rattle.tca_figures.specs.Figures.{Stated, StatedAccount}
use Rattle.tca_figures.specs.declared.figures.ColourFigures.{ColourFigures}
use Rattle.tca_figures.specs.declared.figures.Figure.{Figure}
use Rattle.tca_figures.specs.declared.figures.SpanFigures.{SpanFigures}
use Rattle.tcatool.specs.Moments.{moment_text}

-- octets and packets
abbrev pub figure_json : Figure → List ℕ
figure_json f = codes "{\"octets\":" ++ (decimal f.octets ++ (codes ",\"packets\":" ++ (decimal f.packets ++ codes "}")))

-- those of each colour
unfoldable pub colours_json : ColourFigures → List ℕ
colours_json c =
    codes "{\"green\":" ++ (figure_json c.green ++ (codes ",\"red\":" ++ (figure_json c.red ++ (codes ",\"yellow\":" ++ (figure_json c.yellow ++ codes "}")))))

-- a text in quotes, of octets that ask for no escape
abbrev pub text_json : List ℕ → List ℕ
text_json text = codes "\"" ++ (text ++ codes "\"")

-- a moment's date and time, and `null` past the last second that is shown
abbrev pub shown_json : Option (List ℕ) → List ℕ
shown_json None = codes "null"
shown_json (Some text) = text_json text

abbrev pub start_json : ℕ → List ℕ
start_json moment = shown_json (moment_text moment)

-- a period with its first moment, under the length of a period
unfoldable pub span_json : ℕ → SpanFigures → List ℕ
span_json period s =
    codes "{\"green\":" ++ (figure_json s.sums.green
    ++ (codes ",\"index\":" ++ (decimal s.index
    ++ (codes ",\"red\":" ++ (figure_json s.sums.red
    ++ (codes ",\"start\":" ++ (start_json (s.index * period)
    ++ (codes ",\"yellow\":" ++ (figure_json s.sums.yellow ++ codes "}")))))))))

-- further items of a list, each behind a comma
abbrev pub further_json : List (List ℕ) → List ℕ
further_json items = flat_map (λ item. codes "," ++ item) items

-- the items of a list, with a comma between
abbrev pub list_json : List (List ℕ) → List ℕ
list_json [] = codes "[]"
list_json (item ∷ items) = codes "[" ++ (item ++ (further_json items ++ codes "]"))

-- an account: its name, its periods and its total
unfoldable pub account_json : ℕ → StatedAccount → List ℕ
account_json period a =
    codes "{\"name\":\"" ++ (a.name
    ++ (codes "\",\"spans\":" ++ (list_json (map (span_json period) a.spans)
    ++ (codes ",\"total\":" ++ (colours_json a.total ++ codes "}")))))

-- the octets of a statement as JSON
abbrev pub json_octets : Stated → List ℕ
json_octets s =
    codes "{\"accounts\":" ++ (list_json (map (account_json s.period) s.accounts)
    ++ (codes ",\"disputed\":" ++ (decimal s.disputed
    ++ (codes ",\"format\":1,\"period\":" ++ (decimal s.period
    ++ (codes ",\"reports\":" ++ (decimal s.reports
    ++ (codes ",\"unassigned\":" ++ (decimal s.unassigned ++ codes "}\n")))))))))

abbrev pub IsJson : Stated → List ℕ → Type 0
IsJson s text = text ≡ json_octets s
