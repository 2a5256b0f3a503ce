-- A statement as CSV (RFC 4180 section 2), but with line feeds alone: its rows, without their line feeds. No field asks for quotes.
use Rattle.std.specs.Prelude.{◌≡◌, ℕ, List, [], ◌∷◌, ◌++◌, ◌*◌, codes, map, decimal, unwrap_or}
use Rattle.std.specs.List.{flat_map}
use Rattle.tca_figures.specs.Figures.{Stated, StatedAccount}
use Rattle.tca_figures.specs.Lines.{octets_of}
use Rattle.tca_figures.specs.declared.figures.ColourFigures.{ColourFigures}
use Rattle.tca_figures.specs.declared.figures.Figure.{Figure}
use Rattle.tca_figures.specs.declared.figures.SpanFigures.{SpanFigures}
use Rattle.tcatool.specs.Moments.{moment_text}

abbrev pub header_row : List ℕ
header_row = codes "account,span,start,green_octets,green_packets,yellow_octets,yellow_packets,red_octets,red_packets"

-- octets and packets, with a comma between
abbrev pub figure_cells : Figure → List ℕ
figure_cells f = decimal f.octets ++ (44 ∷ decimal f.packets)

-- those of green, of yellow and of red
abbrev pub colour_cells : ColourFigures → List ℕ
colour_cells c = figure_cells c.green ++ (44 ∷ (figure_cells c.yellow ++ (44 ∷ figure_cells c.red)))

-- a moment's date and time, and nothing past the last second that is shown
abbrev pub start_cell : ℕ → List ℕ
start_cell moment = unwrap_or (moment_text moment) []

-- all of an account's packets: no period and no start
abbrev pub total_row : StatedAccount → List ℕ
total_row a = a.name ++ (codes ",,," ++ colour_cells a.total)

-- a period of an account with its first moment, under the length of a period
abbrev pub span_row : ℕ → List ℕ → SpanFigures → List ℕ
span_row period name span = name ++ (44 ∷ (decimal span.index ++ (44 ∷ (start_cell (span.index * period) ++ (44 ∷ colour_cells span.sums)))))

-- an account: its total, and its periods
abbrev pub account_rows : ℕ → StatedAccount → List (List ℕ)
account_rows period a = total_row a ∷ map (span_row period a.name) a.spans

-- the rows of a statement
abbrev pub table_rows : Stated → List (List ℕ)
table_rows s = header_row ∷ flat_map (account_rows s.period) s.accounts

-- the octets of a statement as CSV
abbrev pub table_octets : Stated → List ℕ
table_octets s = octets_of (table_rows s)

abbrev pub IsTable : Stated → List ℕ → Type 0
IsTable s text = text ≡ table_octets s
