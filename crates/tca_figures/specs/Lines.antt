-- The lines of a statement, without their line feeds.
use Rattle.std.specs.Prelude.{◌≡◌, ℕ, List, [], ◌∷◌, ◌++◌, codes, map, decimal}
use Rattle.std.specs.List.{flat_map}
use Rattle.tca_figures.specs.Figures.{IsStatement, Stated, StatedAccount}
use Rattle.tca_figures.specs.declared.figures.ColourFigures.{ColourFigures}
use Rattle.tca_figures.specs.declared.figures.Figure.{Figure}
use Rattle.tca_figures.specs.declared.figures.SpanFigures.{SpanFigures}

-- octets and packets, with a space between
abbrev pub figure_fields : Figure → List ℕ
figure_fields f = decimal f.octets ++ (32 ∷ decimal f.packets)

-- octets and packets of green, of yellow and of red, with a space between
abbrev pub colour_fields : ColourFigures → List ℕ
colour_fields c =
    decimal c.green.octets ++ (32 ∷ (decimal c.green.packets
    ++ (32 ∷ (decimal c.yellow.octets ++ (32 ∷ (decimal c.yellow.packets
    ++ (32 ∷ (decimal c.red.octets ++ (32 ∷ decimal c.red.packets)))))))))

-- a line of a word and a number
abbrev pub number_line : List ℕ → ℕ → List ℕ
number_line word n = word ++ (32 ∷ decimal n)

abbrev pub title_line : List ℕ
title_line = codes "tcacct statement 1"

-- the line of an account's name
abbrev pub name_line : List ℕ → List ℕ
name_line name = codes "account " ++ name

-- the line of all of an account's packets
abbrev pub total_line : ColourFigures → List ℕ
total_line total = codes "total " ++ colour_fields total

-- the line of a period
abbrev pub span_line : SpanFigures → List ℕ
span_line span = codes "span " ++ (decimal span.index ++ (32 ∷ colour_fields span.sums))

abbrev pub end_line : List ℕ
end_line = codes "end"

-- the lines of an account: its name, its total, and its periods
abbrev pub account_lines : StatedAccount → List (List ℕ)
account_lines a = name_line a.name ∷ total_line a.total ∷ map span_line a.spans

-- the lines in front of those of the accounts
abbrev pub opening_lines : Stated → List (List ℕ)
opening_lines s =
    title_line
    ∷ number_line (codes "period") s.period
    ∷ number_line (codes "reports") s.reports
    ∷ number_line (codes "disputed") s.disputed
    ∷ number_line (codes "unassigned") s.unassigned
    ∷ []

-- the lines of a statement
abbrev pub statement_lines : Stated → List (List ℕ)
statement_lines s = opening_lines s ++ (flat_map account_lines s.accounts ++ end_line ∷ [])

-- the octets of lines, each with its line feed
abbrev pub octets_of : List (List ℕ) → List ℕ
octets_of lines = flat_map (λ line. line ++ 10 ∷ []) lines

-- the octets of a statement
abbrev pub statement_octets : Stated → List ℕ
statement_octets s = octets_of (statement_lines s)

-- octets that are those of a statement in form
pub record IsTextOf (octets : List ℕ) (s : Stated) : Type 0 where
  pub octets_are : octets ≡ statement_octets s
  pub in_form : IsStatement s
