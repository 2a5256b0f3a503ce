-- What the commands print.
use Rattle.std.specs.Prelude.{ℕ, List, ◌++◌, codes, slice_index}
use Rattle.std.specs.Fmt.{decimal}
use Rattle.tca_accounts.specs.Sums.{ColourSums}
use Rattle.tca_audit.specs.declared.verdict.Verdict.{Verdict}
use Rattle.tca_audit.specs.declared.verdict.Verdict.TheVariants.{Agrees, Differs}

-- a line of a colour's name, its octets and its packets, with a space between
abbrev pub colour_line : List ℕ → ℕ → ℕ → List ℕ
colour_line name octets packets = name ++ (codes " " ++ (decimal octets ++ (codes " " ++ (decimal packets ++ codes "\n"))))

-- the lines of `meter`: octets and packets of green, of yellow and of red
abbrev pub meter_text : ColourSums → List ℕ
meter_text s =
    (colour_line (codes "green") (slice_index s.octets 0) (slice_index s.packets 0)
    ++ colour_line (codes "yellow") (slice_index s.octets 1) (slice_index s.packets 1))
    ++ colour_line (codes "red") (slice_index s.octets 2) (slice_index s.packets 2)

-- the line of `combine`
abbrev pub combine_text : ℕ → List ℕ
combine_text reports = codes "reports " ++ (decimal reports ++ codes "\n")

-- the line of `audit`
abbrev pub audit_text : Verdict → List ℕ
audit_text Agrees = codes "agrees\n"
audit_text (Differs at) = codes "differs at " ++ (decimal at ++ codes "\n")
