-- What is left of lists that are gone through together.
use Rattle.std.specs.Prelude.{ℕ, List, [], ◌∷◌, ◌++◌, drop}
use Rattle.tca_report.specs.report.Reports.{PacketReport}

-- what each list has behind so many of its reports, one after another; a list without a number is left whole
unfoldable pub left_of : List (List PacketReport) → List ℕ → List PacketReport
left_of [] taken = []
left_of (list ∷ lists) [] = list ++ left_of lists []
left_of (list ∷ lists) (n ∷ taken) = drop n list ++ left_of lists taken
