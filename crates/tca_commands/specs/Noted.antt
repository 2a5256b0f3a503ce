-- The line of what an input holds beside reports.
use Rattle.std.specs.Prelude.{◌==◌, ◌&&◌, Bool, ℕ, List, [], ◌++◌, codes, sum_by, if◌then◌else◌}
use Rattle.std.specs.Fmt.{decimal}
use Rattle.tca_report.specs.declared.input.Notes.{Notes}

-- how many records are no reports, for whichever reason
abbrev pub left_out : List ℕ → ℕ
left_out counts = sum_by (λ n. n) counts

-- whether an input holds reports alone: each of its records is one, no message has a set of an unknown template, and no set was
-- skipped
abbrev pub holds_reports_alone : Notes → Bool
holds_reports_alone notes = (left_out notes.not_reports == 0) && ((notes.unplaced == 0) && (notes.skipped == 0))

-- the line of an input that holds something beside reports: the input's word, then how many records are no reports, how many
-- messages have a set of an unknown template, and how many sets were skipped
abbrev pub notes_line : List ℕ → Notes → List ℕ
notes_line word notes =
    if holds_reports_alone notes then []
    else codes "tcacct: " ++ (word ++ (codes ": notes " ++ (decimal (left_out notes.not_reports)
    ++ (codes " " ++ (decimal notes.unplaced ++ (codes " " ++ (decimal notes.skipped ++ codes "\n")))))))
