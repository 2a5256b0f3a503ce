-- Which lines may follow one another in a statement, and what they say.
use Rattle.std.specs.Prelude.{◌≡◌, ◌⊎◌, ◌<◌, ◌^◌, ℕ, Bool, true, false, List, [], ◌∷◌, ◌++◌, codes, length, slice_get, Some, ◌-◌}
use Rattle.std.specs.List.{AllByRecursion, list_any}
use Rattle.std.specs.Str.{bytes_eq}
use Rattle.tca_report.specs.report.Reports.{time_end}
use Rattle.tca_accounts.specs.Plans.{is_name, most_accounts}
use Rattle.tca_figures.specs.Figures.{AreFigures, IsSpan, Stated, StatedAccount, named, IsSummed}
use Rattle.tca_figures.specs.Lines.{end_line, name_line, number_line, span_line, title_line, total_line}
use Rattle.tca_figures.specs.declared.figures.ColourFigures.{ColourFigures}
use Rattle.tca_figures.specs.declared.figures.SpanFigures.{SpanFigures}
use Rattle.tca_figures.specs.declared.reader.Stage.{Stage}
use Rattle.tca_figures.specs.declared.reader.Stage.TheVariants.{Title, Period, Reports, Disputed, Unassigned, Account, Total, Spans, Ended}

-- what the lines so far say: which kind of line is next, the statement with the accounts whose lines are all read, and the account whose
-- lines are being read
pub record Progress : Type 0 where
  pub stage : Stage
  pub stated : Stated
  pub account : StatedAccount

-- nothing is read
abbrev pub unread : Progress
unread = record {
  stage = Title;
  stated = record { period = 0; reports = 0; disputed = 0; unassigned = 0; accounts = [] };
  account = named [];
}

-- whether an account has this name
abbrev pub has_name : List ℕ → List StatedAccount → Bool
has_name name accounts = list_any (λ a. bytes_eq a.name name) accounts

-- an account of this name comes next
abbrev pub opened : List ℕ → Progress → Progress
opened name p = record p { stage = Total; account = named name }

-- the line of the name of one account more: there are at most 256, and no two have one name
pub record IsOpened (p : Progress) (line : List ℕ) (q : Progress) : Type 0 where
  pub name : List ℕ
  pub line_is : line ≡ name_line name
  pub is_name : is_name name ≡ true
  pub new : has_name name p.stated.accounts ≡ false
  pub few : length p.stated.accounts < most_accounts
  pub next : q ≡ opened name p

-- all lines of the account are read
abbrev pub closed : Progress → Progress
closed p = record p { stated = record p.stated { accounts = p.stated.accounts ++ p.account ∷ [] } }

-- and no more lines follow
abbrev pub ended : Progress → Progress
ended p = record (closed p) { stage = Ended; account = named [] }

-- a period behind the last one so far
abbrev pub IsBehind : ℕ → List SpanFigures → Type 0
IsBehind index spans = (s : SpanFigures) → slice_get spans (length spans - 1) ≡ Some s → s.index < index

-- the line of one period more
pub record IsPeriodRead (p : Progress) (line : List ℕ) (q : Progress) : Type 0 where
  pub span : SpanFigures
  pub line_is : line ≡ span_line span
  pub is_span : IsSpan p.stated.period span
  pub behind : IsBehind span.index p.account.spans
  pub next : q ≡ record p { account = record p.account { spans = p.account.spans ++ span ∷ [] } }

-- the line of a number of 64 bits
pub record IsNumberRead (word : List ℕ) (line : List ℕ) (n : ℕ) : Type 0 where
  pub line_is : line ≡ number_line word n
  pub small : n < 2 ^ 64

-- what a line says behind those before it, by the kind of line that is next
abbrev pub FollowsAt : Stage → Progress → List ℕ → Progress → Type 0
FollowsAt Title p line q = (line ≡ title_line) × (q ≡ record p { stage = Period })
FollowsAt Period p line q = (n : ℕ) × (line ≡ number_line (codes "period") n) × (0 < n) × (n < time_end)
    × (q ≡ record p { stage = Reports; stated = record p.stated { period = n } })
FollowsAt Reports p line q = (n : ℕ) × IsNumberRead (codes "reports") line n
    × (q ≡ record p { stage = Disputed; stated = record p.stated { reports = n } })
FollowsAt Disputed p line q = (n : ℕ) × IsNumberRead (codes "disputed") line n
    × (q ≡ record p { stage = Unassigned; stated = record p.stated { disputed = n } })
FollowsAt Unassigned p line q = (n : ℕ) × IsNumberRead (codes "unassigned") line n
    × (q ≡ record p { stage = Account; stated = record p.stated { unassigned = n } })
FollowsAt Account p line q = IsOpened p line q
FollowsAt Total p line q = (c : ColourFigures) × (line ≡ total_line c) × AreFigures c
    × (q ≡ record p { stage = Spans; account = record p.account { total = c } })
FollowsAt Spans p line q = IsPeriodRead p line q ⊎ (IsOpened (closed p) line q
    ⊎ ((line ≡ end_line) × (q ≡ ended p)))
FollowsAt Ended p line q = ⊥

-- a line may stand behind those before it, and this is what they say with it
abbrev pub Follows : Progress → List ℕ → Progress → Type 0
Follows p line q = FollowsAt p.stage p line q

-- of each account whose lines are all read the total is the sum of its periods
abbrev pub IsSound : Progress → Type 0
IsSound p = AllByRecursion IsSummed p.stated.accounts

-- a line may stand there and ends those of an account whose total isn't the sum of its periods
pub record IsWrongSum (p : Progress) (line : List ℕ) : Type 0 where
  pub next : Progress
  pub follows : Follows p line next
  pub ends : (q : Progress) → Follows p line q → q.stated.accounts ≡ p.stated.accounts ++ p.account ∷ []
  pub wrong : IsSummed p.account → ⊥

-- whether memory is taken for a line of this kind: for the name of an account, for a period, and for the account that the last line ends
abbrev pub is_kept : Stage → Bool
is_kept Account = true
is_kept Spans = true
is_kept other = false

-- a line may stand there, ends those of no account whose total isn't the sum of its periods, and memory is taken for it
pub record IsKept (p : Progress) (line : List ℕ) : Type 0 where
  pub kept : is_kept p.stage ≡ true
  pub next : Progress
  pub follows : Follows p line next
  pub sound : IsSound p → IsSound next

-- lines that may follow one another, from what was read before to what is read with them
unfoldable pub Follow : Progress → List (List ℕ) → Progress → Type 0
Follow p [] q = q ≡ p
Follow p (line ∷ lines) q = (m : Progress) × Follows p line m × Follow m lines q
