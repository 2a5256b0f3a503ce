-- What lines that were read say, is a statement in form as far as they go.
use Rattle.std.proofs.Common.{◌≡◌, inl, inr, ◌<◌, ◌≤◌, ◌^◌, ◌++◌, ◌∷◌, [], ℕ, List, true, false, codes, length, arith, subst, sym, ap, refl, ◌∙◌, lit<}
use Rattle.std.specs.Prelude.{map}
use Rattle.std.specs.List.{AllByRecursion, IsDistinct, flat_map, join_with_byte}
use Rattle.std.specs.List.Sorted.{IsStrictlySortedBy}
use Rattle.std.proofs.lemmas.Grind.{flat_map-append}
use Rattle.std.proofs.lemmas.List.{append-nil, append_assoc, length-append, map-append}
use Rattle.std.proofs.lemmas.List.Splits.{join_with_byte-slice_split}
use Rattle.tca_figures.specs.Begun.{IsAccountButForTotal}
use Rattle.tca_figures.specs.Figures.{AreApart, AreFigures, Ascend, IsAccount, IsSpan, IsStatement, IsSummed, Stated, StatedAccount}
use Rattle.tca_figures.specs.Lines.{IsTextOf, account_lines, name_line, number_line, octets_of, span_line, statement_lines, title_line, total_line}
use Rattle.tca_figures.specs.inside.Progress.{Follow, FollowsAt, IsOpened, IsSound, Progress, closed, has_name, opened, unread}
use Rattle.tca_figures.specs.Reading.{whole_lines}
use Rattle.tca_figures.specs.inside.Refusals.{IsWhole}
use Rattle.tca_accounts.specs.Plans.{is_name}
use Rattle.tca_report.specs.report.Reports.{time_end}
use Rattle.tca_figures.specs.declared.figures.ColourFigures.{ColourFigures}
use Rattle.tca_figures.specs.declared.figures.SpanFigures.{SpanFigures}
use Rattle.tca_figures.specs.declared.reader.Stage.{Stage}
use Rattle.tca_figures.specs.declared.reader.Stage.TheVariants as stages
use Rattle.tca_figures.proofs.Ascending.{all_push, apart_push, ascend_push}

-- the lines in front of the first account
abbrev pub opening : Stated → List (List ℕ) → List (List ℕ)
opening s lines =
    title_line
    ∷ number_line (codes "period") s.period
    ∷ number_line (codes "reports") s.reports
    ∷ number_line (codes "disputed") s.disputed
    ∷ number_line (codes "unassigned") s.unassigned
    ∷ lines

abbrev pub lines_of : List StatedAccount → List (List ℕ)
lines_of accounts = flat_map account_lines accounts

-- the lines that say what is read, by the kind of line that is next
abbrev pub LinesAt : Stage → Progress → List (List ℕ)
LinesAt stages.Title p = []
LinesAt stages.Period p = title_line ∷ []
LinesAt stages.Reports p = title_line ∷ number_line (codes "period") p.stated.period ∷ []
LinesAt stages.Disputed p = title_line ∷ number_line (codes "period") p.stated.period ∷ number_line (codes "reports") p.stated.reports ∷ []
LinesAt stages.Unassigned p = title_line ∷ number_line (codes "period") p.stated.period ∷ number_line (codes "reports") p.stated.reports
    ∷ number_line (codes "disputed") p.stated.disputed ∷ []
LinesAt stages.Account p = opening p.stated []
LinesAt stages.Total p = opening p.stated (lines_of p.stated.accounts ++ name_line p.account.name ∷ [])
LinesAt stages.Spans p = opening p.stated (lines_of (p.stated.accounts ++ p.account ∷ []))
LinesAt stages.Ended p = statement_lines p.stated

abbrev pub AreSmall : Stated → Type 0
AreSmall s = (s.reports < 2 ^ 64) × (s.disputed < 2 ^ 64) × (s.unassigned < 2 ^ 64)

abbrev pub IsTimed : Stated → Type 0
IsTimed s = AreSmall s × (0 < s.period) × (s.period < time_end)

-- the accounts whose lines are all read
pub record AreClosed (s : Stated) : Type 0 where
  pub timed : IsTimed s
  pub few : length s.accounts ≤ 256
  pub accounts : AllByRecursion (IsAccountButForTotal s.period) s.accounts
  pub apart : AreApart s.accounts

-- and the one whose lines are being read
pub record IsOpen (p : Progress) : Type 0 where
  pub closed : AreClosed p.stated
  pub room : length p.stated.accounts < 256
  pub name : is_name p.account.name ≡ true
  pub new : has_name p.account.name p.stated.accounts ≡ false
  pub spans : AllByRecursion (IsSpan p.stated.period) p.account.spans
  pub ascend : Ascend p.account.spans

abbrev pub FormAt : Stage → Progress → Type 0
FormAt stages.Title p = (p.stated.accounts ≡ []) × AreSmall p.stated
FormAt stages.Period p = (p.stated.accounts ≡ []) × AreSmall p.stated
FormAt stages.Reports p = (p.stated.accounts ≡ []) × IsTimed p.stated
FormAt stages.Disputed p = (p.stated.accounts ≡ []) × IsTimed p.stated
FormAt stages.Unassigned p = (p.stated.accounts ≡ []) × IsTimed p.stated
FormAt stages.Account p = (p.stated.accounts ≡ []) × IsTimed p.stated
FormAt stages.Total p = IsOpen p × (p.account.spans ≡ [])
FormAt stages.Spans p = IsOpen p × AreFigures p.account.total
FormAt stages.Ended p = AreClosed p.stated × (0 < length p.stated.accounts)

abbrev pub Form : Progress → Type 0
Form p = FormAt p.stage p

abbrev pub Lines : Progress → List (List ℕ)
Lines p = LinesAt p.stage p

-- with one line more
abbrev pub IsNext : List (List ℕ) → List ℕ → Progress → Type 0
IsNext before line q = (Lines q ≡ before ++ line ∷ []) × Form q

nil_apart : AreApart []
unfolding IsDistinct
nil_apart = tt

pub read : (p : Progress) → IsOpen p → AreFigures p.account.total → AreClosed (closed p).stated
read p o total = record {
  timed = o.closed.timed;
  few = omega (arith, o.room, length-append p.stated.accounts (p.account ∷ []));
  accounts = all_push (IsAccountButForTotal p.stated.period) p.stated.accounts p.account o.closed.accounts
      (record { name = o.name; total = total; spans = o.spans; ascend = o.ascend });
  apart = apart_push p.stated.accounts p.account o.closed.apart o.new;
}

begun : (p : Progress) (line : List ℕ) (q : Progress) → AreClosed p.stated → (h : IsOpened p line q) → IsOpen (opened h.name p)
unfolding IsStrictlySortedBy
begun p line q c h = record { closed = c; room = h.few; name = h.is_name; new = h.new; spans = tt; ascend = tt }

-- the lines of one account more
pub one_more : (accounts : List StatedAccount) (a : StatedAccount) → lines_of (accounts ++ a ∷ []) ≡ lines_of accounts ++ account_lines a
one_more accounts a = flat_map-append account_lines accounts (a ∷ []) ∙ ap (λ z. lines_of accounts ++ z) (append-nil (account_lines a))

pub open_lines : (accounts : List StatedAccount) (name : List ℕ) (total : ColourFigures) (spans : List SpanFigures) → spans ≡ []
    → lines_of (accounts ++ record { name = name; total = total; spans = spans } ∷ []) ≡ (lines_of accounts ++ name_line name ∷ []) ++ total_line total ∷ []
open_lines accounts name total spans none =
    one_more accounts (record { name = name; total = total; spans = spans })
    ∙ (ap (λ z. lines_of accounts ++ (name_line name ∷ total_line total ∷ map span_line z)) none
    ∙ sym (append_assoc (lines_of accounts) (name_line name ∷ []) (total_line total ∷ [])))

span_lines : (accounts : List StatedAccount) (a : StatedAccount) (span : SpanFigures)
    → lines_of (accounts ++ record a { spans = a.spans ++ span ∷ [] } ∷ []) ≡ lines_of (accounts ++ a ∷ []) ++ span_line span ∷ []
span_lines accounts a span =
    one_more accounts (record a { spans = a.spans ++ span ∷ [] })
    ∙ (ap (λ z. lines_of accounts ++ (name_line a.name ∷ total_line a.total ∷ z)) (map-append span_line a.spans (span ∷ []))
    ∙ (sym (append_assoc (lines_of accounts) (account_lines a) (span_line span ∷ []))
    ∙ ap (λ z. z ++ span_line span ∷ []) (sym (one_more accounts a))))

pub next_at : (stage : Stage) (p : Progress) (line : List ℕ) (q : Progress) → p.stage ≡ stage → FormAt stage p → FollowsAt stage p line q → IsNext (LinesAt stage p) line q
next_at stages.Title p line q at f h = subst (IsNext [] line) (sym h.1) (ap (λ z. z ∷ []) (sym h.0), f)
next_at stages.Period p line q at f h =
    subst (IsNext (LinesAt stages.Period p) line) (sym h.4) (ap (λ z. title_line ∷ z ∷ []) (sym h.1), (f.0, (f.1, h.2, h.3)))
next_at stages.Reports p line q at f h =
    subst (IsNext (LinesAt stages.Reports p) line) (sym h.2)
    (ap (λ z. LinesAt stages.Reports p ++ z ∷ []) (sym h.1.line_is), (f.0, ((h.1.small, f.1.0.1, f.1.0.2), f.1.1, f.1.2)))
next_at stages.Disputed p line q at f h =
    subst (IsNext (LinesAt stages.Disputed p) line) (sym h.2)
    (ap (λ z. LinesAt stages.Disputed p ++ z ∷ []) (sym h.1.line_is), (f.0, ((f.1.0.0, h.1.small, f.1.0.2), f.1.1, f.1.2)))
next_at stages.Unassigned p line q at f h =
    subst (IsNext (LinesAt stages.Unassigned p) line) (sym h.2)
    (ap (λ z. LinesAt stages.Unassigned p ++ z ∷ []) (sym h.1.line_is), (f.0, ((f.1.0.0, f.1.0.1, h.1.small), f.1.1, f.1.2)))
next_at stages.Account p line q at f h =
    let c : AreClosed p.stated
    = record {
      timed = f.1;
      few = omega (arith, ap length f.0);
      accounts = subst (AllByRecursion (IsAccountButForTotal p.stated.period)) (sym f.0) tt;
      apart = subst AreApart (sym f.0) nil_apart;
    } in
    subst (IsNext (LinesAt stages.Account p) line) (sym h.next)
    (ap (λ z. opening p.stated (lines_of z ++ name_line h.name ∷ [])) f.0 ∙ ap (λ z. opening p.stated (z ∷ [])) (sym h.line_is), (begun p line q c h, refl))
next_at stages.Total p line q at f h =
    subst (IsNext (LinesAt stages.Total p) line) (sym h.3) (
      ap (opening p.stated) (open_lines p.stated.accounts p.account.name h.0 p.account.spans f.1) ∙ ap (λ z. LinesAt stages.Total p ++ z ∷ []) (sym h.1),
      (record { closed = f.0.closed; room = f.0.room; name = f.0.name; new = f.0.new; spans = f.0.spans; ascend = f.0.ascend }, h.2),
    )
next_at stages.Spans p line q at f (inl h) =
    let r = record p { account = record p.account { spans = p.account.spans ++ h.span ∷ [] } } in
    let all : AllByRecursion (IsSpan p.stated.period) r.account.spans = all_push (IsSpan p.stated.period) p.account.spans h.span f.0.spans h.is_span in
    let rise : Ascend r.account.spans = ascend_push p.account.spans h.span f.0.ascend h.behind in
    subst (IsNext (LinesAt stages.Spans p) line) (sym h.next)
    (subst (λ stage. (LinesAt stage r ≡ LinesAt stages.Spans p ++ line ∷ []) × FormAt stage r) (sym at) (
      ap (opening p.stated) (span_lines p.stated.accounts p.account h.span) ∙ ap (λ z. LinesAt stages.Spans p ++ z ∷ []) (sym h.line_is),
      (record { closed = f.0.closed; room = f.0.room; name = f.0.name; new = f.0.new; spans = all; ascend = rise }, f.1),
    ))
next_at stages.Spans p line q at f (inr (inl h)) =
    subst (IsNext (LinesAt stages.Spans p) line) (sym h.next)
    (ap (λ z. LinesAt stages.Spans p ++ z ∷ []) (sym h.line_is), (begun (closed p) line q (read p f.0 f.1) h, refl))
next_at stages.Spans p line q at f (inr (inr h)) =
    subst (IsNext (LinesAt stages.Spans p) line) (sym h.1)
    (ap (λ z. LinesAt stages.Spans p ++ z ∷ []) (sym h.0), (read p f.0 f.1, omega (arith, length-append p.stated.accounts (p.account ∷ []))))
next_at stages.Ended p line q at f h = absurd h

pub says : (p : Progress) (lines : List (List ℕ)) (q : Progress) (before : List (List ℕ)) → Lines p ≡ before → Form p → Follow p lines q
    → (Lines q ≡ before ++ lines) × Form q
unfolding Follow
says p [] q before e f h = subst (λ z. (Lines z ≡ before ++ []) × Form z) (sym h) (e ∙ sym (append-nil before), f)
says p (line ∷ lines) q before e f h =
    let one = next_at p.stage p line h.0 refl f h.1 in
    let all = says h.0 lines q (before ++ line ∷ []) (one.0 ∙ ap (λ z. z ++ line ∷ []) e) one.1 h.2 in
    (all.0 ∙ append_assoc before (line ∷ []) lines, all.1)

summed : (period : ℕ) (accounts : List StatedAccount) → AllByRecursion (IsAccountButForTotal period) accounts → AllByRecursion IsSummed accounts → AllByRecursion (IsAccount period) accounts
summed period [] r s = tt
summed period (a ∷ accounts) r s =
    (record { name = r.0.name; total = r.0.total; spans = r.0.spans; ascend = r.0.ascend; summed = s.0 }, summed period accounts r.1 s.1)

-- lines that end with the last one are those of a statement
says_all : (lines : List (List ℕ)) (p : Progress) → Follow unread lines p → p.stage ≡ stages.Ended → IsSound p → (statement_lines p.stated ≡ lines) × IsStatement p.stated
says_all lines p h at sound =
    let all = says unread lines p [] refl (refl, (lit< tt, lit< tt, lit< tt)) h in
    let form : FormAt stages.Ended p = subst (λ stage. FormAt stage p) at all.1 in
    let c = form.0 in (
      subst (λ stage. LinesAt stage p ≡ lines) at all.0,
      record {
        some_period = c.timed.1;
        period = c.timed.2;
        reports = c.timed.0.0;
        disputed = c.timed.0.1;
        unassigned = c.timed.0.2;
        some = form.1;
        few = c.few;
        accounts = summed p.stated.period p.stated.accounts c.accounts sound;
        apart = c.apart;
      },
    )

joined : (lines : List (List ℕ)) → join_with_byte 10 (lines ++ [] ∷ []) ≡ octets_of lines
joined [] = refl
joined (line ∷ []) = sym (append-nil (line ++ 10 ∷ []))
joined (line ∷ next ∷ lines) = ap (λ z. line ++ 10 ∷ z) (joined (next ∷ lines)) ∙ sym (append_assoc line (10 ∷ []) (octets_of (next ∷ lines)))

-- octets whose lines were all read are those of a statement
pub said : (octets : List ℕ) (p : Progress) → Follow unread (whole_lines octets) p → IsWhole octets p → IsSound p → IsTextOf octets p.stated
said octets p h whole sound =
    let all = says_all (whole_lines octets) p h whole.0 sound in
    record {
      octets_are = sym (join_with_byte-slice_split 10 octets) ∙ (ap (join_with_byte 10) whole.1 ∙ (joined (whole_lines octets) ∙ ap octets_of (sym all.0)));
      in_form = all.1;
    }
