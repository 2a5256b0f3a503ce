-- Lines follow one another where they begin a statement that is in form but for its totals, so first faults are those of statements.
use Rattle.std.proofs.Common.{◌≡◌, inl, inr, ◌<◌, ◌+◌, ◌^◌, ◌++◌, ◌∷◌, [], ℕ, zero, suc, List, true, codes, length, take, arith, subst, sym, ap, refl, ◌∙◌, lit<}
use Rattle.std.specs.Prelude.{slice_get}
use Rattle.std.specs.List.{AllByRecursion, IsDistinct}
use Rattle.std.specs.List.Sorted.{IsStrictlySortedBy}
use Rattle.std.proofs.Math.Seq.{take-append-add, take-append_seam}
use Rattle.std.proofs.lemmas.Bool.{false≢true}
use Rattle.std.proofs.lemmas.List.{append-nil, append_assoc, length-append, length-map, length-take-le, take_all}
use Rattle.std.proofs.lemmas.Option.{slice_get_within}
use Rattle.tca_figures.specs.Begun.{AreSummedIn, Begin, IsButForTotals}
use Rattle.tca_figures.specs.Figures.{AreApart, AreFigures, IsSummed, Stated, StatedAccount, named, none}
use Rattle.tca_figures.specs.Lines.{account_lines, end_line, name_line, number_line, span_line, statement_lines, statement_octets, total_line}
use Rattle.tca_figures.specs.inside.Progress.{Follow, Follows, FollowsAt, IsOpened, IsSound, Progress, closed, is_kept, opened, unread}
use Rattle.tca_figures.specs.Reading.{IsFirstFault, IsKeptLine, IsWrongLine, IsWrongTotal, WantsMemory, line_number, parts, whole_lines}
use Rattle.tca_figures.specs.inside.Refusals.{IsLineRefused, IsMemoryRefused, IsRefused, IsTotalRefused}
use Rattle.tca_figures.specs.declared.fault.StatementFault.{StatementFault}
use Rattle.tca_figures.specs.declared.fault.StatementFault.TheVariants as faults
use Rattle.tca_figures.specs.declared.reader.Stage.{Stage}
use Rattle.tca_figures.specs.declared.reader.Stage.TheVariants as stages
use Rattle.tca_figures.proofs.Ascending.{all_push}
use Rattle.tca_figures.proofs.Cuts.{all_lines, at_seam, follow_back, follow_on}
use Rattle.tca_figures.proofs.OneReading.{follow_one}
use Rattle.tca_figures.proofs.Says.{AreClosed, FormAt, IsOpen, IsTimed, LinesAt, lines_of, next_at, one_more, open_lines, opening, read, says}
use Rattle.tca_figures.proofs.Written.{at_end, begun_follows, without_feeds}

no_figures : AreFigures none
no_figures = record {
  green = record { octets = lit< tt; packets = lit< tt; both = (λ e. e, λ e. e) };
  yellow = record { octets = lit< tt; packets = lit< tt; both = (λ e. e, λ e. e) };
  red = record { octets = lit< tt; packets = lit< tt; both = (λ e. e, λ e. e) };
}

-- an account that any statement may have
abbrev some_account : StatedAccount
some_account = named (codes "a")

one_apart : (a : StatedAccount) → AreApart (a ∷ [])
unfolding IsDistinct
one_apart a = (tt, tt)

-- a statement with this account alone
with_one : (s : Stated) → 0 < s.period → s.period < 2 ^ 48 → s.reports < 2 ^ 64 → s.disputed < 2 ^ 64 → s.unassigned < 2 ^ 64 → IsButForTotals (record s { accounts = some_account ∷ [] })
unfolding IsStrictlySortedBy
with_one s some period reports disputed unassigned = record {
  some_period = some;
  period = period;
  reports = reports;
  disputed = disputed;
  unassigned = unassigned;
  some = omega arith;
  few = omega arith;
  accounts = (record { name = refl; total = no_figures; spans = tt; ascend = tt }, tt);
  apart = one_apart some_account;
}

of_closed : (s : Stated) → AreClosed s → 0 < length s.accounts → IsButForTotals s
of_closed s c some = record {
  some_period = c.timed.1;
  period = c.timed.2;
  reports = c.timed.0.0;
  disputed = c.timed.0.1;
  unassigned = c.timed.0.2;
  some = some;
  few = c.few;
  accounts = c.accounts;
  apart = c.apart;
}

-- the lines of a statement from one kind of line on
abbrev from_accounts : Stated → List (List ℕ)
from_accounts s = lines_of s.accounts ++ end_line ∷ []

abbrev from_unassigned : Stated → List (List ℕ)
from_unassigned s = number_line (codes "unassigned") s.unassigned ∷ from_accounts s

abbrev from_disputed : Stated → List (List ℕ)
from_disputed s = number_line (codes "disputed") s.disputed ∷ from_unassigned s

abbrev from_reports : Stated → List (List ℕ)
from_reports s = number_line (codes "reports") s.reports ∷ from_disputed s

abbrev from_period : Stated → List (List ℕ)
from_period s = number_line (codes "period") s.period ∷ from_reports s

abbrev smallest : Stated
smallest = record { period = 1; reports = 0; disputed = 0; unassigned = 0; accounts = some_account ∷ [] }

smallest_in_form : IsButForTotals smallest
smallest_in_form = with_one smallest (omega arith) (lit< tt) (lit< tt) (lit< tt) (lit< tt)

-- what was read, with an account
abbrev with_account : Progress → Stated
with_account p = record p.stated { accounts = some_account ∷ [] }

with_account_in_form : (p : Progress) → IsTimed p.stated → IsButForTotals (with_account p)
with_account_in_form p t = with_one p.stated t.1 t.2 t.0.0 t.0.1 t.0.2

-- what holds of all holds of the first ones
all_take : {K : Type 0} (P : K → Type 0) (n : ℕ) (xs : List K) → AllByRecursion P xs → AllByRecursion P (take n xs)
all_take P zero xs h = tt
all_take P (suc n) [] h = tt
all_take P (suc n) (x ∷ xs) h = (h.0, all_take P n xs h.1)

-- of the accounts in front of the last one, where so many have fewer lines than all
front_summed : (n : ℕ) (accounts : List StatedAccount) (a : StatedAccount) → length (lines_of (take n (accounts ++ a ∷ []))) < length (lines_of (accounts ++ a ∷ []))
    → AllByRecursion IsSummed accounts → AllByRecursion IsSummed (take n (accounts ++ a ∷ []))
front_summed zero accounts a l h = tt
front_summed (suc n) [] a l h = absurd (omega (arith, l, length-append (account_lines a) (lines_of (take n [])), length-append (account_lines a) []))
front_summed (suc n) (b ∷ accounts) a l h = (
  h.0,
  front_summed n accounts a
      (omega (arith, l, length-append (account_lines b) (lines_of (take n (accounts ++ a ∷ []))), length-append (account_lines b) (lines_of (accounts ++ a ∷ [])))) h.1,
)

-- these lines begin a statement, and the totals of accounts whose lines they end are right if these are summed
abbrev BeginWith : Progress → List (List ℕ) → Type 0
BeginWith p lines = (b : Begin lines) × (IsSound p → AreSummedIn b.stated (length lines))

-- where a total is next
abbrev total_stated : Progress → Stated
total_stated p = record p.stated { accounts = p.stated.accounts ++ named p.account.name ∷ [] }

total_in_form : (p : Progress) → FormAt stages.Total p → IsButForTotals (total_stated p)
unfolding IsStrictlySortedBy
total_in_form p f =
    let o = f.0 in
    let a : StatedAccount = named p.account.name in
    let q : Progress = record p { account = a } in
    let is_open : IsOpen q = record { closed = o.closed; room = o.room; name = o.name; new = o.new; spans = tt; ascend = tt } in
    of_closed (total_stated p) (read q is_open no_figures) (omega (arith, length-append p.stated.accounts (a ∷ [])))

total_lines : (p : Progress) → statement_lines (total_stated p) ≡ LinesAt stages.Total p ++ total_line none ∷ end_line ∷ []
total_lines p =
    ap (λ z. opening p.stated (z ++ end_line ∷ [])) (open_lines p.stated.accounts p.account.name none [] refl)
    ∙ ap (opening p.stated) (append_assoc (lines_of p.stated.accounts ++ name_line p.account.name ∷ []) (total_line none ∷ []) (end_line ∷ []))

-- where a period or the next account is next
spans_in_form : (p : Progress) → FormAt stages.Spans p → IsButForTotals (closed p).stated
spans_in_form p f = of_closed (closed p).stated (read p f.0 f.1) (omega (arith, length-append p.stated.accounts (p.account ∷ [])))

-- the lines that say what is read begin a statement
completed : (stage : Stage) (p : Progress) → FormAt stage p → BeginWith p (LinesAt stage p)
completed stages.Title p f = (
  record { stated = smallest; in_form = smallest_in_form; behind = statement_lines smallest; lines_are = refl },
  λ sound n l. absurd (omega (arith, l)),
)
completed stages.Period p f = (
  record { stated = smallest; in_form = smallest_in_form; behind = from_period smallest; lines_are = refl },
  λ sound n l. absurd (omega (arith, l)),
)
completed stages.Reports p f = (
  record { stated = with_account p; in_form = with_account_in_form p f.1; behind = from_reports (with_account p); lines_are = refl },
  λ sound n l. absurd (omega (arith, l)),
)
completed stages.Disputed p f = (
  record { stated = with_account p; in_form = with_account_in_form p f.1; behind = from_disputed (with_account p); lines_are = refl },
  λ sound n l. absurd (omega (arith, l)),
)
completed stages.Unassigned p f = (
  record { stated = with_account p; in_form = with_account_in_form p f.1; behind = from_unassigned (with_account p); lines_are = refl },
  λ sound n l. absurd (omega (arith, l)),
)
completed stages.Account p f = (
  record { stated = with_account p; in_form = with_account_in_form p f.1; behind = from_accounts (with_account p); lines_are = refl },
  λ sound n l. absurd (omega (arith, l)),
)
completed stages.Total p f = (
  record { stated = total_stated p; in_form = total_in_form p f; behind = total_line none ∷ end_line ∷ []; lines_are = total_lines p },
  λ sound n l. all_take IsSummed n (p.stated.accounts ++ named p.account.name ∷ []) (all_push IsSummed p.stated.accounts (named p.account.name) sound refl),
)
completed stages.Spans p f = (
  record { stated = (closed p).stated; in_form = spans_in_form p f; behind = end_line ∷ []; lines_are = refl },
  λ sound n l. front_summed n p.stated.accounts p.account (omega (arith, l)) sound,
)
completed stages.Ended p f = (
  record { stated = p.stated; in_form = of_closed p.stated f.0 f.1; behind = []; lines_are = sym (append-nil (statement_lines p.stated)) },
  λ sound n l. all_take IsSummed n p.stated.accounts sound,
)

-- lines that follow one another say what was read, in form
said_so : (lines : List (List ℕ)) (p : Progress) → Follow unread lines p → (LinesAt p.stage p ≡ lines) × FormAt p.stage p
said_so lines p h = says unread lines p [] refl (refl, (lit< tt, lit< tt, lit< tt)) h

-- lines that follow one another begin a statement
follow_begins : (lines : List (List ℕ)) (p : Progress) → Follow unread lines p → BeginWith p lines
follow_begins lines p h =
    let all = said_so lines p h in
    subst (BeginWith p) all.0 (completed p.stage p all.1)

front_follows : (p : Progress) (lines behind : List (List ℕ)) (q : Progress) → Follow p (lines ++ behind) q → (m : Progress) × Follow p lines m
unfolding Follow
front_follows p [] behind q f = (p, refl)
front_follows p (line ∷ lines) behind q f = let more = front_follows f.0 lines behind q f.2 in (more.0, (f.0, f.1, more.1))

-- lines that begin a statement follow one another
beginning_follow : (lines : List (List ℕ)) → Begin lines → (p : Progress) × Follow unread lines p
beginning_follow lines b =
    front_follows unread lines b.behind (at_end b.stated) (subst (λ z. Follow unread z (at_end b.stated)) b.lines_are (begun_follows b.stated b.in_form))

-- where all lines are read, the octets aren't those of such a statement unless they are whole
not_early : (octets : List ℕ) (line : ℕ) (w : IsLineRefused octets line) → w.before ≡ length (whole_lines octets) → (s : Stated) → IsButForTotals s → octets ≡ statement_octets s → ⊥
not_early octets line w is s h e =
    let follow = begun_follows s h in
    let cut : parts octets ≡ statement_lines s ++ [] ∷ [] = ap parts e ∙ without_feeds unread (statement_lines s) (at_end s) follow in
    let lines : whole_lines octets ≡ statement_lines s = all_lines octets (statement_lines s) [] cut in
    let all : take w.before (whole_lines octets) ≡ whole_lines octets = take_all w.before (whole_lines octets) (omega (arith, is)) in
    let same : w.progress ≡ at_end s = follow_one unread (statement_lines s) w.progress (at_end s) (subst (λ z. Follow unread z w.progress) (all ∙ lines) w.follow) follow in
    w.early is (ap (λ (p : Progress). p.stage) same, cut ∙ ap (λ z. z ++ [] ∷ []) (sym lines))

wrong_line : (octets : List ℕ) (line : ℕ) → IsLineRefused octets line → IsWrongLine octets line
wrong_line octets line w =
    let front = take w.before (whole_lines octets) in
    let b = follow_begins front w.progress w.follow in
    record {
      before = w.before;
      number = w.number;
      within = w.within;
      begin = b.0;
      summed = subst (AreSummedIn b.0.stated) (length-take-le w.before (whole_lines octets) w.within) (b.1 w.sound);
      next = λ text is also.
          let f = beginning_follow (front ++ text ∷ []) also in
          let back = follow_back unread front text f.0 f.1 in
          w.next text is f.0 (subst (λ z. Follows z text f.0) (follow_one unread front back.0 w.progress back.1 w.follow) back.2);
      early = not_early octets line w;
    }

-- Lines that end with those of an account begin a statement with the next line, where it ends that account.
record IsEnded (p : Progress) (lines : List (List ℕ)) (text : List ℕ) : Type 0 where
  begin : Begin (lines ++ text ∷ [])
  others : List StatedAccount
  accounts_are : begin.stated.accounts ≡ p.stated.accounts ++ p.account ∷ others
  lines_are : lines ≡ opening p.stated (lines_of (p.stated.accounts ++ p.account ∷ []))

no_more : (p q : Progress) → q.stated.accounts ≡ p.stated.accounts → q.stated.accounts ≡ p.stated.accounts ++ p.account ∷ [] → ⊥
no_more p q same more = omega (arith, ap length same, ap length more, length-append p.stated.accounts (p.account ∷ []))

ended_at : (stage : Stage) (p : Progress) (text : List ℕ) (q : Progress) → p.stage ≡ stage → FormAt stage p → FollowsAt stage p text q
    → q.stated.accounts ≡ p.stated.accounts ++ p.account ∷ [] → IsEnded p (LinesAt stage p) text
ended_at stages.Title p text q at f h more = absurd (no_more p q (ap (λ z. z.stated.accounts) h.1) more)
ended_at stages.Period p text q at f h more = absurd (no_more p q (ap (λ z. z.stated.accounts) h.4) more)
ended_at stages.Reports p text q at f h more = absurd (no_more p q (ap (λ z. z.stated.accounts) h.2) more)
ended_at stages.Disputed p text q at f h more = absurd (no_more p q (ap (λ z. z.stated.accounts) h.2) more)
ended_at stages.Unassigned p text q at f h more = absurd (no_more p q (ap (λ z. z.stated.accounts) h.2) more)
ended_at stages.Account p text q at f h more = absurd (no_more p q (ap (λ z. z.stated.accounts) h.next) more)
ended_at stages.Total p text q at f h more = absurd (no_more p q (ap (λ z. z.stated.accounts) h.3) more)
ended_at stages.Spans p text q at f (inl h) more = absurd (no_more p q (ap (λ z. z.stated.accounts) h.next) more)
ended_at stages.Spans p text q at f (inr (inl h)) more =
    let r : Progress = opened h.name (closed p) in
    let k : IsOpened (closed p) text r = record { name = h.name; line_is = h.line_is; is_name = h.is_name; new = h.new; few = h.few; next = refl } in
    let n = next_at stages.Spans p text r at f (inr (inl k)) in
    let rest = total_line none ∷ end_line ∷ [] in
    record {
      begin = record { stated = total_stated r; in_form = total_in_form r n.1; behind = rest; lines_are = total_lines r ∙ ap (λ z. z ++ rest) n.0 };
      others = named h.name ∷ [];
      accounts_are = append_assoc p.stated.accounts (p.account ∷ []) (named h.name ∷ []);
      lines_are = refl;
    }
ended_at stages.Spans p text q at f (inr (inr h)) more =
    record {
      begin = record {
        stated = (closed p).stated;
        in_form = spans_in_form p f;
        behind = [];
        lines_are = sym (append-nil (statement_lines (closed p).stated)) ∙ ap (λ z. (LinesAt stages.Spans p ++ z ∷ []) ++ []) (sym h.0);
      };
      others = [];
      accounts_are = refl;
      lines_are = refl;
    }
ended_at stages.Ended p text q at f h more = absurd h

wrong_total : (octets : List ℕ) (line : ℕ) → IsTotalRefused octets line → IsWrongTotal octets line
wrong_total octets line w =
    let p = w.progress in
    let v = w.wrong in
    let front = take w.before (whole_lines octets) in
    let all = said_so front p w.follow in
    let e = subst (λ z. IsEnded p z w.next) all.0 (ended_at p.stage p w.next v.next refl all.1 v.follows (v.ends v.next v.follows)) in
    let accounts = p.stated.accounts in
    let count : length front ≡ w.before = length-take-le w.before (whole_lines octets) (omega (arith, slice_get_within (whole_lines octets) w.before w.next w.next_is)) in
    let with_it : take (length accounts + 1) e.begin.stated.accounts ≡ accounts ++ p.account ∷ [] = ap (take (length accounts + 1)) e.accounts_are ∙ take-append-add accounts (p.account ∷ e.others) 1 in
    let without : take (length accounts) e.begin.stated.accounts ≡ accounts = ap (take (length accounts)) e.accounts_are ∙ take-append_seam accounts (p.account ∷ e.others) in
    let its : length (lines_of (accounts ++ p.account ∷ [])) ≡ length (lines_of accounts) + (2 + length p.account.spans) =
    ap length (one_more accounts p.account) ∙ omega (arith, length-append (lines_of accounts) (account_lines p.account), length-map p.account.spans span_line) in
    let before : w.before ≡ 5 + length (lines_of (accounts ++ p.account ∷ [])) = omega (arith, count, ap length e.lines_are) in
    record {
      before = w.before;
      next = w.next;
      next_is = w.next_is;
      begin = e.begin;
      accounts = length accounts;
      account = p.account;
      account_is = ap (λ z. slice_get z (length accounts)) e.accounts_are ∙ at_seam accounts p.account e.others;
      ends = before ∙ ap (λ z. 5 + length (lines_of z)) (sym with_it);
      summed = subst (AllByRecursion IsSummed) (sym without) w.sound;
      wrong = v.wrong;
      number = w.number ∙ ap line_number (omega (arith, before, its, ap (λ z. length (lines_of z)) without));
    }

kept_at : (stage : Stage) (p : Progress) (text : List ℕ) (q : Progress) → FollowsAt stage p text q → is_kept stage ≡ true → IsKeptLine text
kept_at stages.Title p text q h kept = absurd (false≢true kept)
kept_at stages.Period p text q h kept = absurd (false≢true kept)
kept_at stages.Reports p text q h kept = absurd (false≢true kept)
kept_at stages.Disputed p text q h kept = absurd (false≢true kept)
kept_at stages.Unassigned p text q h kept = absurd (false≢true kept)
kept_at stages.Account p text q h kept = inl (h.name, h.line_is)
kept_at stages.Total p text q h kept = absurd (false≢true kept)
kept_at stages.Spans p text q (inl h) kept = inr (inl (h.span, h.line_is))
kept_at stages.Spans p text q (inr (inl h)) kept = inl (h.name, h.line_is)
kept_at stages.Spans p text q (inr (inr h)) kept = inr (inr h.0)
kept_at stages.Ended p text q h kept = absurd h

want : (octets : List ℕ) → IsMemoryRefused octets → WantsMemory octets
want octets w =
    let p = w.progress in
    let k = w.kept in
    let front = take w.before (whole_lines octets) in
    let b = follow_begins (front ++ w.next ∷ []) k.next (follow_on unread front p w.next k.next w.follow k.follows) in
    let count : length (front ++ w.next ∷ []) ≡ w.before + 1 = omega (
      arith,
      length-append front (w.next ∷ []),
      length-take-le w.before (whole_lines octets) (omega (arith, slice_get_within (whole_lines octets) w.before w.next w.next_is)),
    ) in
    record {
      before = w.before;
      next = w.next;
      next_is = w.next_is;
      begin = b.0;
      summed = subst (AreSummedIn b.0.stated) count (b.1 (k.sound w.sound));
      kept = kept_at p.stage p w.next k.next k.follows k.kept;
    }

-- what the reader refuses is the first fault
pub faults_are_first : (octets : List ℕ) (fault : StatementFault) → IsRefused octets fault → IsFirstFault octets fault
faults_are_first octets (faults.Line line) w = wrong_line octets line w
faults_are_first octets (faults.Sum line) w = wrong_total octets line w
faults_are_first octets (faults.Other line) w = w
faults_are_first octets faults.Range w = w
faults_are_first octets faults.Memory w = want octets w
