-- The lines of a statement in form follow one another, of one in form but for its totals too.
use Rattle.std.proofs.Common.{◌≡◌, inl, inr, ◌≤◌, ◌+◌, ◌++◌, ◌∷◌, [], ℕ, List, false, length, arith, subst, sym, ap, refl, ◌∙◌}
use Rattle.std.specs.Prelude.{map, ◌==◌}
use Rattle.std.specs.List.{AllByRecursion, flat_map}
use Rattle.std.proofs.lemmas.List.{append-nil, append_assoc, length-append}
use Rattle.std.proofs.lemmas.List.Elements.{All-from_recursion}
use Rattle.std.proofs.lemmas.List.Splits.{slice_split_at}
use Rattle.tca_figures.specs.Begun.{IsAccountButForTotal, IsButForTotals}
use Rattle.tca_figures.specs.Figures.{AreApart, Ascend, IsAccount, IsSpan, IsStatement, IsSummed, Stated, StatedAccount, named}
use Rattle.tca_figures.specs.Lines.{IsTextOf, account_lines, end_line, octets_of, span_line, statement_lines, total_line}
use Rattle.tca_figures.specs.inside.Progress.{Follow, IsSound, Progress, unread}
use Rattle.tca_figures.specs.Reading.{parts, whole_lines}
use Rattle.tca_figures.specs.inside.Refusals.{IsWhole}
use Rattle.tca_figures.specs.declared.figures.ColourFigures.{ColourFigures}
use Rattle.tca_figures.specs.declared.figures.SpanFigures.{SpanFigures}
use Rattle.tca_figures.specs.declared.reader.Stage.TheVariants as stages
use Rattle.tca_figures.proofs.Ascending.{is_behind, is_new}
use Rattle.tca_figures.proofs.Cuts.{all_lines, nonempty}
use Rattle.tca_figures.proofs.Texts.{follows_feed}

follow_both : (p : Progress) (lines : List (List ℕ)) (m : Progress) (more : List (List ℕ)) (q : Progress) → Follow p lines m → Follow m more q → Follow p (lines ++ more) q
unfolding Follow
follow_both p [] m more q f g = subst (λ z. Follow z more q) f g
follow_both p (line ∷ lines) m more q f g = (f.0, f.1, follow_both f.0 lines m more q f.2 g)

-- lines of periods are next, behind these accounts and those periods of the next one
abbrev at_spans : Stated → List StatedAccount → StatedAccount → Progress
at_spans s accounts a = record { stage = stages.Spans; stated = record s { accounts = accounts }; account = a }

-- a total is next
abbrev at_total : Stated → List StatedAccount → List ℕ → Progress
at_total s accounts name = record { stage = stages.Total; stated = record s { accounts = accounts }; account = named name }

-- all lines are read
abbrev pub at_end : Stated → Progress
at_end s = record { stage = stages.Ended; stated = s; account = named [] }

module _ (s : Stated) where
  spans_follow : (accounts : List StatedAccount) (name : List ℕ) (total : ColourFigures) (done rest : List SpanFigures)
      → AllByRecursion (IsSpan s.period) rest → Ascend (done ++ rest)
      → Follow (at_spans s accounts (record { name = name; total = total; spans = done })) (map span_line rest)
      (at_spans s accounts (record { name = name; total = total; spans = done ++ rest }))
  unfolding Follow
  spans_follow accounts name total done [] spans ascend = ap (λ z. at_spans s accounts (record { name = name; total = total; spans = z })) (append-nil done)
  spans_follow accounts name total done (span ∷ rest) spans ascend =
      let more : (done ++ span ∷ []) ++ rest ≡ done ++ span ∷ rest = append_assoc done (span ∷ []) rest in
      let next = at_spans s accounts (record { name = name; total = total; spans = done ++ span ∷ [] }) in (
        next,
        inl (record { span = span; line_is = refl; is_span = spans.0; behind = is_behind done span rest ascend; next = refl }),
        subst (λ z. Follow next (map span_line rest) (at_spans s accounts (record { name = name; total = total; spans = z }))) more
            (spans_follow accounts name total (done ++ span ∷ []) rest spans.1 (subst Ascend (sym more) ascend)),
      )

  -- the lines of an account behind its name
  account_follows : (accounts : List StatedAccount) (a : StatedAccount) → IsAccountButForTotal s.period a
      → Follow (at_total s accounts a.name) (total_line a.total ∷ map span_line a.spans) (at_spans s accounts a)
  unfolding Follow
  account_follows accounts a h =
      (at_spans s accounts (record { name = a.name; total = a.total; spans = [] }), (a.total, refl, h.total, refl), spans_follow accounts a.name a.total [] a.spans h.spans h.ascend)

  -- the lines of accounts behind the first one
  accounts_follow : (done : List StatedAccount) (a : StatedAccount) (rest : List StatedAccount) → AllByRecursion (IsAccountButForTotal s.period) rest
      → AreApart (done ++ a ∷ rest) → length (done ++ a ∷ rest) ≤ 256
      → Follow (at_spans s done a) (flat_map account_lines rest ++ end_line ∷ []) (at_end (record s { accounts = done ++ a ∷ rest }))
  unfolding Follow
  accounts_follow done a [] h apart few = (at_end (record s { accounts = done ++ a ∷ [] }), inr (inr (refl, refl)), refl)
  accounts_follow done a (b ∷ rest) h apart few =
      let now = done ++ a ∷ [] in
      let same : now ++ b ∷ rest ≡ done ++ a ∷ b ∷ rest = append_assoc done (a ∷ []) (b ∷ rest) in
      let lines = total_line b.total ∷ map span_line b.spans in
      let count : length now + (1 + length rest) ≡ length (done ++ a ∷ b ∷ rest) = omega (arith, ap length same, length-append now (b ∷ rest)) in
      let others = accounts_follow now b rest h.1 (subst AreApart (sym same) apart) (omega (arith, few, count, length-append now (b ∷ rest))) in
      let both = follow_both (at_total s now b.name) lines (at_spans s now b) (flat_map account_lines rest ++ end_line ∷ [])
      (at_end (record s { accounts = now ++ b ∷ rest })) (account_follows now b h.0) others in (
        at_total s now b.name,
        inr (inl (record { name = b.name; line_is = refl; is_name = h.0.name; new = is_new now b rest (subst AreApart (sym same) apart); few = omega (arith, few, count); next = refl })),
        subst (λ z. Follow (at_total s now b.name) z (at_end (record s { accounts = done ++ a ∷ b ∷ rest })))
            (sym (append_assoc lines (flat_map account_lines rest) (end_line ∷ [])))
            (subst (λ z. Follow (at_total s now b.name) (lines ++ (flat_map account_lines rest ++ end_line ∷ [])) (at_end (record s { accounts = z }))) same both),
      )

-- all lines
whole_follows : (s : Stated) (a : StatedAccount) (rest : List StatedAccount) → IsButForTotals (record s { accounts = a ∷ rest })
    → Follow unread (statement_lines (record s { accounts = a ∷ rest })) (at_end (record s { accounts = a ∷ rest }))
unfolding Follow
whole_follows s a rest h =
    let lines = total_line a.total ∷ map span_line a.spans in
    let both = follow_both (at_total s [] a.name) lines (at_spans s [] a) (flat_map account_lines rest ++ end_line ∷ []) (at_end (record s { accounts = a ∷ rest }))
    (account_follows s [] a h.accounts.0) (accounts_follow s [] a rest h.accounts.1 h.apart h.few) in
    let none : Stated = record { period = 0; reports = 0; disputed = 0; unassigned = 0; accounts = [] } in (
      record { stage = stages.Period; stated = none; account = named [] },
      (refl, refl),
      (
        record { stage = stages.Reports; stated = record none { period = s.period }; account = named [] },
        (s.period, refl, h.some_period, h.period, refl),
        (
          record { stage = stages.Disputed; stated = record none { period = s.period; reports = s.reports }; account = named [] },
          (s.reports, record { line_is = refl; small = h.reports }, refl),
          (
            record { stage = stages.Unassigned; stated = record none { period = s.period; reports = s.reports; disputed = s.disputed }; account = named [] },
            (s.disputed, record { line_is = refl; small = h.disputed }, refl),
            (
              record { stage = stages.Account; stated = record s { accounts = [] }; account = named [] },
              (s.unassigned, record { line_is = refl; small = h.unassigned }, refl),
              (
                at_total s [] a.name,
                record { name = a.name; line_is = refl; is_name = h.accounts.0.name; new = refl; few = omega arith; next = refl },
                subst (λ z. Follow (at_total s [] a.name) z (at_end (record s { accounts = a ∷ rest })))
                    (sym (append_assoc lines (flat_map account_lines rest) (end_line ∷ []))) both,
              ),
            ),
          ),
        ),
      ),
    )

pub begun_follows : (s : Stated) → IsButForTotals s → Follow unread (statement_lines s) (at_end s)
begun_follows s h =
    let some = nonempty s.accounts h.some in
    let same : s ≡ record s { accounts = some.0 ∷ some.1 } = ap (λ z. record s { accounts = z }) some.2 in
    subst (λ z. Follow unread (statement_lines z) (at_end z)) (sym same) (whole_follows s some.0 some.1 (subst IsButForTotals same h))

pub without_feeds : (p : Progress) (lines : List (List ℕ)) (q : Progress) → Follow p lines q → parts (octets_of lines) ≡ lines ++ [] ∷ []
unfolding Follow
without_feeds p [] q f = refl
without_feeds p (line ∷ lines) q f =
    ap parts (append_assoc line (10 ∷ []) (octets_of lines))
    ∙ (slice_split_at (λ octet. octet == 10) line 10 (octets_of lines) (All-from_recursion (λ octet. (octet == 10) ≡ false) line (follows_feed p line f.0 f.1)) refl
    ∙ ap (λ z. line ∷ z) (without_feeds f.0 lines q f.2))

accounts_but_for_totals : (period : ℕ) (accounts : List StatedAccount) → AllByRecursion (IsAccount period) accounts → AllByRecursion (IsAccountButForTotal period) accounts
accounts_but_for_totals period [] h = tt
accounts_but_for_totals period (a ∷ accounts) h =
    (record { name = h.0.name; total = h.0.total; spans = h.0.spans; ascend = h.0.ascend }, accounts_but_for_totals period accounts h.1)

-- a statement in form is one but for its totals too
but_for_totals : (s : Stated) → IsStatement s → IsButForTotals s
but_for_totals s h = record {
  some_period = h.some_period;
  period = h.period;
  reports = h.reports;
  disputed = h.disputed;
  unassigned = h.unassigned;
  some = h.some;
  few = h.few;
  accounts = accounts_but_for_totals s.period s.accounts h.accounts;
  apart = h.apart;
}

sound : (period : ℕ) (accounts : List StatedAccount) → AllByRecursion (IsAccount period) accounts → AllByRecursion IsSummed accounts
sound period [] h = tt
sound period (a ∷ accounts) h = (h.0.summed, sound period accounts h.1)

-- the octets of a statement are read as that statement
pub record IsWritten (octets : List ℕ) (s : Stated) : Type 0 where
  pub progress : Progress
  pub follow : Follow unread (whole_lines octets) progress
  pub whole : IsWhole octets progress
  pub sound : IsSound progress
  pub stated : progress.stated ≡ s

pub written : (octets : List ℕ) (s : Stated) → IsTextOf octets s → IsWritten octets s
written octets s is =
    let h = is.in_form in
    let follow = begun_follows s (but_for_totals s h) in
    let cut : parts octets ≡ statement_lines s ++ [] ∷ [] = ap parts is.octets_are ∙ without_feeds unread (statement_lines s) (at_end s) follow in
    let lines : whole_lines octets ≡ statement_lines s = all_lines octets (statement_lines s) [] cut in
    record {
      progress = at_end s;
      follow = subst (λ z. Follow unread z (at_end s)) (sym lines) follow;
      whole = (refl, cut ∙ ap (λ z. z ++ [] ∷ []) (sym lines));
      sound = sound s.period s.accounts h.accounts;
      stated = refl;
    }
