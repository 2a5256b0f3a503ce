-- Metering row by row.
use Rattle.std.proofs.Common.{◌≡◌, ℕ, zero, suc, ◌+◌, ◌*◌, ◌/◌, ◌<◌, ◌≤◌, true, false, cond, eqb, List, [], ◌∷◌, ◌++◌, length, get_or, take, drop, refl, sym, ap, subst, ◌∙◌, arith, length-append, add-one, Option, Some, None, inl, inr}
use Rattle.std.specs.List.{AllByRecursion}
use Rattle.std.specs.List.Sorted.{IsStrictlySortedBy}
use Rattle.std.specs.Ordering.{nat_cmp, ordering_then, is_lt, MatchOrdering}
use Rattle.std.specs.declared.cmp.Ordering.{Ordering}
use Rattle.std.specs.declared.cmp.Ordering.TheVariants.{Less, Equal, Greater}
use Rattle.std.specs.Cmp.{tied_itself}
use Rattle.std.proofs.lemmas.Cmp.{ranked}
use Rattle.std.proofs.lemmas.Bool.{cases_lt}
use Rattle.std.proofs.Math.ListN.{get_or-append}
use Rattle.std.proofs.lemmas.List.{length-take-le, take_all, take-append-le, length-drop}
use Rattle.tca_report.specs.report.Reports.{PacketReport, report_cmp}
use Rattle.tca_report.proofs.lemmas.report.Order.{report_total}
use Rattle.tca_log.proofs.OrderedRows.Parts.{below_since, rises_front}
use Rattle.tca_accounts.specs.declared.span.Span.{Span}
use Rattle.tca_replay.specs.declared.run.Standing.{Standing}
use Rattle.tca_replay.specs.declared.run.Mark.{Mark}
use Rattle.tca_accounts.specs.Bills.{coloured_by}
use Rattle.tca_accounts.specs.Sums.{packet_of}
use Rattle.tca_accounts.specs.Metering.{CanAdd, closed_by}
use Rattle.tca_accounts.proofs.Bills.{coloured_length, few_of}
use Rattle.tca_replay.specs.inside.Course.{Metering, Course, course, start, one}
use Rattle.tca_replay.proofs.Course.{StandsAt, stands}
use Rattle.tca_replay.specs.inside.Standings.{course_at}
use Rattle.tca_replay.specs.inside.Marks.{IsMark, AreMarks}

-- where a list is cut before an element
cut_take_suc : {A : Type 0} (n : ℕ) (xs : List A) (x : A) (rest : List A) → drop n xs ≡ x ∷ rest → take (suc n) xs ≡ take n xs ++ x ∷ []
cut_take_suc n [] x rest h = absurd (none n h)
  where
    none : (m : ℕ) → drop m [] ≡ x ∷ rest → ⊥
    none zero h = cc
    none (suc m) h = cc
cut_take_suc zero (y ∷ xs) x rest h = let e : y ≡ x = cc in rw e refl
cut_take_suc (suc n) (y ∷ xs) x rest h = ap (λ (l : List _). y ∷ l) (cut_take_suc n xs x rest h)

cut_drop_suc : {A : Type 0} (n : ℕ) (xs : List A) (x : A) (rest : List A) → drop n xs ≡ x ∷ rest → drop (suc n) xs ≡ rest
cut_drop_suc n [] x rest h = absurd (none n h)
  where
    none : (m : ℕ) → drop m [] ≡ x ∷ rest → ⊥
    none zero h = cc
    none (suc m) h = cc
cut_drop_suc zero (y ∷ xs) x rest h = cc
cut_drop_suc (suc n) (y ∷ xs) x rest h = cut_drop_suc n xs x rest h

pub cut_take : {A : Type 0} (n : ℕ) (xs : List A) (x : A) (rest : List A) → drop n xs ≡ x ∷ rest → take (n + 1) xs ≡ take n xs ++ x ∷ []
cut_take n xs x rest h = rw add-one (cut_take_suc n xs x rest h)

pub cut_drop : {A : Type 0} (n : ℕ) (xs : List A) (x : A) (rest : List A) → drop n xs ≡ x ∷ rest → drop (n + 1) xs ≡ rest
cut_drop n xs x rest h = rw add-one (cut_drop_suc n xs x rest h)

pub cut_inside : {A : Type 0} (n : ℕ) (xs : List A) (x : A) (rest : List A) → drop n xs ≡ x ∷ rest → n < length xs
cut_inside n xs x rest h = omega (arith, ap length h, length-drop n xs)

pub cut_end : {A : Type 0} (n : ℕ) (xs : List A) → drop n xs ≡ [] → length xs ≤ n
cut_end n xs h = omega (arith, ap length h, length-drop n xs)

cut_whole : {A : Type 0} (n : ℕ) (xs : List A) (x : A) (rest : List A) → drop n xs ≡ x ∷ rest → take n xs ++ (x ∷ rest) ≡ xs
cut_whole n [] x rest h = absurd (none n h)
  where
    none : (m : ℕ) → drop m [] ≡ x ∷ rest → ⊥
    none zero h = cc
    none (suc m) h = cc
cut_whole zero (y ∷ xs) x rest h = sym h
cut_whole (suc n) (y ∷ xs) x rest h = ap (λ (l : List _). y ∷ l) (cut_whole n xs x rest h)

first_less : (o p : Ordering) (m n : ℕ) → MatchOrdering o (m < n) (m ≡ n) (n < m) → ordering_then o p ≡ Less → m ≤ n
first_less Less p m n h e = omega arith
first_less Equal p m n h e = omega arith
first_less Greater p m n h e = absurd cc

earlier : (a b : PacketReport) → report_cmp a b ≡ Less → a.time ≤ b.time
earlier a b h = first_less (nat_cmp a.time b.time) _ a.time b.time (ranked a.time b.time (nat_cmp a.time b.time) refl) h

all_earlier : (x : PacketReport) (xs : List PacketReport) → AllByRecursion (λ y. report_cmp y x ≡ Less) xs → AllByRecursion (λ (y : PacketReport). y.time ≤ x.time) xs
all_earlier x [] h = tt
all_earlier x (y ∷ xs) h = (earlier y x h.0, all_earlier x xs h.1)

module _ {S : Type 0} (w : Metering S) where
  pub course_append : (c : Course S) (xs ys : List PacketReport) → course w c (xs ++ ys) ≡ course w (course w c xs) ys
  unfolding course
  course_append c [] ys = refl
  course_append c (x ∷ xs) ys = course_append (one w c x) xs ys

  pub course_last : (c : Course S) (xs : List PacketReport) (x : PacketReport) → course w c (xs ++ x ∷ []) ≡ one w (course w c xs) x
  unfolding course
  course_last c [] x = refl
  course_last c (y ∷ xs) x = course_last (one w c y) xs x

  pub course_none : (c : Course S) → course w c [] ≡ c
  unfolding course
  course_none c = refl

  -- no time of a course is after a row that is after all of its rows
  course_time : (x : PacketReport) (c : Course S) (xs : List PacketReport) → c.metered.time ≤ x.time → AllByRecursion (λ (y : PacketReport). y.time ≤ x.time) xs → (course w c xs).metered.time ≤ x.time
  unfolding course
  course_time x c [] h k = h
  course_time x c (y ∷ xs) h k = course_time x (one w c y) xs k.0 k.1

  -- of fewer rows than the limit each colour has room for one packet more
  pub few_at : (standing : Standing S) (closed : List Span) (xs : List PacketReport) → 0 < w.period → IsStrictlySortedBy report_cmp xs → course_at standing closed ≡ course w (start w) xs → length xs < 4194304 → CanAdd standing.metered.total standing.current
  few_at standing closed xs h rises is few =
      let pairs = coloured_by w.rule w.other xs in
      let k : StandsAt w pairs [] (course_at standing closed) = subst (StandsAt w pairs []) (sym is) (stands w xs h rises) in
      few_of w.rule w.other w.period pairs standing.metered closed standing.current [] (omega (arith, coloured_length w.rule (packet_of w.other) w.rule.opening 0 xs)) k

  -- what comes before a row rises
  pub front_rises : (n : ℕ) (rows : List PacketReport) (x : PacketReport) (rest : List PacketReport) → IsStrictlySortedBy report_cmp rows → drop n rows ≡ x ∷ rest → IsStrictlySortedBy report_cmp (take n rows)
  front_rises n rows x rest rises cut = rises_front report_cmp report_total (take n rows) (x ∷ rest) (subst (IsStrictlySortedBy report_cmp) (sym (cut_whole n rows x rest cut)) rises)

  pub time_at : (standing : Standing S) (closed : List Span) (n : ℕ) (rows : List PacketReport) (x : PacketReport) (rest : List PacketReport) → course_at standing closed ≡ course w (start w) (take n rows) → IsStrictlySortedBy report_cmp rows → drop n rows ≡ x ∷ rest → standing.metered.time ≤ x.time
  time_at standing closed n rows x rest is rises cut =
      let whole : IsStrictlySortedBy report_cmp (take n rows ++ (x ∷ rest)) = subst (IsStrictlySortedBy report_cmp) (sym (cut_whole n rows x rest cut)) rises in
      let lower = below_since report_cmp report_total x x (take n rows) rest whole (ap is_lt (tied_itself report_total x)) in
      subst (λ (c : Course S). c.metered.time ≤ x.time) (sym is) (course_time x (start w) (take n rows) (omega arith) (all_earlier x (take n rows) lower))

  -- one row more
  pub step_at : (c : Course S) (n : ℕ) (rows : List PacketReport) (x : PacketReport) (rest : List PacketReport) → c ≡ course w (start w) (take n rows) → drop n rows ≡ x ∷ rest → one w c x ≡ course w (start w) (take (n + 1) rows)
  step_at c n rows x rest is cut = ap (λ (d : Course S). one w d x) is ∙ sym (course_last (start w) (take n rows) x) ∙ ap (course w (start w)) (sym (cut_take n rows x rest cut))

  pub take_closed : (span : Option Span) (i m : ℕ) (cs : List Span) → m ≤ length cs → (take m (closed_by span i cs) ≡ take m cs) × (m ≤ length (closed_by span i cs))
  take_closed None i m cs h = (refl, h)
  take_closed (Some s) i m cs h = elim (eqb s.index i) as (λ b. (take m (cond b cs (cs ++ s ∷ [])) ≡ take m cs) × (m ≤ length (cond b cs (cs ++ s ∷ [])))) [
    | true ↦ (refl, h)
    | false ↦ (take-append-le m cs (s ∷ []) h, omega (arith, length-append cs (s ∷ [])))
  ]

  -- the marks stay as spans end
  pub marks_stay : (every : ℕ) (rows : List PacketReport) (span : Option Span) (i : ℕ) (closed : List Span) (marks : List (Mark S)) → AreMarks w every rows closed marks → AreMarks w every rows (closed_by span i closed) marks
  marks_stay every rows span i closed marks a = record {
    each = λ j d h. let one = a.each j d h in let same = take_closed span i (get_or marks j d).closed closed one.shared in
        record { course = ap (course_at (get_or marks j d).standing) same.0 ∙ one.course; shared = same.1 };
  }

  -- one mark more
  pub marks_more : (every n : ℕ) (rows : List PacketReport) (closed : List Span) (marks : List (Mark S)) (standing : Standing S) (ended : ℕ) → AreMarks w every rows closed marks → course_at standing closed ≡ course w (start w) (take n rows) → n ≡ every * (length marks + 1) → ended ≡ length closed
      → AreMarks w every rows closed (marks ++ record { standing = standing; closed = ended } ∷ [])
  marks_more every n rows closed marks standing ended a is at all = record {
    each = λ j d h. elim (cases_lt j (length marks)) as (λ _. IsMark w (take (every * (j + 1)) rows) closed (get_or (marks ++ record { standing = standing; closed = ended } ∷ []) j d)) [
      | inl below ↦ rw (get_or-append marks (record { standing = standing; closed = ended } ∷ []) d j below) (a.each j d below)
      | inr above ↦
          let last : j ≡ length marks = omega (arith, length-append marks (record { standing = standing; closed = ended } ∷ [])) in
          let same : every * (j + 1) ≡ n = ap (λ m. every * (m + 1)) last ∙ sym at in
          let all_closed : take ended closed ≡ closed = take_all ended closed (omega arith) in
          let mark : IsMark w (take n rows) closed (record { standing = standing; closed = ended }) = record { course = ap (course_at standing) all_closed ∙ is; shared = omega arith } in
          rw (same, last, get_or_end marks (record { standing = standing; closed = ended }) d) mark
    ];
  }
    where
      get_or_end : (ms : List (Mark S)) (m d : Mark S) → get_or (ms ++ m ∷ []) (length ms) d ≡ m
      get_or_end [] m d = refl
      get_or_end (x ∷ ms) m d = get_or_end ms m d

  closed_more : (span : Option Span) (i : ℕ) (cs : List Span) → length (closed_by span i cs) ≤ length cs + 1
  closed_more None i cs = omega arith
  closed_more (Some s) i cs = elim (eqb s.index i) as (λ b. length (cond b cs (cs ++ s ∷ [])) ≤ length cs + 1) [
    | true ↦ omega arith
    | false ↦ omega (arith, length-append cs (s ∷ []))
  ]

  -- what one row does to all that is kept
  pub record IsStep (every n : ℕ) (rows : List PacketReport) (standing : Standing S) (closed : List Span) (all : List (Mark S)) : Type 0 where
    pub inside : n ≤ length rows
    pub stands : course_at standing closed ≡ course w (start w) (take n rows)
    pub marks : AreMarks w every rows closed all
    pub ended : length closed ≤ n

  pub step_more : (every n : ℕ) (rows : List PacketReport) (x : PacketReport) (rest : List PacketReport) (standing next : Standing S) (closed ended : List Span) (marks : List (Mark S)) → drop n rows ≡ x ∷ rest → course_at standing closed ≡ course w (start w) (take n rows) → AreMarks w every rows closed marks → length closed ≤ n
      → course_at next ended ≡ one w (course_at standing closed) x → IsStep every (n + 1) rows next ended marks
  step_more every n rows x rest standing next closed ended marks cut is a few step =
      let now : ended ≡ closed_by standing.current (x.time / w.period) closed = ap (λ (c : Course S). c.closed) step in
      record {
        inside = omega (arith, cut_inside n rows x rest cut);
        stands = step ∙ step_at (course_at standing closed) n rows x rest is cut;
        marks = subst (λ (cs : List Span). AreMarks w every rows cs marks) (sym now) (marks_stay every rows standing.current (x.time / w.period) closed marks a);
        ended = omega (arith, ap length now, closed_more standing.current (x.time / w.period) closed);
      }

  closed_from : (c : Course S) (xs : List PacketReport) → length (course w c xs).closed ≤ length c.closed + length xs
  unfolding course
  closed_from c [] = omega arith
  closed_from c (x ∷ xs) = omega (arith, closed_from (one w c x) xs, closed_more c.current (x.time / w.period) c.closed)

  -- no more spans ended than there were rows
  pub few_closed : (standing : Standing S) (closed : List Span) (n : ℕ) (rows : List PacketReport) → course_at standing closed ≡ course w (start w) (take n rows) → n ≤ length rows → length closed ≤ n
  few_closed standing closed n rows is h = omega (arith, ap (λ (c : Course S). length c.closed) is, closed_from (start w) (take n rows), length-take-le n rows h)

  pub course_all : (standing : Standing S) (closed : List Span) (n : ℕ) (rows : List PacketReport) → course_at standing closed ≡ course w (start w) (take n rows) → length rows ≤ n → course_at standing closed ≡ course w (start w) rows
  course_all standing closed n rows is h = is ∙ ap (course w (start w)) (take_all n rows h)

pub next_due : (every n : ℕ) → every * (n + 1) + every ≡ every * (n + 1 + 1)
next_due every n = omega arith
