-- Going back to a mark.
use Rattle.std.proofs.Common.{◌≡◌, ℕ, zero, suc, ◌+◌, ◌-◌, ◌*◌, ◌/◌, ◌<◌, ◌≤◌, min, Bool, List, [], ◌∷◌, ◌++◌, length, get_or, take, drop, refl, sym, ap, subst, ◌∙◌, arith, Option, Some, None, inl, inr, mul-le-mul_left}
use Rattle.std.proofs.lemmas.Bool.{cases_lt}
use Rattle.std.proofs.lemmas.List.{length-take-le}
use Rattle.tca_report.specs.report.Reports.{PacketReport, report_cmp}
use Rattle.tca_accounts.specs.declared.span.Span.{Span}
use Rattle.tca_replay.specs.declared.run.Standing.{Standing}
use Rattle.tca_replay.specs.declared.run.Mark.{Mark}
use Rattle.tca_replay.specs.inside.Course.{Metering, Course, course, start, one}
use Rattle.tca_replay.specs.inside.Standings.{course_at}
use Rattle.tca_replay.specs.inside.Marks.{IsMark, AreMarks}
use Rattle.tca_log.specs.Rows.Ordered.{rank, Ordered}
use Rattle.tca_log.proofs.OrderedRows.Ranks.{rank-le}
use Rattle.tca_report.proofs.lemmas.report.Order.{report_total}
use Rattle.std.specs.Prelude.{IfSome}
use Rattle.tca_replay.specs.Lanes.{IsLane, row_of}
use Rattle.tca_replay.proofs.Steps.{course_append, course_none, take_closed}

pub record IsBack (every kept len at : ℕ) : Type 0 where
  pub before : every * at ≤ kept
  pub near : kept ≤ every * at + every
  pub inside : at ≤ len

pub back : (every kept len at : ℕ) → 0 < every → at ≡ min (kept / every) len → kept ≤ every * (len + 1) → IsBack every kept len at
back every kept len at some is reach =
    let q = kept / every in
    let down : every * q ≤ kept = omega arith in
    let up : kept ≤ every * q + every = omega arith in
    elim (cases_lt q len) as (λ _. IsBack every kept len at) [
      | inl l ↦ let e : at ≡ q = omega arith in subst (λ a. IsBack every kept len a) (sym e) (record { before = down; near = up; inside = omega arith })
      | inr l ↦
          let e : at ≡ len = omega arith in
          let low : every * len ≤ every * q = mul-le-mul_left every l in
          subst (λ a. IsBack every kept len a) (sym e) (record { before = omega arith; near = omega arith; inside = omega arith })
    ]

take_parts : {A : Type 0} (a b : ℕ) (xs : List A) → a ≤ b → take b xs ≡ take a xs ++ drop a (take b xs)
take_parts zero b xs h = refl
take_parts (suc a) zero xs h = absurd (omega arith)
take_parts (suc a) (suc b) [] h = refl
take_parts (suc a) (suc b) (x ∷ xs) h = ap (λ (l : List _). x ∷ l) (take_parts a b xs (omega arith))

take_within : {A : Type 0} (a b : ℕ) (xs : List A) → a ≤ b → take a (take b xs) ≡ take a xs
take_within zero b xs h = refl
take_within (suc a) zero xs h = absurd (omega arith)
take_within (suc a) (suc b) [] h = refl
take_within (suc a) (suc b) (x ∷ xs) h = ap (λ (l : List _). x ∷ l) (take_within a b xs (omega arith))

get_within : {A : Type 0} (n j : ℕ) (d : A) (xs : List A) → j < n → get_or (take n xs) j d ≡ get_or xs j d
get_within zero j d xs h = absurd (omega arith)
get_within (suc n) j d [] h = refl
get_within (suc n) zero d (x ∷ xs) h = refl
get_within (suc n) (suc j) d (x ∷ xs) h = get_within n j d xs (omega arith)

module _ {S : Type 0} (w : Metering S) where
  closed_grows : (c : Course S) (xs : List PacketReport) → length c.closed ≤ length (course w c xs).closed
  unfolding course
  closed_grows c [] = omega arith
  closed_grows c (x ∷ xs) = omega (arith, closed_grows (one w c x) xs, (take_closed w c.current (x.time / w.period) (length c.closed) c.closed (omega arith)).1)

  mark_closed : (rows : List PacketReport) (closed : List Span) (m : Mark S) → IsMark w rows closed m → m.closed ≡ length (course w (start w) rows).closed
  mark_closed rows closed m is = sym (length-take-le m.closed closed is.shared) ∙ ap (λ (c : Course S). length c.closed) is.course

  marks_rise : (a b : ℕ) (rows : List PacketReport) (closed : List Span) (m n : Mark S) → a ≤ b → IsMark w (take a rows) closed m → IsMark w (take b rows) closed n → m.closed ≤ n.closed
  marks_rise a b rows closed m n h is js =
      let grown = closed_grows (course w (start w) (take a rows)) (drop a (take b rows)) in
      let whole : course w (start w) (take b rows) ≡ course w (course w (start w) (take a rows)) (drop a (take b rows)) = ap (course w (start w)) (take_parts a b rows h) ∙ course_append w (start w) (take a rows) (drop a (take b rows)) in
      omega (arith, grown, ap (λ (c : Course S). length c.closed) whole, mark_closed (take a rows) closed m is, mark_closed (take b rows) closed n js)

  -- the marks that are left, and the spans that had ended by the last of them
  pub record IsRewound (every at : ℕ) (rows : List PacketReport) (standing : Standing S) (closed : List Span) (all : List (Mark S)) : Type 0 where
    pub stands : course_at standing closed ≡ course w (start w) (take (every * at) rows)
    pub marks : AreMarks w every rows closed all

  pub rewound : (every at : ℕ) (rows : List PacketReport) (standing : Standing S) (closed ended : List Span) (all : List (Mark S)) → at ≤ length all → ((j : ℕ) (d : Mark S) → j < at → IsMark w (take (every * (j + 1)) rows) closed (get_or all j d))
      → ((d : Mark S) → 0 < at → (standing ≡ (get_or all (at - 1) d).standing) × (ended ≡ take (get_or all (at - 1) d).closed closed)) → (at ≡ 0 → course_at standing ended ≡ start w) → Mark S → IsRewound every at rows standing ended (take at all)
  rewound every at rows standing closed ended all inside each last first d =
      elim (cases_lt 0 at) as (λ _. IsRewound every at rows standing ended (take at all)) [
        | inl some ↦
            let m = get_or all (at - 1) d in
            let end : at - 1 + 1 ≡ at = omega arith in
            let mark : IsMark w (take (every * at) rows) closed m = subst (λ n. IsMark w (take (every * n) rows) closed m) end (each (at - 1) d (omega arith)) in
            let found = last d some in
            let length_ended : length ended ≡ m.closed = ap length found.1 ∙ length-take-le m.closed closed mark.shared in
            record {
              stands = (λ i. course_at (found.0 i) (found.1 i)) ∙ mark.course;
              marks = record {
                each = λ j e h.
                    let below : j < at = omega (arith, length-take-le at all inside) in
                    let one_mark = each j e below in
                    let factor : every * (j + 1) ≤ every * at = mul-le-mul_left every (omega arith) in
                    let rise = marks_rise (every * (j + 1)) (every * at) rows closed (get_or all j e) m factor one_mark mark in
                    let shorter : take (get_or all j e).closed ended ≡ take (get_or all j e).closed closed = ap (take (get_or all j e).closed) found.1 ∙ take_within (get_or all j e).closed m.closed closed rise in
                    subst (IsMark w (take (every * (j + 1)) rows) ended) (sym (get_within at j e all below)) (record { course = ap (course_at (get_or all j e).standing) shorter ∙ one_mark.course; shared = omega (arith, length_ended, rise) });
              };
            }
        | inr none ↦
            let zero_at : at ≡ 0 = omega arith in
            let nothing : every * at ≡ 0 = ap (λ n. every * n) zero_at ∙ omega arith in
            record {
              stands = first zero_at ∙ sym (ap (λ n. course w (start w) (take n rows)) nothing ∙ course_none w (start w));
              marks = record { each = λ j e h. absurd (omega (arith, length-take-le at all inside)) };
            }
      ]

  pub lane_reach : (every : ℕ) (store : Ordered PacketReport) (r : PacketReport) (standing : Standing S) (all : List (Mark S)) (closed : List Span) (ready : Bool) (sr mr before len : ℕ) → IsLane w every store (Some r) standing all closed ready sr mr → before ≡ rank report_cmp r store.rows → len ≡ length all → before ≤ every * (len + 1)
  lane_reach every store r standing all closed ready sr mr before len l is length_is = rw (is, length_is) l.reach

  pub lane_back : (every before len at : ℕ) (rows : List PacketReport) (r : PacketReport) (all : List (Mark S)) → before ≡ rank report_cmp r rows → len ≡ length all → every * at ≤ before → before ≤ every * at + every → at ≤ len → IsBack every (rank report_cmp r rows) (length all) at
  lane_back every before len at rows r all is length_is low near inside = record { before = omega (arith, is, low); near = omega (arith, is, near); inside = omega (arith, length_is, inside) }

  pub lane_rewound : (every : ℕ) (store : Ordered PacketReport) (r : PacketReport) (standing : Standing S) (all : List (Mark S)) (closed : List Span) (ready : Bool) (sr mr at : ℕ) (next : Standing S) (ended : List Span) → IsLane w every store (Some r) standing all closed ready sr mr → IsBack every (rank report_cmp r store.rows) (length all) at
      → ((d : Mark S) → 0 < at → (next ≡ (get_or all (at - 1) d).standing) × (ended ≡ take (get_or all (at - 1) d).closed closed)) → (at ≡ 0 → course_at next ended ≡ start w) → IsRewound every at store.rows next ended (take at all)
  lane_rewound every store r standing all closed ready sr mr at next ended l b last first =
      rewound every at store.rows next closed ended all b.inside (λ j d h.
      let factor : every * (j + 1) ≤ every * at = mul-le-mul_left every (omega arith) in
      l.marks j d (omega (arith, b.inside)) (omega (arith, factor, b.before))) last first (record { standing = next; closed = 0 })

  pub from_inside : (every at len : ℕ) (rows : List PacketReport) (r : PacketReport) → IsBack every (rank report_cmp r rows) len at → every * at ≤ length rows
  from_inside every at len rows r b = omega (arith, b.before, rank-le report_cmp report_total r rows)

  pub lane_again : (every : ℕ) (store : Ordered PacketReport) (r : PacketReport) (standing next : Standing S) (all news : List (Mark S)) (closed ended : List Span) (ready : Bool) (sr mr tr nr : ℕ) → IsLane w every store (Some r) standing all closed ready sr mr → course_at next ended ≡ course w (start w) store.rows → AreMarks w every store.rows ended news → length store.rows < every * (length news + 1) → sr ≤ tr → mr ≤ nr
      → IsLane w every store None next news ended ready tr nr
  lane_again every store r standing next all news closed ended ready sr mr tr nr l stands marks reach more_spans more_marks = record {
    period = l.period;
    some = l.some;
    small = l.small;
    marks = λ j d h k. marks.each j d h;
    reach = omega arith;
    stands = stands;
    spans = omega (arith, l.spans);
    room = λ n h. omega (arith, l.room n h);
    store_ready = l.store_ready;
    spans_ready = λ e. omega (arith, l.spans_ready e);
    room_ready = λ e n h. omega (arith, l.room_ready e n h);
  }

-- the bound on steps
pub few_steps : (every at len n : ℕ) (rows : List PacketReport) (r : PacketReport) (changed : Option PacketReport) → changed ≡ Some r → n ≡ length rows → IsBack every (rank report_cmp r rows) len at → every * at ≤ n → IfSome (row_of changed rows) (λ p. n - every * at + p ≤ length rows + every)
few_steps every at len n rows r changed is n-is b le = rw is (omega (arith, b.near, le, n-is))

-- no row from the least changed one on is left out
pub enough_steps : (every at len n : ℕ) (rows : List PacketReport) (r : PacketReport) (changed : Option PacketReport) → changed ≡ Some r → n ≡ length rows → IsBack every (rank report_cmp r rows) len at → IfSome (row_of changed rows) (λ p. length rows ≤ n - every * at + p)
enough_steps every at len n rows r changed is n-is b = rw is (omega (arith, b.before, n-is))
