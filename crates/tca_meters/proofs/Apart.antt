-- The items of one term, among those of all terms, and the terms one after the other.
use Rattle.std.proofs.Common.{◌≡◌, ℕ, ◌+◌, ◌<◌, List, [], ◌∷◌, length, leb, refl, ap, subst, ◌∙◌, arith, inl, inr}
use Rattle.std.specs.List.{flat_map}
use Rattle.std.proofs.lemmas.Bool.{cases_lt, cases_eq, eq-eqb, ne_eqb}
use Rattle.std.proofs.lemmas.List.Sums.{prefix_len-le-length}
use Rattle.tca_meters.specs.declared.colour.Colour.{Colour}
use Rattle.tca_meters.specs.declared.levels.Levels.{Levels}
use Rattle.tca_meters.specs.declared.termed.InTerm.{InTerm}
use Rattle.tca_meters.specs.declared.any_meter.AnyMeter.{AnyMeter}
use Rattle.tca_meters.specs.AnyMeters.{any_rule}
use Rattle.tca_meters.specs.Packets.{Packet, answer, coloured, colours}
use Rattle.tca_meters.specs.Termed.{TermedMeter, term, term_at, termed_rule}
use Rattle.tca_meters.specs.laws.TermedLaws.{begins, begins_none, term_rises}
use Rattle.tca_meters.specs.TermsApart.{IsPlain, NeverFall, TermsApart, TermsInTurn, coloured_alone, coloured_of_term, of_term, term_numbers}
use Rattle.tca_meters.proofs.InTurn.{in_parts}
use Rattle.tca_meters.proofs.InTurn.{NeverFall as TermsNeverFall}
use Rattle.tca_meters.proofs.Terms.{first_at_zero}

module _ {A : Type 0} (m : TermedMeter) (packet_of : A → Packet) (n : ℕ) where
  -- all items from a state on, and those by the term's meter alone
  abbrev all_from : InTerm → ℕ → List A → List (A × Colour)
  all_from s last items = coloured (termed_rule m) packet_of s last items

  abbrev alone_from : Levels → ℕ → List A → List (A × Colour)
  alone_from levels last items = coloured (any_rule (term m n).1) packet_of levels last items

  -- once a later term has started the term has no item
  none_left : (last : ℕ) (items : List A) → NeverFall packet_of last items → n < term_at m last → of_term m packet_of n items ≡ []
  none_left last [] h above = refl
  none_left last (x ∷ xs) h above =
      let time = (packet_of x).time in
      let rises = term_rises m last time h.0 in
      rw (ne_eqb (term_at m time) n (λ e. omega (arith, e))) (none_left time xs h.1 (omega arith))

  none_coloured : (s : InTerm) (last : ℕ) (items : List A) → NeverFall packet_of last items → n < term_at m last → coloured_of_term m packet_of n (all_from s last items) ≡ []
  unfolding coloured termed_rule
  none_coloured s last [] h above = refl
  none_coloured s last (x ∷ xs) h above =
      let time = (packet_of x).time in
      let rises = term_rises m last time h.0 in
      rw (ne_eqb (term_at m time) n (λ e. omega (arith, e))) (none_coloured (answer (termed_rule m) s last (packet_of x)).1 time xs h.1 (omega arith))

  -- within the term
  in_term : (levels : Levels) (last : ℕ) (items : List A) → NeverFall packet_of last items → term_at m last ≡ n
      → coloured_of_term m packet_of n (all_from (record { term = n; levels = levels }) last items) ≡ alone_from levels last (of_term m packet_of n items)
  unfolding coloured termed_rule
  in_term levels last [] h here = refl
  in_term levels last (x ∷ xs) h here =
      let time = (packet_of x).time in
      let rises = term_rises m last time h.0 in
      elim (cases_eq (term_at m time) n) [
        | inl same ↦
            let found = answer (any_rule (term m n).1) levels last (packet_of x) in
            rw (eq-eqb (term_at m time) n same, begins_none m last time (omega arith)) (ap (λ (ps : List (A × Colour)). (x, found.0) ∷ ps) (in_term found.1 time xs h.1 same))
        | inr apart ↦
            let above : n < term_at m time = omega (arith, apart) in
            rw (ne_eqb (term_at m time) n apart, none_left time xs h.1 above) (none_coloured (answer (termed_rule m) (record { term = n; levels = levels }) last (packet_of x)).1 time xs h.1 above)
      ]

  -- before the term
  before_term : (s : InTerm) (last : ℕ) (items : List A) → NeverFall packet_of last items → term_at m last < n
      → coloured_of_term m packet_of n (all_from s last items) ≡ coloured_alone m packet_of n (of_term m packet_of n items)
  unfolding coloured termed_rule
  before_term s last [] h below = refl
  before_term s last (x ∷ xs) h below =
      let time = (packet_of x).time in
      let next = (answer (termed_rule m) s last (packet_of x)).1 in
      elim (cases_eq (term_at m time) n) [
        | inl same ↦
            let found = answer (any_rule (term m n).1) (any_rule (term m n).1).opening (term m n).0 (packet_of x) in
            rw (eq-eqb (term_at m time) n same, begins m last time (omega arith), same) (ap (λ (ps : List (A × Colour)). (x, found.0) ∷ ps) (in_term found.1 time xs h.1 same))
        | inr apart ↦
            elim (cases_lt (term_at m time) n) [
              | inl still ↦ rw (ne_eqb (term_at m time) n apart) (before_term next time xs h.1 still)
              | inr over ↦
                  let above : n < term_at m time = omega (arith, apart) in
                  rw (ne_eqb (term_at m time) n apart, none_left time xs h.1 above) (none_coloured next time xs h.1 above)
            ]
      ]

  abbrev term_of : A × Colour → ℕ
  term_of p = term_at m (packet_of p.0).time

  -- the terms of items with their colours never fall
  never_fall : (s : InTerm) (last : ℕ) (items : List A) → NeverFall packet_of last items → TermsNeverFall term_of (term_at m last) (all_from s last items)
  unfolding coloured termed_rule
  never_fall s last [] h = tt
  never_fall s last (x ∷ xs) h =
      let time = (packet_of x).time in
      (term_rises m last time h.0, never_fall (answer (termed_rule m) s last (packet_of x)).1 time xs h.1)

-- from time 0 on
pub are_apart : {A : Type 0} (m : TermedMeter) (packet_of : A → Packet) → TermsApart m packet_of
unfolding termed_rule
are_apart m packet_of is items h n =
    let at_zero = first_at_zero m is in
    elim (cases_eq n 0) [
      | inl first ↦ rw first (in_term m packet_of 0 (any_rule m.first).opening 0 items h at_zero)
      | inr later ↦ before_term m packet_of n (termed_rule m).opening 0 items h (omega (arith, later, at_zero))
    ]

-- one term after the other
pub in_turn : {A : Type 0} (m : TermedMeter) (packet_of : A → Packet) → TermsInTurn m packet_of
in_turn {A = A} m packet_of is items h =
    let all = colours (termed_rule m) packet_of items in
    let inside = λ (p : A × Colour). prefix_len-le-length (λ (t : ℕ × AnyMeter). leb t.0 (packet_of p.0).time) m.later in
    let number = λ (p : A × Colour). term_at m (packet_of p.0).time in
    in_parts number (length m.later + 1) all
    (subst (λ k. TermsNeverFall number k all) (first_at_zero m is) (never_fall m packet_of 0 (termed_rule m).opening 0 items h))
    (λ p. let below = inside p in omega arith)
    ∙ (λ i. flat_map (λ n. are_apart m packet_of is items h n i) (term_numbers m))

-- a meter without terms is its first meter
as_first : {A : Type 0} (first : AnyMeter) (packet_of : A → Packet) (levels : Levels) (last : ℕ) (items : List A)
    → coloured (termed_rule (record { first = first; later = [] })) packet_of (record { term = 0; levels = levels }) last items ≡ coloured (any_rule first) packet_of levels last items
unfolding coloured termed_rule
as_first first packet_of levels last [] = refl
as_first {A = A} first packet_of levels last (x ∷ xs) =
    let found = answer (any_rule first) levels last (packet_of x) in
    ap (λ (ps : List (A × Colour)). (x, found.0) ∷ ps) (as_first first packet_of found.1 (packet_of x).time xs)

pub is_plain : {A : Type 0} (first : AnyMeter) (packet_of : A → Packet) → IsPlain first packet_of
unfolding termed_rule
is_plain first packet_of items = as_first first packet_of (any_rule first).opening 0 items
