-- Terms, the slots that they are kept in, and how one is entered.
use Rattle.std.proofs.Common.{◌≡◌, ℕ, zero, suc, ◌-◌, ◌<◌, ◌≤◌, true, List, ◌++◌, length, take, replicate, get_or, leb, Option, Some, None, refl, ap, sym, ◌∙◌, arith, inl, inr, length-append, length-drop}
use Rattle.std.proofs.lemmas.Bool.{cases_lt, le-leb, lt-leb}
use Rattle.std.proofs.lemmas.List.Sums.{prefix_len_is, prefix_len-le-length}
use Rattle.std.proofs.lemmas.List.{take_at, drop_at, drop-replicate, length-replicate, get_or-take, get_or_read, get_or_default, length-take-le}
use Rattle.tca_meters.specs.declared.any_meter.AnyMeter.{AnyMeter}
use Rattle.tca_meters.specs.declared.termed.InTerm.{InTerm}
use Rattle.tca_meters.specs.AnyMeters.{any_rule}
use Rattle.tca_meters.specs.Termed.{IsTermed, TermedMeter, after_tokens, ascend_from, begun, most_terms, term, term_at}
use Rattle.tca_meters.proofs.Terms.{starts_later}
use Rattle.tca_meters.specs.laws.TermedLaws.{begins, begins_none, has_started}
use Rattle.tca_meters.specs.Slots.{AreSlots, entered, left_by, seen}

-- what is seen of such slots
pub seen_again : (first : AnyMeter) (terms : List (ℕ × AnyMeter)) → seen first (length terms) (terms ++ left_by first terms) ≡ record { first = first; later = terms }
seen_again first terms = λ i. record { first = first; later = take_at terms (left_by first terms) (length terms) refl i }

pub are_slots : (first : AnyMeter) (terms : List (ℕ × AnyMeter)) → length terms ≤ most_terms → ascend_from 0 terms ≡ true → AreSlots first (length terms) (terms ++ left_by first terms)
are_slots first terms few ascend = record {
  inside = few;
  many = omega (arith, length-append {A = ℕ × AnyMeter} terms (left_by first terms), length-drop {A = ℕ × AnyMeter} (length terms) (replicate most_terms (0, first)), length-replicate {A = ℕ × AnyMeter} most_terms (0, first));
  left = drop_at terms (left_by first terms) (length terms) refl ∙ drop-replicate (length terms) most_terms (0, first);
  termed = rw (seen_again first terms) (record { few = few; ascend = ascend });
}

-- a term after the first meter's, by its place
pub term_is : (m : TermedMeter) (n : ℕ) → 0 < n → term m n ≡ get_or m.later (n - 1) (0, m.first)
term_is m zero h = absurd (omega arith)
term_is m (suc n) h = let e : suc n - 1 ≡ n = omega arith in rw e refl

pub slot_is : (first : AnyMeter) (count : ℕ) (slots : List (ℕ × AnyMeter)) (k : ℕ) (t : ℕ × AnyMeter) → AreSlots first count slots → k < count → t ≡ get_or slots k t → t ≡ get_or (take count slots) k (0, first)
slot_is first count slots k t h inside is =
    get_or_read slots k t (omega (arith, h.inside, h.many)) is (0, first) ∙ sym (get_or-take count slots k (0, first) inside)

pub slot_of_term : (first : AnyMeter) (count : ℕ) (slots : List (ℕ × AnyMeter)) (n : ℕ) (t : ℕ × AnyMeter) → AreSlots first count slots → 0 < n → n ≤ count → t ≡ get_or slots (n - 1) t → t ≡ term (seen first count slots) n
slot_of_term first count slots n t h some inside is =
    slot_is first count slots (n - 1) t h (omega arith) is ∙ sym (term_is (seen first count slots) n some)

-- so many of the slots have started by a time, and then one that hasn't
pub counted : (first : AnyMeter) (count : ℕ) (slots : List (ℕ × AnyMeter)) (time n : ℕ) → AreSlots first count slots → n ≤ count
    → ((k : ℕ) (d : ℕ × AnyMeter) → k < n → (get_or slots k d).0 ≤ time) → (n < count → time < (get_or slots n (0, first)).0) → n ≡ term_at (seen first count slots) time
counted first count slots time n h inside before after =
    let many : length (take count slots) ≡ count = length-take-le count slots (omega (arith, h.inside, h.many)) in
    sym (prefix_len_is (λ (t : ℕ × AnyMeter). leb t.0 time) (take count slots) n (0, first) (omega arith)
    (λ k below. rw (get_or-take count slots k (0, first) (omega arith)) (le-leb _ time (before k (0, first) below)))
    (λ below. rw (get_or-take count slots n (0, first) (omega arith)) (lt-leb _ time (after (omega arith)))))

module _ (m : TermedMeter) (first : AnyMeter) (count : ℕ) (slots : List (ℕ × AnyMeter)) (h : AreSlots first count slots) (is : seen first count slots ≡ m) where
  pub is_termed : IsTermed m
  is_termed = rw is at h.termed

  many_later : length m.later ≡ count
  many_later = ap (λ (x : TermedMeter). length x.later) (sym is) ∙ length-take-le count slots (omega (arith, h.inside, h.many))

  -- the term of a time has a slot
  pub has_slot : (time n : ℕ) → n ≡ term_at m time → n ≤ count
  has_slot time n e = omega (arith, prefix_len-le-length (λ (t : ℕ × AnyMeter). leb t.0 time) m.later, many_later, e)

  pub slot_has : (n : ℕ) (d : ℕ × AnyMeter) → 0 < n → n ≤ count → get_or slots (n - 1) d ≡ term m n
  slot_has n d some inside =
      let t = get_or slots (n - 1) d in
      slot_of_term first count slots n t h some inside (get_or_default slots (n - 1) d t (omega (arith, h.inside, h.many))) ∙ ap (λ (x : TermedMeter). term x n) is

  module _ (from to n : ℕ) (d : ℕ × AnyMeter) (number : n ≡ term_at m to) where
    -- the last term that has started began in the interval
    pub begun_some : 0 < n → from < (get_or slots (n - 1) d).0 → Some n ≡ begun m from to
    begun_some some above =
        let above : from < (term m n).0 = rw (slot_has n d some (has_slot to n number)) at above in
        elim (cases_lt (term_at m from) (term_at m to)) [
          | inl new ↦ ap Some number ∙ sym (begins m from to new)
          | inr old ↦ absurd (let early = has_started m from n (omega (arith, number, old)) in omega arith)
        ]

    -- it began before
    pub begun_before : 0 < n → (get_or slots (n - 1) d).0 ≤ from → None ≡ begun m from to
    begun_before some early =
        let early : (term m n).0 ≤ from = rw (slot_has n d some (has_slot to n number)) at early in
        elim (cases_lt (term_at m from) (term_at m to)) [
          | inl new ↦ absurd (let past = starts_later m from n is_termed (omega (arith, number, new)) (omega (arith, has_slot to n number, many_later)) in omega arith)
          | inr old ↦ sym (begins_none m from to old)
        ]

    -- none has started but the first
    pub begun_never : n ≤ 0 → None ≡ begun m from to
    begun_never none = sym (begins_none m from to (omega (arith, number)))

-- a term that began
pub record Began (m : TermedMeter) (to n : ℕ) : Type 0 where
  pub number : n ≡ term_at m to
  pub some : 0 < n

pub began : (m : TermedMeter) (from to n : ℕ) → Some n ≡ begun m from to → Began m to n
began m from to n e =
    elim (cases_lt (term_at m from) (term_at m to)) [
      | inl new ↦ let both = e ∙ begins m from to new in let same : n ≡ term_at m to = cc in record { number = same; some = omega arith }
      | inr old ↦ absurd (let both = e ∙ begins_none m from to old in cc)
    ]

-- tokens until a time, from where a state was entered on
abbrev pub filled_from : TermedMeter → ℕ → InTerm × ℕ → InTerm
filled_from m to e = record { term = e.0.term; levels = (any_rule (term m e.0.term).1).filled e.1 to e.0.levels }

pub filled_since : (m : TermedMeter) (from to : ℕ) (s : InTerm) (o : Option ℕ) → filled_from m to (entered m from s o) ≡ after_tokens m from to s o
filled_since m from to s None = refl
filled_since m from to s (Some n) = refl
