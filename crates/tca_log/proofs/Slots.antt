-- Places of spans, numbered one span after another.
use mathlib.Core.Logic.{inl, inr}
use Rattle.std.proofs.Common.{◌≡◌, ℕ, zero, suc, ◌+◌, ◌-◌, ◌<◌, ◌≤◌, Bool, true, false, cond, List, [], ◌∷◌, ◌++◌, length, get_or, set, take, drop, drop-cons, add-one, refl, sym, ap, subst, ◌∙◌, arith}
use Rattle.std.specs.Prelude.{nat_eq, ◌&&◌}
use Rattle.std.specs.List.{AllByRecursion}
use Rattle.std.proofs.lemmas.Bool.{and_parts, eqb-true, false≢true}
use Rattle.tca_report.specs.declared.report.Identity.{Identity}
use Rattle.tca_log.specs.declared.span.Span.{Span}
use Rattle.tca_log.specs.inside.Spans.{IsWithin, IsAmong, is_of, slot, width, widths}

domain_of : (s : Span) (i : Identity) → is_of s i ≡ true → i.domain ≡ s.domain
domain_of s i e = eqb-true i.domain s.domain (and_parts (nat_eq i.domain s.domain) (nat_eq i.session s.session) e).0

session_of : (s : Span) (i : Identity) → is_of s i ≡ true → i.session ≡ s.session
session_of s i e = eqb-true i.session s.session (and_parts (nat_eq i.domain s.domain) (nat_eq i.session s.session) e).1

pub slot_first : (s : Span) (ss : List Span) (i : Identity) → is_of s i ≡ true → slot (s ∷ ss) i ≡ i.place - s.lowest
unfolding slot
slot_first s ss i e = ap (λ (b : Bool). cond b (i.place - s.lowest) (width s + slot ss i)) e

pub slot_later : (s : Span) (ss : List Span) (i : Identity) → is_of s i ≡ false → slot (s ∷ ss) i ≡ width s + slot ss i
unfolding slot
slot_later s ss i e = ap (λ (b : Bool). cond b (i.place - s.lowest) (width s + slot ss i)) e

pub slot_within : (ss : List Span) (i : Identity) → IsAmong ss i → slot ss i < widths ss
unfolding widths IsAmong
slot_within [] i a = absurd a
slot_within (s ∷ ss) i (inl w) = let first = slot_first s ss i w.0 in omega (arith, first, w.1, w.2)
slot_within (s ∷ ss) i (inr l) =
    let later = slot_later s ss i l.0 in
    let rest = slot_within ss i l.1 in
    omega (arith, later, rest)

-- two identities that have one number are one
pub slot_apart : (ss : List Span) (i j : Identity) → IsAmong ss i → IsAmong ss j → slot ss i ≡ slot ss j → i ≡ j
unfolding IsAmong
slot_apart [] i j a b e = absurd a
slot_apart (s ∷ ss) i j (inl w) (inl v) e =
    let first = slot_first s ss i w.0 in
    let other = slot_first s ss j v.0 in
    let d : i.domain ≡ j.domain = domain_of s i w.0 ∙ sym (domain_of s j v.0) in
    let n : i.session ≡ j.session = session_of s i w.0 ∙ sym (session_of s j v.0) in
    let p : i.place ≡ j.place = omega (arith, e, first, other, w.1, v.1) in
    λ k. record { domain = d k; session = n k; place = p k }
slot_apart (s ∷ ss) i j (inl w) (inr l) e =
    let first = slot_first s ss i w.0 in
    let later = slot_later s ss j l.0 in
    absurd (omega (arith, e, first, later, w.1, w.2))
slot_apart (s ∷ ss) i j (inr l) (inl w) e =
    let first = slot_first s ss j w.0 in
    let later = slot_later s ss i l.0 in
    absurd (omega (arith, e, first, later, w.1, w.2))
slot_apart (s ∷ ss) i j (inr l) (inr m) e =
    let later = slot_later s ss i l.0 in
    let other = slot_later s ss j m.0 in
    slot_apart ss i j l.1 m.1 (omega (arith, e, later, other))

-- a span of the same domain and session with all its places
pub record IsWider (s w : Span) : Type 0 where
  pub domain : w.domain ≡ s.domain
  pub session : w.session ≡ s.session
  pub lowest : w.lowest ≤ s.lowest
  pub highest : s.highest ≤ w.highest

is_of_alike : (s w : Span) (i : Identity) → IsWider s w → is_of w i ≡ is_of s i
is_of_alike s w i h = λ k. nat_eq i.domain (h.domain k) && nat_eq i.session (h.session k)

pub widened_old : (ss : List Span) (at : ℕ) (s w : Span) → at < length ss → s ≡ get_or ss at s → IsWider s w → (i : Identity) → IsAmong ss i → IsAmong (set ss at w) i
unfolding IsAmong
widened_old [] at s w h is wide i a = absurd a
widened_old (x ∷ ss) zero s w h is wide i (inl v) =
    let alike : is_of w i ≡ is_of x i = is_of_alike s w i wide ∙ ap (λ (t : Span). is_of t i) is in
    let low = ap (λ (t : Span). t.lowest) is in
    let high = ap (λ (t : Span). t.highest) is in
    inl (alike ∙ v.0, omega (arith, wide.lowest, low, v.1), omega (arith, wide.highest, high, v.2))
widened_old (x ∷ ss) zero s w h is wide i (inr l) =
    let alike : is_of w i ≡ is_of x i = is_of_alike s w i wide ∙ ap (λ (t : Span). is_of t i) is in
    inr (alike ∙ l.0, l.1)
widened_old (x ∷ ss) (suc at) s w h is wide i (inl v) = inl v
widened_old (x ∷ ss) (suc at) s w h is wide i (inr l) = inr (l.0, widened_old ss at s w (omega (arith, h)) is wide i l.1)

pub widened_new : (ss : List Span) (at : ℕ) (s w : Span) → at < length ss → s ≡ get_or ss at s → IsWider s w → (i : Identity) → is_of s i ≡ true → w.lowest ≤ i.place → i.place ≤ w.highest → AllByRecursion (λ t. is_of t i ≡ false) (take at ss) → IsAmong (set ss at w) i
unfolding IsAmong
widened_new [] at s w h is wide i own from to before = absurd (omega (arith, h))
widened_new (x ∷ ss) zero s w h is wide i own from to before = inl (is_of_alike s w i wide ∙ own, from, to)
widened_new (x ∷ ss) (suc at) s w h is wide i own from to before = inr (before.0, widened_new ss at s w (omega (arith, h)) is wide i own from to before.1)

pub added_old : (ss : List Span) (s : Span) (i : Identity) → IsAmong ss i → IsAmong (ss ++ s ∷ []) i
unfolding IsAmong
added_old [] s i a = absurd a
added_old (x ∷ ss) s i (inl v) = inl v
added_old (x ∷ ss) s i (inr l) = inr (l.0, added_old ss s i l.1)

pub added_new : (ss : List Span) (s : Span) (i : Identity) → IsWithin s i → AllByRecursion (λ t. is_of t i ≡ false) ss → IsAmong (ss ++ s ∷ []) i
unfolding IsAmong
added_new [] s i w before = inl w
added_new (x ∷ ss) s i w before = inr (before.0, added_new ss s i w before.1)

-- the first of the spans that are left
pub cut : (ss : List Span) (i : ℕ) (s : Span) → i < length ss → s ≡ get_or ss i s → drop i ss ≡ s ∷ drop (i + 1) ss
cut ss i s h is = rw add-one (drop-cons ss i s h ∙ ap (λ (t : Span). t ∷ drop (suc i) ss) (sym is))

pub first_within : (s : Span) (ss : List Span) (i : Identity) → IsAmong (s ∷ ss) i → is_of s i ≡ true → IsWithin s i
unfolding IsAmong
first_within s ss i (inl w) own = w
first_within s ss i (inr l) own = absurd (false≢true (sym l.0 ∙ own))

pub later_among : (s : Span) (ss : List Span) (i : Identity) → IsAmong (s ∷ ss) i → is_of s i ≡ false → IsAmong ss i
unfolding IsAmong
later_among s ss i (inl w) other = absurd (false≢true (sym other ∙ w.0))
later_among s ss i (inr l) other = l.1

pub among_none : (i : Identity) → IsAmong [] i → ⊥
unfolding IsAmong
among_none i a = a

pub widths_first : (s : Span) (ss : List Span) → widths (s ∷ ss) ≡ width s + widths ss
unfolding widths
widths_first s ss = refl

pub widths_none : widths [] ≡ 0
unfolding widths
widths_none = refl

taken : (P : Span → Type 0) (ss : List Span) (i : ℕ) (s : Span) → i < length ss → s ≡ get_or ss i s → AllByRecursion P (take i ss) → P s → AllByRecursion P (take (suc i) ss)
taken P [] i s h is all one = absurd (omega (arith, h))
taken P (x ∷ ss) zero s h is all one = (subst P is one, tt)
taken P (x ∷ ss) (suc i) s h is all one = (all.0, taken P ss i s (omega (arith, h)) is all.1 one)

pub taken_more : (P : Span → Type 0) (ss : List Span) (i : ℕ) (s : Span) → i < length ss → s ≡ get_or ss i s → AllByRecursion P (take i ss) → P s → AllByRecursion P (take (i + 1) ss)
taken_more P ss i s h is all one = rw add-one (taken P ss i s h is all one)
