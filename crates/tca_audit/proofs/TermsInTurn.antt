-- The terms of a meter, looked at one after the other.
use Rattle.std.proofs.Common.{◌≡◌, ℕ, suc, ◌<◌, ◌≤◌, min, length, refl, arith, inl, inr}
use Rattle.std.specs.Prelude.{None}
use Rattle.std.proofs.lemmas.Bool.{cases_lt}
use Rattle.tca_meters.specs.declared.any_meter.AnyMeter.{AnyMeter}
use Rattle.tca_meters.specs.declared.termed.InTerm.{InTerm}
use Rattle.tca_meters.specs.AnyMeters.{any_rule}
use Rattle.tca_meters.specs.Termed.{IsTermed, TermedMeter, after_tokens, begun, term, term_at}
use Rattle.tca_meters.specs.laws.TermedLaws.{begins, begins_none, has_started}
use Rattle.tca_meters.proofs.Terms.{starts_later, terms_rise}

-- a term's number, and full buckets
abbrev full_at : TermedMeter → ℕ → InTerm
full_at m n = record { term = n; levels = (any_rule (term m n).1).opening }

-- The state, and the time after which tokens are to come in, once the first terms were looked at: where one of them starts in the interval
-- the last that does, with full buckets, and its start.
pub record IsAt (m : TermedMeter) (from to : ℕ) (s : InTerm) (k : ℕ) (next : InTerm) (last : ℕ) : Type 0 where
  pub none : min k (term_at m to) ≤ term_at m from → (next ≡ s) × (last ≡ from)
  pub some : term_at m from < min k (term_at m to) → (next ≡ full_at m (min k (term_at m to))) × (last ≡ (term m (min k (term_at m to))).0)

module _ (m : TermedMeter) (from to : ℕ) (s : InTerm) where
  pub at_first : IsAt m from to s 0 s from
  at_first = record { none = λ h. (refl, refl); some = λ h. absurd (omega arith) }

  module _ (is : IsTermed m) (k : ℕ) (next : InTerm) (last : ℕ) (inside : k < length m.later) (at : IsAt m from to s k next last) where
    -- the next term starts at or before the end
    reached : (term m (suc k)).0 ≤ to → suc k ≤ term_at m to
    reached h =
        elim (cases_lt (term_at m to) (suc k)) [
          | inl below ↦ let past = starts_later m to (suc k) is below (omega arith) in absurd (omega arith)
          | inr there ↦ there
        ]

    -- a term that starts in the interval
    pub at_start : last < (term m (suc k)).0 → (term m (suc k)).0 ≤ to → IsAt m from to s (suc k) (full_at m (suc k)) (term m (suc k)).0
    at_start above below =
        let there = reached below in
        let this : min (suc k) (term_at m to) ≡ suc k = omega arith in
        let before : min k (term_at m to) ≡ k = omega arith in
        record {
          none = λ h.
              let here : suc k ≤ term_at m from = omega arith in
              let early = has_started m from (suc k) here in
              let same = (at.none (omega arith)).1 in
              absurd (omega arith);
          some = λ h. rw this (refl, refl);
        }

    pub starts_here : (next' : InTerm) (last' k' : ℕ) (t : ℕ × AnyMeter) → t ≡ term m (suc k) → k' ≡ suc k → next' ≡ record { term = k'; levels = (any_rule t.1).opening } → last' ≡ t.0
        → last < t.0 → t.0 ≤ to → IsAt m from to s k' next' last'
    starts_here next' last' k' t is-t is-k is-next is-last above below =
        let above : last < (term m (suc k)).0 = rw is-t at above in
        let below : (term m (suc k)).0 ≤ to = rw is-t at below in
        rw (is-next, is-last, is-k, is-t) (at_start above below)

    -- one that starts later
    pub at_later : to < (term m (suc k)).0 → IsAt m from to s (suc k) next last
    at_later past =
        let below : term_at m to ≤ k =
        elim (cases_lt k (term_at m to)) [
          | inl above ↦ let early = has_started m to (suc k) (omega arith) in absurd (omega arith)
          | inr below ↦ below
        ] in
        let same : min (suc k) (term_at m to) ≡ min k (term_at m to) = omega arith in
        record { none = λ h. at.none (rw same at h); some = λ h. rw same (at.some (rw same at h)) }

    -- one that started before
    pub at_earlier : (term m (suc k)).0 ≤ last → (term m (suc k)).0 ≤ to → IsAt m from to s (suc k) next last
    at_earlier early below =
        let there = reached below in
        let this : min (suc k) (term_at m to) ≡ suc k = omega arith in
        let before : min k (term_at m to) ≡ k = omega arith in
        let rises = terms_rise m k is inside in
        elim (cases_lt (term_at m from) k) [
          | inl had ↦
              let at_start = (at.some (omega arith)).1 in
              let start : last ≡ (term m k).0 = rw before at at_start in
              absurd (omega arith)
          | inr none ↦
              let same = at.none (omega arith) in
              let last_is = same.1 in
              let here : suc k ≤ term_at m from =
              elim (cases_lt (term_at m from) (suc k)) [
                | inl over ↦ let past = starts_later m from (suc k) is over (omega arith) in absurd (omega arith)
                | inr here ↦ here
              ] in
              record { none = λ h. same; some = λ h. absurd (omega arith) }
        ]

  -- the time after which tokens come in is no later than the end
  pub by_end : from ≤ to → (k : ℕ) (next : InTerm) (last : ℕ) → IsAt m from to s k next last → last ≤ to
  by_end order k next last at =
      elim (cases_lt (term_at m from) (min k (term_at m to))) [
        | inl some ↦ let is = (at.some some).1 in let early = has_started m to (min k (term_at m to)) (omega arith) in omega (arith, is, early)
        | inr none ↦ let is = (at.none none).1 in omega (arith, is)
      ]

  -- all terms
  pub at_last : (k : ℕ) (next : InTerm) (last : ℕ) → term_at m to ≤ k → IsAt m from to s k next last
      → after_tokens m last to next None ≡ after_tokens m from to s (begun m from to)
  at_last k next last all at =
      let whole : min k (term_at m to) ≡ term_at m to = omega arith in
      elim (cases_lt (term_at m from) (term_at m to)) [
        | inl some ↦ let found = rw whole at (at.some (omega arith)) in rw (found.0, found.1, begins m from to some) refl
        | inr none ↦ let same = at.none (omega arith) in rw (same.0, same.1, begins_none m from to none) refl
      ]
