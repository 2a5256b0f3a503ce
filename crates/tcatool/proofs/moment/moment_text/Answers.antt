use Rattle.std.proofs.Common.{◌≡◌, ◌∙◌, ◌<◌, ◌≤◌, ℕ, ◌*◌, ◌/◌, ◌^◌, ℤ, pos, ◌*ℤ◌, Option, Some, None, Result, Ok, Err, inl, inr, refl, sym, ap, arith, to_z, of_z, w64, SFits, to_z-of_z, true≢false}
use Rattle.std.specs.Option.{is_some, unwrap_or}
use Rattle.std.proofs.lemmas.Bool.{cases_lt, le-ltb, lt-ltb}
use Rattle.std.specs.Result.{IfOk, IsOk, OkIff, result_ok}
use Rattle.jiff_core.proofs.SignedLemmas.{signed_arith}
use Rattle.jiff_core.specs.Timestamp.{IsTimestampNanos}
use Rattle.jiff_core.specs.declared.timestamp.Timestamp.{Timestamp}
use Rattle.tcatool.specs.Moments.{moment_text, first_unshown}
use Rattle.tcatool.proofs.Shown.{shown_is}
use Rattle.tcatool.proofs.moment.moment_text.Goals as goal

-- a number that was taken as one of 64 bits with a sign
taken : {E : Type 0} (r : Result ℤ E) (m : ℕ) (signed : ℤ) → OkIff r (SFits w64 (pos m)) (pos m) → result_ok r ≡ Some signed → to_z w64 (of_z w64 signed) ≡ pos m
taken (Ok x) m signed h e =
    let is : signed ≡ pos m = sym (ap (λ (o : Option ℤ). unwrap_or o (pos m)) e) ∙ h.1 in
    rw is (to_z-of_z h.0)
taken (Err x) m signed h e = absurd (true≢false (sym (ap (λ (o : Option ℤ). is_some o) e)))

-- and one that wasn't
not_taken : {E : Type 0} (r : Result ℤ E) (m : ℕ) → OkIff r (SFits w64 (pos m)) (pos m) → result_ok r ≡ None → first_unshown ≤ m / 1000
not_taken (Ok x) m h e = absurd (true≢false (ap (λ (o : Option ℤ). is_some o) e))
not_taken (Err x) m h e =
    elim (cases_lt m (2 ^ 63)) [
      | inl small ↦ absurd (h (record { sfits = small }))
      | inr big ↦ omega (arith, big)
    ]

-- an instant that there is none of
no_instant : {E : Type 0} (r : Result Timestamp E) (z : ℤ) (m : ℕ) → z ≡ pos m → (IsTimestampNanos (z *ℤ pos 1_000_000) → IsOk r) → result_ok r ≡ None → first_unshown ≤ m / 1000
no_instant (Ok t) z m is only e = absurd (true≢false (ap (λ (o : Option Timestamp). is_some o) e))
no_instant (Err t) z m is only e =
    elim (cases_lt (m / 1000) first_unshown) [
      | inr big ↦ big
      | inl small ↦ absurd (true≢false (sym (only (rw is (omega (arith, signed_arith, small), omega (arith, signed_arith, small))))))
    ]

-- one that there is
an_instant : {E : Type 0} (r : Result Timestamp E) (z : ℤ) (m : ℕ) (t : Timestamp) → z ≡ pos m → (IsOk r → IsTimestampNanos (z *ℤ pos 1_000_000)) → IfOk r (λ t. t.nanosecond ≡ z *ℤ pos 1_000_000)
    → result_ok r ≡ Some t → (m / 1000 < first_unshown) × (t.nanosecond ≡ pos (m * 1_000_000))
an_instant (Ok x) z m t is within value e =
    let same : x ≡ t = ap (λ (o : Option Timestamp). unwrap_or o x) e in
    let range = rw is at (within refl) in
    (omega (arith, signed_arith, range), rw (← same) (omega (arith, signed_arith, value, is)))
an_instant (Err x) z m t is within value e = absurd (true≢false (sym (ap (λ (o : Option Timestamp). is_some o) e)))

pub returns-in_err-signed : goal.returns-in_err-signed
unfolding moment_text
returns-in_err-signed c =
    rw (c.from_residual.ensures, le-ltb (c.args.milliseconds / 1000) first_unshown (not_taken c.try_from.result c.args.milliseconds c.try_from.ensures (sym c.ok.ensures.value ∙ c.in_err-signed.was))) refl

pub returns-in_err-moment : goal.returns-in_err-moment
unfolding moment_text
returns-in_err-moment c =
    let m = c.args.milliseconds in
    let signed = taken c.try_from.result m c.in_ok-signed.signed c.try_from.ensures (sym c.ok.ensures.value ∙ c.in_ok-signed.was) in
    let late = no_instant c.from_millisecond.result _ m signed c.from_millisecond.ensures.succeeds.1 (sym c.ok-2.ensures.value ∙ c.in_err-moment.was) in
    rw (c.from_residual-in_err-moment.ensures, le-ltb (m / 1000) first_unshown late) refl

pub returns : goal.returns
unfolding moment_text
returns c =
    let m = c.args.milliseconds in
    let signed = taken c.try_from.result m c.in_ok-signed.signed c.try_from.ensures (sym c.ok.ensures.value ∙ c.in_ok-signed.was) in
    let instant = an_instant c.from_millisecond.result _ m c.in_ok-moment.moment signed c.from_millisecond.ensures.succeeds.0 c.from_millisecond.ensures.value (sym c.ok-2.ensures.value ∙ c.in_ok-moment.was) in
    let text = c.timestamp_text.ensures in
    let options = c.new.ensures in
    let shown = shown_is text.0 m (text.1 ∙ ap (λ (t : Timestamp). t.nanosecond) c.to_plain.ensures ∙ instant.1) in
    rw (lt-ltb (m / 1000) first_unshown instant.0) (ap Some (rw (ap (λ o. o.0) options, ap (λ o. o.1) options, ap (λ o. o.2) options) at text.2 ∙ shown))
