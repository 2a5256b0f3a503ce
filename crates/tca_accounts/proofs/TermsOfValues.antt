-- The terms of values, one by one, and that they ascend.
use Rattle.std.proofs.Common.{◌≡◌, ◌-◌, ◌<◌, ◌≤◌, ◌+◌, ℕ, pos, true, false, List, [], ◌∷◌, ◌++◌, length, drop, get_or, Option, Some, None, Ok, Err, nat_le, cond, refl, sym, ap, subst, ◌∙◌, arith, add-one, Bool, suc}
use Rattle.std.specs.Prelude.{◌&&◌}
use Rattle.std.proofs.lemmas.Bool.Decides.{nat_tests}
use Rattle.toml.specs.Data.{Data, Items, integer, item, no_items}
use Rattle.toml.specs.View.{items_view, view}
use Rattle.toml.specs.declared.value.Value.{Value}
use Rattle.toml.proofs.Views.{items_view-drop}
use Rattle.tca_join.specs.Results.{◌>>=◌}
use Rattle.tca_meters.specs.declared.any_meter.AnyMeter.{AnyMeter}
use Rattle.tca_report.specs.report.Reports.{time_end}
use Rattle.tca_meters.specs.Termed.{TermedMeter, ascend_from, most_terms, termed}
use Rattle.tca_meters.proofs.Terms.{ascends_all}
use Rattle.tca_accounts.specs.declared.key.Key.{Key}
use Rattle.tca_accounts.specs.declared.key.Key.TheVariants as key
use Rattle.tca_accounts.specs.declared.fault.PlanFault.{PlanFault}
use Rattle.tca_accounts.specs.declared.fault.PlanFault.TheVariants as fault
use Rattle.tca_accounts.specs.Documents.{at, count_items, has_only, judged, kind_in, members_of, meter_in, only_if, term_in, term_keys_of, terms_from, truth_or_false, whole_of, with_terms}
use Rattle.tca_accounts.proofs.AccountsOfValues.{next}
use Rattle.tca_accounts.proofs.PairsOfValues.{count_items-view}
use Rattle.tca_accounts.proofs.Proper.{same, went_on}

-- a term that was read goes behind those so far
pub term_step : (vs : List Value) (i n last : ℕ) (v : Value) (done : List (ℕ × AnyMeter)) (t : ℕ × AnyMeter) → i < length vs → v ≡ get_or vs i v → term_in n last (view v) ≡ Ok t
    → (terms_from n last (items_view (drop i vs)) >>= λ rest. Ok (done ++ rest)) ≡ (terms_from n t.0 (items_view (drop (i + 1) vs)) >>= λ rest. Ok ((done ++ t ∷ []) ++ rest))
term_step vs i n last v done t within is read = rw (items_view-drop vs i v within, ← is, add-one i, read) (next done t _)

-- an integer that was read is within its bounds
record IsBetween (least most n : ℕ) : Type 0 where
  above : least ≤ n
  below : n ≤ most

between_told : (k : Key) (least most n : ℕ) (d : Option Data) → whole_of k least most d ≡ Ok n → IsBetween least most n
between_told k least most n None e = absurd cc
between_told k least most n (Some (integer (pos m))) e =
    elim (nat_le least m && nat_le m most) as (λ b. nat_le least m && nat_le m most ≡ b → IsBetween least most n) [
      | true ↦ λ h. let is : m ≡ n = same (rw h at e) in record { above = grind (arith, nat_tests, h, is); below = grind (arith, nat_tests, h, is) }
      | false ↦ λ h. absurd (let wrong = rw h at e in cc)
    ] refl
between_told k least most n (Some d) e = absurd cc

start_told : (n last : ℕ) (d : Data) (t : ℕ × AnyMeter) → term_in n last d ≡ Ok t → IsBetween (last + 1) (time_end - 1) t.0
start_told n last d t e =
    let ms = went_on (members_of key.Term d) _ t e in
    let kind = went_on (kind_in ms.0) _ t ms.2 in
    let known = went_on (only_if (has_only (term_keys_of kind.0) ms.0) fault.UnknownKey) _ t kind.2 in
    let from = went_on (whole_of key.From (last + 1) (time_end - 1) (at key.From ms.0)) _ t known.2 in
    let aware = went_on (truth_or_false key.Aware (at key.Aware ms.0)) _ t from.2 in
    let told = went_on (meter_in kind.0 aware.0 ms.0) _ t aware.2 in
    let meter = went_on (judged n told.0) _ t told.2 in
    let is = same meter.2 in
    subst (λ (u : ℕ × AnyMeter). IsBetween (last + 1) (time_end - 1) u.0) is (between_told key.From (last + 1) (time_end - 1) from.0 (at key.From ms.0) from.1)

-- terms that were read ascend
pub terms_ascend : (n last : ℕ) (ds : Items) (later : List (ℕ × AnyMeter)) → terms_from n last ds ≡ Ok later → ascend_from last later ≡ true
terms_ascend n last no_items later e = subst (λ (ts : List (ℕ × AnyMeter)). ascend_from last ts ≡ true) (same e) refl
terms_ascend n last (item d ds) later e =
    let one = went_on (term_in n last d) _ later e in
    let others = went_on (terms_from n one.0.0 ds) _ later one.2 in
    let told = start_told n last d one.0 one.1 in
    let above = told.above in
    let below = told.below in
    subst (λ (ts : List (ℕ × AnyMeter)). ascend_from last ts ≡ true) (same others.2) (ascends_all last one.0 others.0 (omega arith) (omega arith) (terms_ascend n one.0.0 ds others.0 others.1))

-- as many terms as values
pub terms_as_many : (n last : ℕ) (ds : Items) (later : List (ℕ × AnyMeter)) → terms_from n last ds ≡ Ok later → length later ≡ count_items ds
terms_as_many n last no_items later e = ap length (sym (same e))
terms_as_many n last (item d ds) later e =
    let one = went_on (term_in n last d) _ later e in
    let others = went_on (terms_from n one.0.0 ds) _ later one.2 in
    ap length (sym (same others.2)) ∙ ap suc (terms_as_many n one.0.0 ds others.0 others.1)

module _ (n : ℕ) (first : AnyMeter) (vs : List Value) where
  pub too_many : nat_le (length vs) most_terms ≡ false → Err fault.Limits ≡ with_terms n first (items_view vs)
  too_many h =
      let out : nat_le (count_items (items_view vs)) most_terms ≡ false = rw (count_items-view vs) h in
      rw out refl

  few : nat_le (length vs) most_terms ≡ true → with_terms n first (items_view vs) ≡ (terms_from n 0 (items_view vs) >>= λ later. Ok (record { first = first; later = later }))
  few h =
      let inside : nat_le (count_items (items_view vs)) most_terms ≡ true = rw (count_items-view vs) h in
      rw inside refl

  pub term_fault : (e : PlanFault) → nat_le (length vs) most_terms ≡ true → Err e ≡ terms_from n 0 (items_view vs) → Err e ≡ with_terms n first (items_view vs)
  term_fault e h read = rw (few h, ← read) refl

  made_is : (t : Bool) (r m : TermedMeter) → Some m ≡ cond t (Some r) None → m ≡ r
  made_is true r m e = cc
  made_is false r m e = absurd cc

  pub made : (later : List (ℕ × AnyMeter)) (m : TermedMeter) → nat_le (length vs) most_terms ≡ true → Ok later ≡ terms_from n 0 (items_view vs) → Some m ≡ termed first later → Ok m ≡ with_terms n first (items_view vs)
  made later m h read e = rw (few h, ← read) (ap Ok (made_is (nat_le (length later) most_terms && ascend_from 0 later) (record { first = first; later = later }) m e))

  -- terms that were read make a meter
  pub none_made : (later : List (ℕ × AnyMeter)) → nat_le (length vs) most_terms ≡ true → Ok later ≡ terms_from n 0 (items_view vs) → None ≡ termed first later → ⊥
  none_made later h read e =
      let many = terms_as_many n 0 (items_view vs) later (sym read) in
      let inside : nat_le (length later) most_terms ≡ true = rw (many, count_items-view vs) h in
      let ascend = terms_ascend n 0 (items_view vs) later (sym read) in
      let none = rw (inside, ascend) at e in
      cc
