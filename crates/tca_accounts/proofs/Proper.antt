-- The accounts of a document have names and pairs.
use Rattle.std.proofs.Common.{◌≡◌, ◌<◌, ℕ, suc, Bool, true, false, List, length, Result, Ok, Err, nat_le, refl, sym, ap, subst, ◌∙◌, arith}
use Rattle.std.proofs.lemmas.Bool.Decides.{nat_tests}
use Rattle.std.specs.List.{AllByRecursion}
use Rattle.toml.specs.Data.{Data, Items, Members, item, no_items}
use Rattle.tca_join.specs.Results.{◌>>=◌}
use Rattle.tca_accounts.specs.Plans.{PlannedAccount, is_name}
use Rattle.tca_accounts.specs.declared.key.Key.TheVariants as key
use Rattle.tca_accounts.specs.Documents.{account_in, accounts_from, at, count_items, has_only, items_of, keys_of, kind_in, members_of, meter_in, name_in, only_if, other_of, pair_in, pairs_in, pairs_of, termed_in, terms_in, text_of, truth_or_false}
use Rattle.tca_accounts.specs.declared.fault.PlanFault.TheVariants as fault
use Rattle.tca_accounts.specs.declared.fault.PlanFault.{PlanFault}

-- a step that went on
pub went_on : {A B : Type 0} (first : Result A PlanFault) (next : A → Result B PlanFault) (b : B) → (first >>= next) ≡ Ok b → (a : A) × (first ≡ Ok a) × (next a ≡ Ok b)
went_on (Ok a) next b e = (a, refl, e)
went_on (Err f) next b e = absurd cc

held : (b : Bool) (f : PlanFault) (u : Unit {0}) → only_if b f ≡ Ok u → b ≡ true
held true f u e = refl
held false f u e = absurd cc

abbrev pub done : {A : Type 0} → A → Result A PlanFault
done a = Ok a

pub same : {A : Type 0} {a b : A} → done a ≡ done b → a ≡ b
same e = cc

pub pairs_as_many : (ds : Items) (pairs : List (ℕ × ℕ)) → pairs_of ds ≡ Ok pairs → length pairs ≡ count_items ds
pairs_as_many no_items pairs e = ap length (sym (same e))
pairs_as_many (item d ds) pairs e =
    let one = went_on (pair_in d) _ pairs e in
    let others = went_on (pairs_of ds) _ pairs one.2 in
    ap length (sym (same others.2)) ∙ ap suc (pairs_as_many ds others.0 others.1)

name_told : (ms : Members) (s : List ℕ) → name_in ms ≡ Ok s → is_name s ≡ true
name_told ms s e =
    let read = went_on (text_of key.Name (at key.Name ms)) _ s e in
    let told = went_on (only_if (is_name read.0) _) _ s read.2 in
    subst (λ (t : List ℕ). is_name t ≡ true) (same told.2) (held (is_name read.0) _ told.0 told.1)

pairs_told : (ms : Members) (pairs : List (ℕ × ℕ)) → pairs_in ms ≡ Ok pairs → 0 < length pairs
pairs_told ms pairs e =
    let read = went_on (items_of key.Keys (at key.Keys ms)) _ pairs e in
    let some = went_on (only_if (nat_le 1 (count_items read.0)) _) _ pairs read.2 in
    let count = held (nat_le 1 (count_items read.0)) _ some.0 some.1 in
    grind (arith, nat_tests, count, pairs_as_many read.0 pairs some.2)

-- an account that was read
record IsProper (a : PlannedAccount) : Type 0 where
  named : is_name a.name ≡ true
  owning : 0 < length a.pairs

account_told : (n : ℕ) (d : Data) (a : PlannedAccount) → account_in n d ≡ Ok a → IsProper a
account_told n d a e =
    let ms = went_on (members_of key.Account d) _ a e in
    let kind = went_on (kind_in ms.0) _ a ms.2 in
    let known = went_on (only_if (has_only (keys_of kind.0) ms.0) fault.UnknownKey) _ a kind.2 in
    let name = went_on (name_in ms.0) _ a known.2 in
    let aware = went_on (truth_or_false key.Aware (at key.Aware ms.0)) _ a name.2 in
    let other = went_on (other_of (at key.Other ms.0)) _ a aware.2 in
    let told = went_on (meter_in kind.0 aware.0 ms.0) _ a other.2 in
    let pairs = went_on (pairs_in ms.0) _ a told.2 in
    let terms = went_on (terms_in ms.0) _ a pairs.2 in
    let meter = went_on (termed_in n told.0 terms.0) _ a terms.2 in
    let is = same meter.2 in
    record {
      named = subst (λ (b : PlannedAccount). is_name b.name ≡ true) is (name_told ms.0 name.0 name.1);
      owning = subst (λ (b : PlannedAccount). 0 < length b.pairs) is (pairs_told ms.0 pairs.0 pairs.1);
    }

pub all_named : (n : ℕ) (ds : Items) (accounts : List PlannedAccount) → accounts_from n ds ≡ Ok accounts → AllByRecursion (λ a. is_name a.name ≡ true) accounts
all_named n no_items accounts e = subst (AllByRecursion (λ (a : PlannedAccount). is_name a.name ≡ true)) (same e) tt
all_named n (item d ds) accounts e =
    let one = went_on (account_in n d) _ accounts e in
    let others = went_on (accounts_from (suc n) ds) _ accounts one.2 in
    subst (AllByRecursion (λ (a : PlannedAccount). is_name a.name ≡ true)) (same others.2) ((account_told n d one.0 one.1).named, all_named (suc n) ds others.0 others.1)

pub all_owning : (n : ℕ) (ds : Items) (accounts : List PlannedAccount) → accounts_from n ds ≡ Ok accounts → AllByRecursion (λ a. 0 < length a.pairs) accounts
all_owning n no_items accounts e = subst (AllByRecursion (λ (a : PlannedAccount). 0 < length a.pairs)) (same e) tt
all_owning n (item d ds) accounts e =
    let one = went_on (account_in n d) _ accounts e in
    let others = went_on (accounts_from (suc n) ds) _ accounts one.2 in
    subst (AllByRecursion (λ (a : PlannedAccount). 0 < length a.pairs)) (same others.2) ((account_told n d one.0 one.1).owning, all_owning (suc n) ds others.0 others.1)
