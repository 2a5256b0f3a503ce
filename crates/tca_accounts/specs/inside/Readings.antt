-- What the parts of a TOML document are to those who read them. No public contract cites this: it serves private functions and
-- their proofs alone.
use Rattle.std.specs.Prelude.{ℕ, Bool, true, not, ◌&&◌, ◌||◌, List, [], ◌∷◌, length, take, Option, Result, Ok, Err, option_map, nat_le}
use Rattle.std.specs.List.{list_any}
use Rattle.std.specs.Str.{bytes_eq}
use Rattle.std.specs.Borrow.{Bor}
use Rattle.toml.specs.Data.{Data, Items}
use Rattle.toml.specs.View.{items_view, view}
use Rattle.toml.specs.declared.value.Value.{Value}
use Rattle.tca_join.specs.Results.{◌>>=◌}
use Rattle.tca_meters.specs.declared.any_meter.AnyMeter.{AnyMeter}
use Rattle.tca_accounts.specs.Plans.{AccountPlan, PlannedAccount, all_differ, all_pairs, are_distinct, most_pairs, owns, same_pair}
use Rattle.tca_accounts.specs.Documents.{account_in, accounts_from, only_if, pairs_of, plan_with}
use Rattle.tca_accounts.specs.declared.draft.Draft.{Draft}
use Rattle.tca_accounts.specs.declared.fault.PlanFault.{PlanFault}
use Rattle.tca_accounts.specs.declared.fault.PlanFault.TheVariants.{KeyTwice, Limits}

-- what a look-up found, as what stands in the document
abbrev pub found : Option (Bor Value) → Option Data
found value = option_map (λ v. view v.now) value

-- what was read, seen as something else
abbrev pub mapped : {A B : Type 0} → (A → B) → Result A PlanFault → Result B PlanFault
mapped f (Ok x) = Ok (f x)
mapped f (Err e) = Err e

-- nothing, where something was read, else its fault
abbrev pub passes : {A : Type 0} → Result A PlanFault → Result Unit PlanFault
passes read = read >>= λ x. Ok tt

-- nothing, where each element is a pair, else the fault of the first that is none
abbrev pub each_is_pair : Items → Result Unit PlanFault
each_is_pair ds = passes (pairs_of ds)

-- the pairs that values are, once they were found
abbrev pub pairs_read : Result (Bor (List Value)) PlanFault → Result (List (ℕ × ℕ)) PlanFault
pairs_read values = values >>= λ list. pairs_of (items_view list.now)

-- the account that a draft becomes
abbrev pub drafted : Draft → Result PlannedAccount PlanFault
drafted d = do
  pairs ← pairs_of (items_view d.pairs.now)
  Ok (record { name = d.name.now; meter = d.meter; other = d.other; pairs = pairs })

-- the account that was read, once it becomes one
abbrev pub account_read : Result Draft PlanFault → Result PlannedAccount PlanFault
account_read draft = draft >>= drafted

-- so many slots, once terms were read into them
abbrev pub read_into : ℕ → List (ℕ × AnyMeter) → Result Unit PlanFault → Result (List (ℕ × AnyMeter)) PlanFault
read_into n slots read = read >>= λ told. Ok (take n slots)

-- the plan of the accounts that these elements are
abbrev pub plan_from : ℕ → Items → Result AccountPlan PlanFault
plan_from period ds = accounts_from 0 ds >>= plan_with period

-- something of the pairs that these elements are
abbrev pub of_pairs : {A : Type 0} → (List (ℕ × ℕ) → A) → Items → Result A PlanFault
of_pairs f ds = pairs_of ds >>= λ pairs. Ok (f pairs)

-- something of the accounts that these elements from account n on are
abbrev pub of_accounts : {A : Type 0} → (List PlannedAccount → A) → ℕ → Items → Result A PlanFault
of_accounts f n ds = accounts_from n ds >>= λ accounts. Ok (f accounts)

-- the name of account n
abbrev pub named_in : ℕ → Data → Result (List ℕ) PlanFault
named_in n d = account_in n d >>= λ a. Ok a.name

-- the pairs of account n
abbrev pub pairs_at : ℕ → Data → Result (List (ℕ × ℕ)) PlanFault
pairs_at n d = account_in n d >>= λ a. Ok a.pairs

-- there are 4,096 pairs at most
abbrev pub are_few : List PlannedAccount → Bool
are_few accounts = nat_le (length (all_pairs accounts)) most_pairs

-- no two accounts have one name
abbrev pub names_differ : List PlannedAccount → Bool
names_differ accounts = all_differ (λ a b. bytes_eq a.name b.name) accounts

-- no pair has two accounts, or one account twice
abbrev pub pairs_differ : List PlannedAccount → Bool
pairs_differ accounts = all_differ same_pair (all_pairs accounts)

-- none of an account's pairs is one behind it, or one of these other accounts
abbrev pub differ_before : List PlannedAccount → List (ℕ × ℕ) → Bool
differ_before others [] = true
differ_before others (pair ∷ pairs) = not (list_any (same_pair pair) pairs || list_any (λ a. owns a pair) others) && differ_before others pairs

-- the same of an account whose pairs these elements are, before the accounts from account n on
abbrev pub differ_from : ℕ → Items → Items → Result Bool PlanFault
differ_from n ds ks = pairs_of ks >>= λ pairs. of_accounts (λ others. differ_before others pairs) n ds

-- nothing, where accounts may stand in one plan, else why they may not
abbrev pub together : List PlannedAccount → Result Unit PlanFault
together accounts = do
  few ← only_if (are_few accounts) Limits
  only_if (are_distinct accounts) KeyTwice

-- nothing, where these elements are the accounts of a plan, else the first fault
abbrev pub are_accounts : Items → Result Unit PlanFault
are_accounts ds = accounts_from 0 ds >>= together
