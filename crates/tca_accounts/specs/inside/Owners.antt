-- A map from pairs to the accounts that own them. No public contract cites this: it serves the plan's map and its proofs alone.
use Rattle.std.specs.Prelude.{◌≡◌, ℕ, ◌+◌, ◌*◌, ◌/◌, ◌%◌, ◌^◌, Bool, ◌&&◌, true, false, List, [], ◌∷◌, ◌++◌, get_or, length, map, Option, Some, None, is_none, cond}
use Rattle.std.specs.List.{list_all, position_from}
use Rattle.std.specs.Map.{lookup}
use Rattle.std.specs.BTreeMap.{is_at}
use Rattle.std.specs.Cmp.{IsTotalOrder, nat_cmp_total}
use Rattle.std.proofs.lemmas.Cmp.{on_total, then_total}
use Rattle.std.specs.Ordering.{nat_cmp, ordering_then}
use Rattle.std.specs.declared.cmp.Ordering.{Ordering}
use Rattle.tca_accounts.specs.Plans.{PlannedAccount, all_differ, owns, same_pair}

-- by observation domain, and then by interface
abbrev pub pair_cmp : ℕ × ℕ → ℕ × ℕ → Ordering
pair_cmp p q = ordering_then (nat_cmp p.0 q.0) (nat_cmp p.1 q.1)

-- that order is total
pub pair_total : IsTotalOrder pair_cmp
pair_total = then_total (on_total (λ p. p.0) nat_cmp_total) (on_total (λ p. p.1) nat_cmp_total)

-- what the entries have for a pair
abbrev pub owner_in : List ((ℕ × ℕ) × ℕ) → ℕ × ℕ → Option ℕ
owner_in entries pair = lookup (is_at (pair_cmp pair)) entries

-- the entries have for each pair the account that owns it, counted from 0
abbrev pub AreOwners : List PlannedAccount → List ((ℕ × ℕ) × ℕ) → Type 0
AreOwners accounts entries = (pair : ℕ × ℕ) → owner_in entries pair ≡ position_from (λ a. owns a pair) 0 accounts

-- the entries of a map, once this pair has this account
abbrev pub Gains : List ((ℕ × ℕ) × ℕ) → ℕ × ℕ → ℕ → List ((ℕ × ℕ) × ℕ) → Type 0
Gains old k n new = (q : ℕ × ℕ) → owner_in new q ≡ cond (same_pair k q) (Some n) (owner_in old q)

-- the slot of a pair in a table of 4,096: the highest 12 bits of its product with a number of 64 bits
unfoldable pub slot_of : ℕ × ℕ → ℕ
slot_of p = (p.0 * 4294967296 + p.1) * 11400714819323198485 % 2 ^ 64 / 2 ^ 52

-- what a slot says of the account of a pair whose slot it is: none where it is empty, and where it has this pair its account
abbrev pub Tells : Option ((ℕ × ℕ) × ℕ) → ℕ × ℕ → Option ℕ → Type 0
Tells None pair owner = owner ≡ None
Tells (Some e) pair owner = same_pair e.0 pair ≡ true → owner ≡ Some e.1

-- each pair's slot says what the entries have for it
pub record AreSlots (slots : List (Option ((ℕ × ℕ) × ℕ))) (entries : List ((ℕ × ℕ) × ℕ)) : Type 0 where
  pub count : length slots ≡ 4096
  pub each : (pair : ℕ × ℕ) → Tells (get_or slots (slot_of pair) None) pair (owner_in entries pair)

-- each pair of accounts with the number of its account, the first of which has number n
abbrev pub owned : ℕ → List PlannedAccount → List ((ℕ × ℕ) × ℕ)
owned n [] = []
owned n (a ∷ rest) = map (λ k. (k, n)) a.pairs ++ owned (n + 1) rest

-- the account of a pair, among pairs with their accounts
unfoldable pub owner_among : List ((ℕ × ℕ) × ℕ) → ℕ × ℕ → Option ℕ
owner_among [] pair = None
owner_among (e ∷ es) pair = cond (same_pair pair e.0) (Some e.1) (owner_among es pair)

-- the first, or the second where there is none
abbrev pub or_else : Option ℕ → Option ℕ → Option ℕ
or_else (Some n) other = Some n
or_else None other = other

-- no pair of these has an entry, or stands twice
unfoldable pub are_new : List ((ℕ × ℕ) × ℕ) → List ((ℕ × ℕ) × ℕ) → Bool
are_new entries more = list_all (λ e. is_none (owner_in entries e.0)) more && all_differ same_pair (map (λ e. e.0) more)

-- The entries, and then these pairs, say whose each pair is.
abbrev pub owner_then : List ((ℕ × ℕ) × ℕ) → List ((ℕ × ℕ) × ℕ) → ℕ × ℕ → Option ℕ
owner_then entries more pair = or_else (owner_in entries pair) (owner_among more pair)

-- Entries with pairs to come have gone on to others with fewer to come: with whatever follows, each pair has the account that it had, and
-- all pairs are new where they were.
pub record GoesOn (old mine new rest : List ((ℕ × ℕ) × ℕ)) : Type 0 where
  pub owner : (more : List ((ℕ × ℕ) × ℕ)) (pair : ℕ × ℕ) → owner_then old (mine ++ more) pair ≡ owner_then new (rest ++ more) pair
  pub are_new : (more : List ((ℕ × ℕ) × ℕ)) → are_new old (mine ++ more) ≡ are_new new (rest ++ more)

-- a pair of these has an entry, or stands twice
abbrev pub IsTwice : List ((ℕ × ℕ) × ℕ) → List ((ℕ × ℕ) × ℕ) → Type 0
IsTwice entries mine = (more : List ((ℕ × ℕ) × ℕ)) → are_new entries (mine ++ more) ≡ false
