-- What a plan is: the length of a period, and accounts, each with a meter and the traffic that it owns.
use Rattle.std.specs.Prelude.{◌≡◌, ℕ, ◌<◌, ◌≤◌, ◌==◌, Bool, true, ◌&&◌, not, List, [], ◌∷◌, length, nat_le, Option}
use Rattle.std.specs.List.{AllByRecursion, list_all, list_any, flat_map, position_from}
use Rattle.std.specs.Str.{bytes_eq}
use Rattle.tca_meters.specs.Termed.{TermedMeter}
use Rattle.tca_meters.specs.declared.colour.Colour.{Colour}
use Rattle.tca_report.specs.report.Reports.{PacketReport, time_end}

-- an account: its name, its meter with its terms, the colour that a code point without a colour of its own has, and the pairs of an
-- observation domain and an interface whose reports it owns
pub record PlannedAccount : Type 0 where
  pub name : List ℕ
  pub meter : TermedMeter
  pub other : Colour
  pub pairs : List (ℕ × ℕ)

-- a plan: the milliseconds of a period, and the accounts in their order
pub record AccountPlan : Type 0 where
  pub period : ℕ
  pub accounts : List PlannedAccount

-- the most accounts, and the most pairs of all of them
abbrev pub most_accounts : ℕ
most_accounts = 256

abbrev pub most_pairs : ℕ
most_pairs = 4096

-- whether two pairs are the same
abbrev pub same_pair : ℕ × ℕ → ℕ × ℕ → Bool
same_pair p q = (p.0 == q.0) && (p.1 == q.1)

-- whether an account owns a pair
abbrev pub owns : PlannedAccount → ℕ × ℕ → Bool
owns a pair = list_any (same_pair pair) a.pairs

-- the observation domain and the interface of a report
abbrev pub pair_of : PacketReport → ℕ × ℕ
pair_of r = (r.domain, r.iface)

-- the account, counted from 0, that owns a report, or none
unfoldable pub account_of : AccountPlan → PacketReport → Option ℕ
account_of plan r = position_from (λ a. owns a (pair_of r)) 0 plan.accounts

-- the pairs of all accounts, in their order
abbrev pub all_pairs : List PlannedAccount → List (ℕ × ℕ)
all_pairs accounts = flat_map (λ a. a.pairs) accounts

-- no member is the same as one behind it
abbrev pub all_differ : {K : Type 0} → (K → K → Bool) → List K → Bool
all_differ same [] = true
all_differ same (k ∷ ks) = not (list_any (same k) ks) && all_differ same ks

-- no pair has two accounts, or one account twice, and no two accounts have one name
abbrev pub are_distinct : List PlannedAccount → Bool
are_distinct accounts = all_differ same_pair (all_pairs accounts) && all_differ (λ a b. bytes_eq a.name b.name) accounts

-- a letter or digit of ASCII, a hyphen or an underscore
abbrev pub is_name_octet : ℕ → Bool
is_name_octet c = list_any (λ (range : ℕ × ℕ). nat_le range.0 c && nat_le c range.1) ((65, 90) ∷ (97, 122) ∷ (48, 57) ∷ (45, 45) ∷ (95, 95) ∷ [])

-- a name has 1 to 32 of these
abbrev pub is_name : List ℕ → Bool
is_name s = nat_le 1 (length s) && (nat_le (length s) 32 && list_all is_name_octet s)

-- a plan's period is 1 to 2^48-1 ms, it has 1 to 256 accounts with 4,096 pairs at most, each account has a name and a pair at least, and no
-- pair and no name stands twice
pub record IsPlan (plan : AccountPlan) : Type 0 where
  pub some_time : 0 < plan.period
  pub time : plan.period < time_end
  pub some : 0 < length plan.accounts
  pub few : length plan.accounts ≤ most_accounts
  pub pairs : length (all_pairs plan.accounts) ≤ most_pairs
  pub named : AllByRecursion (λ a. is_name a.name ≡ true) plan.accounts
  pub owning : AllByRecursion (λ a. 0 < length a.pairs) plan.accounts
  pub distinct : are_distinct plan.accounts ≡ true
