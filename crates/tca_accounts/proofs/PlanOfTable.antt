-- The plan of a table, once its period and its values were read.
use Rattle.std.proofs.Common.{◌≡◌, ◌∙◌, ◌<◌, ◌≤◌, ◌^◌, ◌-◌, ◌⊎◌, ℕ, Bool, true, false, ◌&&◌, List, [], ◌∷◌, length, Ok, Err, nat_le, le-leb, refl, arith}
use Rattle.std.proofs.lemmas.Bool.Decides.{nat_tests}
use Rattle.toml.specs.Data.{Members}
use Rattle.toml.specs.View.{items_view}
use Rattle.toml.specs.declared.value.Value.{Value}
use Rattle.tca_join.specs.Results.{◌>>=◌}
use Rattle.tca_accounts.specs.declared.key.Key.TheVariants as key
use Rattle.tca_accounts.specs.declared.fault.PlanFault.TheVariants as fault
use Rattle.tca_accounts.specs.Documents.{at, has_only, items_of, only_if, plan_of, whole_of}
use Rattle.tca_accounts.specs.inside.Readings.{plan_from}
use Rattle.tca_accounts.proofs.PairsOfValues.{count_items-view}

abbrev in_limits : List Value → Bool
in_limits vs = nat_le 1 (length vs) && nat_le (length vs) 256

-- the top of a plan's document as it was read
pub record IsRead (ms : Members) (period : ℕ) (vs : List Value) : Type 0 where
  pub known : has_only (key.Period ∷ key.Account ∷ []) ms ≡ true
  pub time : Ok period ≡ whole_of key.Period 1 (2 ^ 48 - 1) (at key.Period ms)
  pub accounts : Ok (items_view vs) ≡ items_of key.Account (at key.Account ms)

plan_of-read : (ms : Members) (period : ℕ) (vs : List Value) → IsRead ms period vs → plan_of ms ≡ (only_if (in_limits vs) fault.Limits >>= λ few. plan_from period (items_view vs))
plan_of-read ms period vs read = rw (read.known, ← read.time, ← read.accounts, count_items-view vs) refl

pub plan_of-some : (ms : Members) (period : ℕ) (vs : List Value) → IsRead ms period vs → 0 < length vs → length vs ≤ 256 → plan_of ms ≡ plan_from period (items_view vs)
plan_of-some ms period vs read some few =
    let inside : in_limits vs ≡ true = rw (le-leb 1 (length vs) some, le-leb (length vs) 256 few) refl in
    plan_of-read ms period vs read ∙ rw inside refl

pub plan_of-limits : (ms : Members) (period : ℕ) (vs : List Value) → IsRead ms period vs → (length vs ≡ 0) ⊎ (256 < length vs) → plan_of ms ≡ Err fault.Limits
plan_of-limits ms period vs read out =
    let outside : in_limits vs ≡ false = grind (arith, nat_tests) in
    plan_of-read ms period vs read ∙ rw outside refl
