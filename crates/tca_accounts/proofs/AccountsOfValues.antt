-- The accounts of values, one by one.
use Rattle.std.proofs.Common.{◌≡◌, ◌<◌, ◌+◌, ℕ, List, [], ◌∷◌, ◌++◌, length, drop, get_or, Result, Ok, Err, refl, sym, ap, add-one, append_assoc}
use Rattle.toml.specs.View.{items_view, view}
use Rattle.toml.specs.declared.value.Value.{Value}
use Rattle.toml.proofs.Views.{items_view-drop}
use Rattle.tca_join.specs.Results.{◌>>=◌}
use Rattle.tca_accounts.specs.Plans.{PlannedAccount}
use Rattle.tca_accounts.specs.Documents.{account_in, accounts_from}
use Rattle.tca_accounts.specs.declared.fault.PlanFault.{PlanFault}

-- one more of those so far, and the rest
pub next : {A : Type 0} (done : List A) (a : A) (s : Result (List A) PlanFault) → ((Ok a >>= λ x. s >>= λ others. Ok (x ∷ others)) >>= λ rest. Ok (done ++ rest)) ≡ (s >>= λ rest. Ok ((done ++ a ∷ []) ++ rest))
next done a (Ok others) = ap Ok (sym (append_assoc done (a ∷ []) others))
next done a (Err e) = refl

-- an account that was read goes behind those so far
pub list_step : (vs : List Value) (i : ℕ) (v : Value) (done : List PlannedAccount) (a : PlannedAccount) → i < length vs → v ≡ get_or vs i v → account_in i (view v) ≡ Ok a
    → (accounts_from i (items_view (drop i vs)) >>= λ rest. Ok (done ++ rest)) ≡ (accounts_from (i + 1) (items_view (drop (i + 1) vs)) >>= λ rest. Ok ((done ++ a ∷ []) ++ rest))
list_step vs i v done a within is same = rw (items_view-drop vs i v within, ← is, add-one i, same) (next done a _)
