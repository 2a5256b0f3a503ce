-- The fields of a share in a line.
use Rattle.std.proofs.Common.{◌≡◌, ℕ, zero, suc, ◌≤◌, Bool, true, false, ◌&&◌, List, [], ◌∷◌, length, leb-true, Option, Some, None, ap, subst, refl, arith}
use Rattle.std.specs.Prelude.{map, slice_get}
use Rattle.std.specs.List.{AllByRecursion}
use Rattle.std.proofs.lemmas.Option.{slice_get_past}
use Rattle.std.proofs.lemmas.List.{length-map}
use Rattle.tca_accounts.specs.Plans.{AccountPlan, PlannedAccount, is_name}
use Rattle.tcatool.specs.Listed.{named_share, share_fields}
use Rattle.tcatool.specs.declared.item.Share.{Share}

and_left : (a b : Bool) → (a && b) ≡ true → a ≡ true
and_left true b h = refl
and_left false b h = absurd cc

and_right : (a b : Bool) → (a && b) ≡ true → b ≡ true
and_right true b h = h
and_right false b h = absurd cc

short : (name : List ℕ) → is_name name ≡ true → length name ≤ 32
short name h = leb-true (length name) 32 (and_left _ _ (and_right _ _ h))

-- each name of a plan is short
pub name_short : (accounts : List PlannedAccount) (n : ℕ) (name : List ℕ) → AllByRecursion (λ a. is_name a.name ≡ true) accounts → slice_get (map (λ a. a.name) accounts) n ≡ Some name → length name ≤ 32
name_short [] n name h e = absurd cc
name_short (a ∷ accounts) zero name h e = let same : a.name ≡ name = cc in subst (λ (s : List ℕ). length s ≤ 32) same (short a.name h.0)
name_short (a ∷ accounts) (suc n) name h e = name_short accounts n name h.1 e

-- no share, and one of no account
pub none_shared : (plan : Option AccountPlan) → share_fields plan None ≡ [] ∷ [] ∷ []
none_shared None = refl
none_shared (Some plan) = refl

pub past_all : (plan : AccountPlan) (s : Share) → length plan.accounts ≤ s.account → share_fields (Some plan) (Some s) ≡ [] ∷ [] ∷ []
past_all plan s h = ap (λ (o : Option (List ℕ)). named_share o s.colour) (slice_get_past (map (λ (a : PlannedAccount). a.name) plan.accounts) s.account (omega (arith, length-map plan.accounts (λ (a : PlannedAccount). a.name))))
