-- Where a merge clashes, and what else it may be refused for.
use Rattle.std.proofs.Common.{◌≡◌, ℕ, Bool, true, false, ◌||◌, Option, None, Some, List, [], ◌∷◌, refl, sym, ap, ◌∙◌}
use Rattle.tca_report.specs.report.Reports.{PacketReport}
use Rattle.tca_join.specs.Chains.{ChainView, chain_clash, chain_full, differ_at}
use Rattle.tca_join.specs.Faults.{IsJoinFault, refusal}
use Rattle.tca_join.specs.Maps.{Rises, clash_key, full_with, get, map_full}
use Rattle.tca_join.specs.declared.fault.JoinFault.{JoinFault}
use Rattle.tca_join.specs.declared.fault.JoinFault.TheVariants.{Clash, Full, Memory}
use Rattle.tca_gossip.specs.inside.Storage.{clash_in, held_in}
use Rattle.tca_gossip.proofs.Plains.{clash_held}

clash_of_refusal : (x : Option ℕ) (full : Bool) → clash_in (refusal x full) ≡ x
clash_of_refusal (Some key) full = refl
clash_of_refusal None true = refl
clash_of_refusal None false = refl

-- where nothing refuses a join it is within the limit
pub within_limit : (full : Bool) → refusal None full ≡ None → full ≡ false
within_limit true e = absurd cc
within_limit false e = refl

module _ (eq : PacketReport → PacketReport → Bool) (es fs : List (ℕ × ChainView PacketReport)) (rises : Rises es) where
  -- what the chains' refusal names
  pub named : (r : Option JoinFault) → r ≡ refusal (clash_key (chain_clash eq) es fs) (map_full chain_full es fs) → clash_in r ≡ clash_key (differ_at eq) (held_in es) (held_in fs)
  named r is = ap clash_in is ∙ clash_of_refusal (clash_key (chain_clash eq) es fs) (map_full chain_full es fs) ∙ clash_held eq es fs rises

-- where no chains clash their join is refused for memory alone
module _ (eq : PacketReport → PacketReport → Bool) (es fs : List (ℕ × ChainView PacketReport)) where
  pub memory_alone : (e : JoinFault) → IsJoinFault (clash_key (chain_clash eq) es fs) (map_full chain_full es fs) e → clash_key (chain_clash eq) es fs ≡ None → e ≡ Memory
  memory_alone (Clash key) fault none = absurd (some_none (sym fault ∙ none)) where
    some_none : Some key ≡ None → ⊥
    some_none e = cc
  memory_alone Full fault none = absurd (true_false (sym fault.1 ∙ never fs)) where
    true_false : true ≡ false → ⊥
    true_false e = cc

    at_none : (a : Option (ChainView PacketReport)) (c : ChainView PacketReport) → full_with chain_full a (Some c) ≡ false
    at_none None c = refl
    at_none (Some a) c = refl

    never : (more : List (ℕ × ChainView PacketReport)) → map_full chain_full es more ≡ false
    never [] = refl
    never (m ∷ more) = (λ i. at_none (get es m.0) m.1 i || map_full chain_full es more) ∙ never more
  memory_alone Memory fault none = refl
