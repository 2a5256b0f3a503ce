-- Closed replicas gone through from the last to the first.
use Rattle.std.proofs.Common.{◌≡◌, ℕ, suc, ◌+◌, ◌-◌, ◌<◌, ◌≤◌, Option, None, List, ◌∷◌, length, get_or, take, drop, sym, ap, ◌∙◌, subst, arith, drop-cons, length-drop}
use Rattle.std.proofs.lemmas.List.{drop_all, take_all}
use Rattle.std.specs.List.{AllByRecursion}
use Rattle.tca_join.specs.Chains.{differ_at}
use Rattle.tca_join.specs.Maps.{clash_key}
use Rattle.tca_gossip.specs.Replicas.{ReplicaView, IsReplica, least_of}
use Rattle.tca_gossip.specs.Runs.{same_report}
use Rattle.tca_ingest.specs.Closed.{ClosedView, clash_all, clash_among, replicas_of}

-- those from a place on are the one there and those after it
from_here : (cs : List ClosedView) (i : ℕ) (c : ClosedView) → i < length cs → c ≡ get_or cs i c → drop i cs ≡ c ∷ drop (i + 1) cs
from_here cs i c low is = drop-cons cs i c low ∙ (λ k. sym is k ∷ drop (next i k) cs) where
  next : (i : ℕ) → suc i ≡ i + 1
  next i = omega arith

-- a slice up to the end
pub to_end : (cs : List ClosedView) (n : ℕ) → take (length cs - n) (drop n cs) ≡ drop n cs
to_end cs n = take_all (length cs - n) (drop n cs) (omega (arith, length-drop n cs))

pub among_none : (v : ReplicaView) (cs : List ClosedView) (i : ℕ) → length cs ≤ i → None ≡ clash_among v (replicas_of (drop i cs))
unfolding clash_among
among_none v cs i whole = ap (λ ds. clash_among v (replicas_of ds)) (sym (drop_all i cs whole))

pub all_none : (cs : List ClosedView) (i : ℕ) → length cs ≤ i → None ≡ clash_all (replicas_of (drop i cs))
unfolding clash_all
all_none cs i whole = ap (λ ds. clash_all (replicas_of ds)) (sym (drop_all i cs whole))

pub known_none : (cs : List ClosedView) (i : ℕ) → length cs ≤ i → AllByRecursion IsReplica (replicas_of (drop i cs))
known_none cs i whole = subst (λ ds. AllByRecursion IsReplica (replicas_of ds)) (sym (drop_all i cs whole)) tt

module _ (cs : List ClosedView) (i n : ℕ) (c : ClosedView) (low : i < length cs) (is : c ≡ get_or cs i c) (next : n ≡ i + 1) where
  here_then : drop i cs ≡ c ∷ drop n cs
  here_then = from_here cs i c low is ∙ ap (λ m. c ∷ drop m cs) (sym next)

  pub among_more : (v : ReplicaView) (key least : Option ℕ) → key ≡ clash_key (differ_at same_report) v.chains c.replica.chains → least ≡ clash_among v (replicas_of (drop n cs)) → least_of key least ≡ clash_among v (replicas_of (drop i cs))
  unfolding clash_among
  among_more v key least here rest = (λ k. least_of (here k) (rest k)) ∙ ap (λ ds. clash_among v (replicas_of ds)) (sym here_then)

  pub all_more : (first least : Option ℕ) → first ≡ clash_among c.replica (replicas_of (drop n cs)) → least ≡ clash_all (replicas_of (drop n cs)) → least_of first least ≡ clash_all (replicas_of (drop i cs))
  unfolding clash_all
  all_more first least here rest = (λ k. least_of (here k) (rest k)) ∙ ap (λ ds. clash_all (replicas_of ds)) (sym here_then)

  pub known_more : IsReplica c.replica → AllByRecursion IsReplica (replicas_of (drop n cs)) → AllByRecursion IsReplica (replicas_of (drop i cs))
  known_more here rest = subst (λ ds. AllByRecursion IsReplica (replicas_of ds)) (sym here_then) (here, rest)
