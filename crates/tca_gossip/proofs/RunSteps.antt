-- Going through runs to see whether they make a delta.
use Rattle.std.proofs.Common.{◌≡◌, ℕ, ◌+◌, ◌<◌, ◌≤◌, List, ◌∷◌, length, drop, get_or, sym, subst, arith}
use Rattle.std.specs.List.{AllByRecursion}
use Rattle.tca_join.proofs.Sets.{all_more}
use Rattle.tca_gossip.specs.Runs.{RunView, AreRuns}
use Rattle.tca_gossip.proofs.AbsorbSteps.{cut}

-- runs of origins from the least on
abbrev pub AreRunsFrom : ℕ → List RunView → Type 0
AreRunsFrom least rs = AllByRecursion (λ next. least ≤ next.origin) rs × AreRuns rs

-- what holds of the first of them
pub record Follows (least : ℕ) (r : RunView) (rs : List RunView) : Type 0 where
  pub within : r.start + length r.reports ≤ 4194304
  pub from : least ≤ r.origin
  pub rest : AreRunsFrom (r.origin + 1) rs

first_run : (least : ℕ) (r : RunView) (rs : List RunView) → AreRunsFrom least (r ∷ rs) → Follows least r rs
first_run least r rs h = record {
  within = h.1.0;
  from = h.0.0;
  rest = (all_more (λ (next : RunView). r.origin < next.origin) (λ (next : RunView). r.origin + 1 ≤ next.origin) (λ next above. omega (arith, above)) rs h.1.1, h.1.2);
}

further : (least : ℕ) (r : RunView) (rs : List RunView) → Follows least r rs → AreRunsFrom least (r ∷ rs)
further least r rs f =
    let all = all_more (λ (next : RunView). r.origin + 1 ≤ next.origin) (λ (next : RunView). least ≤ next.origin) (λ next above. omega (arith, above, f.from)) rs f.rest.0 in
    let above = all_more (λ (next : RunView). r.origin + 1 ≤ next.origin) (λ (next : RunView). r.origin < next.origin) (λ next more. omega (arith, more)) rs f.rest.0 in
    ((f.from, all), (f.within, above, f.rest.1))

-- the runs make a delta just where those that are left may follow
pub record AreSoFar (runs : List RunView) (least i : ℕ) : Type 0 where
  pub left : AreRuns runs → AreRunsFrom least (drop i runs)
  pub all : AreRunsFrom least (drop i runs) → AreRuns runs

module _ (runs : List RunView) (least i : ℕ) (r : RunView) (h : i < length runs) (is : r ≡ get_or runs i r) (so_far : AreSoFar runs least i) where
  pub next_run : AreRuns runs → Follows least r (drop (i + 1) runs)
  next_run all = first_run least r (drop (i + 1) runs) (subst (AreRunsFrom least) (cut runs i r h is) (so_far.left all))

  pub further_runs : r.start + length r.reports ≤ 4194304 → least ≤ r.origin → AreSoFar runs (r.origin + 1) (i + 1)
  further_runs within from = record {
    left = λ all. (next_run all).rest;
    all = λ rest. so_far.all (subst (AreRunsFrom least) (sym (cut runs i r h is)) (further least r (drop (i + 1) runs) (record { within = within; from = from; rest = rest })));
  }
