-- A summary of chains, and the answer to one: they say just what is held, and nothing else does.
use Rattle.std.proofs.Common.{◌≡◌, ℕ, ◌<◌, true, false, cond, Option, None, Some, List, [], ◌∷◌, length, drop, nat_lt, ◌==◌, refl, sym, ap, ◌∙◌, subst, arith}
use Rattle.std.proofs.lemmas.Bool.{eqb-true, le-ltb, lt-ltb}
use Rattle.std.specs.List.{AllByRecursion}
use Rattle.tca_report.specs.report.Reports.{PacketReport}
use Rattle.tca_join.specs.Maps.{get, Rises}
use Rattle.tca_join.specs.laws.MapLaws.{not_there}
use Rattle.tca_join.proofs.Firsts.{only_map}
use Rattle.tca_gossip.specs.Replicas.{or_empty}
use Rattle.tca_gossip.specs.Runs.{RunView, delta_of, summary_count}
use Rattle.tca_gossip.specs.Coupling.{counts_of}
use Rattle.tca_ingest.specs.Journals.{above_zero, run_past, by_origin, IsSummary, IsAnswer}

module _ {V : Type 0} where
  -- of each chain what f makes of it, where it makes something
  abbrev add_some : ℕ → Option V → List (ℕ × V) → List (ℕ × V)
  add_some key None rest = rest
  add_some key (Some v) rest = (key, v) ∷ rest

  abbrev kept : (ℕ → List PacketReport → Option V) → List (ℕ × List PacketReport) → List (ℕ × V)
  kept f [] = []
  kept f (c ∷ cs) = add_some c.0 (f c.0 c.1) (kept f cs)

  all_kept : (f : ℕ → List PacketReport → Option V) (low : ℕ) (cs : List (ℕ × List PacketReport)) → AllByRecursion (λ next. low < next.0) cs → AllByRecursion (λ next. low < next.0) (kept f cs)
  all_kept f low [] h = tt
  all_kept f low (c ∷ cs) h = elim (f c.0 c.1) as (λ o. AllByRecursion (λ next. low < next.0) (add_some c.0 o (kept f cs))) [
    | None ↦ all_kept f low cs h.1
    | Some v ↦ (h.0, all_kept f low cs h.1)
  ]

  rises_kept : (f : ℕ → List PacketReport → Option V) (cs : List (ℕ × List PacketReport)) → Rises cs → Rises (kept f cs)
  rises_kept f [] h = tt
  rises_kept f (c ∷ cs) h = elim (f c.0 c.1) as (λ o. Rises (add_some c.0 o (kept f cs))) [
    | None ↦ rises_kept f cs h.1
    | Some v ↦ (all_kept f c.0 cs h.0, rises_kept f cs h.1)
  ]

  get_kept : (f : ℕ → List PacketReport → Option V) (cs : List (ℕ × List PacketReport)) (q : ℕ) → Rises cs → f q [] ≡ None → get (kept f cs) q ≡ f q (or_empty (get cs q))
  get_kept f [] q h none = sym none
  get_kept f (c ∷ cs) q h none =
      let rest : get (kept f cs) q ≡ f q (or_empty (get cs q)) = get_kept f cs q h.1 none in
      elim (q == c.0) as (λ b. q == c.0 ≡ b → get (add_some c.0 (f c.0 c.1) (kept f cs)) q ≡ f q (or_empty (cond b (Some c.1) (get cs q)))) [
        | true ↦ λ at. let here : q ≡ c.0 = eqb-true q c.0 at in
            let empty : get (kept f cs) q ≡ None = rest ∙ ap (λ o. f q (or_empty o)) (subst (λ z. get cs z ≡ None) (sym here) (not_there cs c.0 h.0)) ∙ none in
            elim (f c.0 c.1) as (λ o. get (add_some c.0 o (kept f cs)) q ≡ o) [
              | None ↦ empty
              | Some v ↦ ap (λ t. cond t (Some v) (get (kept f cs) q)) at
            ] ∙ ap (λ z. f z c.1) (sym here)
        | false ↦ λ at. elim (f c.0 c.1) as (λ o. get (add_some c.0 o (kept f cs)) q ≡ get (kept f cs) q) [
          | None ↦ refl
          | Some v ↦ ap (λ t. cond t (Some v) (get (kept f cs) q)) at
        ] ∙ rest
      ] refl

summary_kept : (cs : List (ℕ × List PacketReport)) → counts_of cs ≡ kept (λ _ c. above_zero (length c)) cs
unfolding counts_of
summary_kept [] = refl
summary_kept (c ∷ cs) = first c.0 c.1 (summary_kept cs) where
  first : (o : ℕ) (chain : List PacketReport) → counts_of cs ≡ kept (λ _ c. above_zero (length c)) cs → counts_of ((o, chain) ∷ cs) ≡ add_some o (above_zero (length chain)) (kept (λ _ c. above_zero (length c)) cs)
  first o [] rest = rest
  first o (r ∷ rs) rest = rw (lt-ltb 0 (length (r ∷ rs)) (omega arith)) (ap (λ (l : List (ℕ × ℕ)). (o, length (r ∷ rs)) ∷ l) rest)

answer_kept : (counts : ℕ → ℕ) (cs : List (ℕ × List PacketReport)) → by_origin (delta_of counts cs) ≡ kept (λ o c. run_past o (counts o) c) cs
unfolding delta_of by_origin
answer_kept counts [] = refl
answer_kept counts (c ∷ cs) = elim (nat_lt (counts c.0) (length c.1)) as (λ b. by_origin (cond b (record { origin = c.0; start = counts c.0; reports = drop (counts c.0) c.1 } ∷ delta_of counts cs) (delta_of counts cs)) ≡ add_some c.0 (cond b (Some (record { origin = c.0; start = counts c.0; reports = drop (counts c.0) c.1 })) None) (kept (λ o c. run_past o (counts o) c) cs)) [
  | true ↦ ap (λ (l : List (ℕ × RunView)). (c.0, record { origin = c.0; start = counts c.0; reports = drop (counts c.0) c.1 }) ∷ l) (answer_kept counts cs)
  | false ↦ answer_kept counts cs
]

-- the summary and the answer of chains
pub summary_is : (cs : List (ℕ × List PacketReport)) → Rises cs → IsSummary (λ o. or_empty (get cs o)) (counts_of cs)
summary_is cs h = record {
  rises = subst Rises (sym (summary_kept cs)) (rises_kept (λ _ c. above_zero (length c)) cs h);
  each = λ o. ap (λ l. get l o) (summary_kept cs) ∙ get_kept (λ _ c. above_zero (length c)) cs o h refl;
}

pub answer_is : (since : List (ℕ × ℕ)) (cs : List (ℕ × List PacketReport)) → Rises cs → IsAnswer (λ o. or_empty (get cs o)) since (delta_of (summary_count since) cs)
answer_is since cs h = record {
  rises = subst Rises (sym (answer_kept (summary_count since) cs)) (rises_kept (λ o c. run_past o (summary_count since o) c) cs h);
  each = λ o. ap (λ l. get l o) (answer_kept (summary_count since) cs) ∙ get_kept (λ o c. run_past o (summary_count since o) c) cs o h (nothing (summary_count since o) o);
} where
  nothing : (count o : ℕ) → run_past o count [] ≡ None
  nothing count o = ap (λ b. cond b (Some (record { origin = o; start = count; reports = drop count [] })) None) (le-ltb count 0 (omega arith))

-- no other summary or answer says that
pub only_summary : (held : ℕ → List PacketReport) (a b : List (ℕ × ℕ)) → IsSummary held a → IsSummary held b → a ≡ b
only_summary held a b p q = only_map ℕ a b p.rises q.rises (λ o. p.each o ∙ sym (q.each o))

abbrev runs_of : List (ℕ × RunView) → List RunView
runs_of [] = []
runs_of (p ∷ ps) = p.1 ∷ runs_of ps

runs_back : (runs : List RunView) → runs_of (by_origin runs) ≡ runs
unfolding by_origin
runs_back [] = refl
runs_back (r ∷ rs) = ap (λ (l : List RunView). r ∷ l) (runs_back rs)

pub only_answer : (held : ℕ → List PacketReport) (since : List (ℕ × ℕ)) (a b : List RunView) → IsAnswer held since a → IsAnswer held since b → a ≡ b
only_answer held since a b p q = sym (runs_back a) ∙ ap runs_of (only_map RunView (by_origin a) (by_origin b) p.rises q.rises (λ o. p.each o ∙ sym (q.each o))) ∙ runs_back b
