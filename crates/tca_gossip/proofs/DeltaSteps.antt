-- Going through chains for a delta and for a summary.
use Rattle.std.proofs.Common.{◌≡◌, ℕ, ◌+◌, ◌<◌, ◌≤◌, cond, List, [], ◌∷◌, ◌++◌, length, drop, get_or, nat_lt, refl, sym, ap, ◌∙◌, arith, append_assoc}
use Rattle.std.proofs.Math.ListN.{drop_of_length-le}
use Rattle.std.proofs.lemmas.List.{append-nil}
use Rattle.std.proofs.lemmas.Bool.{lt-ltb, le-ltb}
use Rattle.std.specs.List.{AllByRecursion}
use Rattle.tca_report.specs.report.Reports.{PacketReport}
use Rattle.tca_join.specs.Chains.{ChainView, IsChain}
use Rattle.tca_join.specs.Maps.{MapProper}
use Rattle.tca_gossip.specs.Runs.{RunView, AreRuns, delta_of}
use Rattle.tca_gossip.specs.inside.Storage.{before_others, held_in}
use Rattle.tca_gossip.proofs.AbsorbSteps.{cut}
use Rattle.tca_gossip.proofs.Deltas.{delta_runs}
use Rattle.tca_gossip.proofs.Plains.{rises_held}

-- chains within the limit give a delta
all_within : (es : List (ℕ × ChainView PacketReport)) → AllByRecursion (λ e. IsChain e.1) es → AllByRecursion (λ (e : ℕ × List PacketReport). length e.1 ≤ 4194304) (held_in es)
all_within [] h = tt
all_within (e ∷ es) h = first e.1.items h.0 (all_within es h.1) where
  first : (items : List PacketReport) → length items ≤ 4194304 → AllByRecursion (λ (e : ℕ × List PacketReport). length e.1 ≤ 4194304) (held_in es) → AllByRecursion (λ (e : ℕ × List PacketReport). length e.1 ≤ 4194304) (before_others e.0 items (held_in es))
  first [] few rest = rest
  first (r ∷ rs) few rest = (few, rest)

pub held_proper : (es : List (ℕ × ChainView PacketReport)) → MapProper IsChain es → MapProper (λ (c : List PacketReport). length c ≤ 4194304) (held_in es)
held_proper es h = (rises_held es h.0, all_within es h.1)

pub right_delta : (counts : ℕ → ℕ) (es : List (ℕ × ChainView PacketReport)) → MapProper IsChain es → AreRuns (delta_of counts (held_in es))
right_delta counts es h = delta_runs counts (held_in es) (held_proper es h)

-- the run of one chain, before those of others
delta_before : (counts : ℕ → ℕ) (o : ℕ) (items : List PacketReport) (others : List (ℕ × List PacketReport)) → delta_of counts (before_others o items others) ≡ cond (nat_lt (counts o) (length items)) (record { origin = o; start = counts o; reports = drop (counts o) items } ∷ delta_of counts others) (delta_of counts others)
unfolding delta_of
delta_before counts o [] others = ap (λ b. cond b (record { origin = o; start = counts o; reports = drop (counts o) [] } ∷ delta_of counts others) (delta_of counts others)) (sym (le-ltb (counts o) 0 (omega arith)))
delta_before counts o (r ∷ rs) others = refl

module _ (counts : ℕ → ℕ) (es : List (ℕ × ChainView PacketReport)) (i : ℕ) (e : ℕ × ChainView PacketReport) (h : i < length es) (is : e ≡ get_or es i e) (out more : List RunView) (so_far : out ++ delta_of counts (held_in (drop i es)) ≡ delta_of counts (held_in es)) where
  here : out ++ cond (nat_lt (counts e.0) (length e.1.items)) (record { origin = e.0; start = counts e.0; reports = drop (counts e.0) e.1.items } ∷ delta_of counts (held_in (drop (i + 1) es))) (delta_of counts (held_in (drop (i + 1) es))) ≡ delta_of counts (held_in es)
  here = ap (λ l. out ++ l) (sym (delta_before counts e.0 e.1.items (held_in (drop (i + 1) es)))) ∙ ap (λ l. out ++ delta_of counts (held_in l)) (sym (cut es i e h is)) ∙ so_far

  pub delta_skip : (from : ℕ) → from ≡ counts e.0 → length e.1.items ≤ from → more ≡ out → more ++ delta_of counts (held_in (drop (i + 1) es)) ≡ delta_of counts (held_in es)
  delta_skip from from-is le e-is =
      ap (λ (l : List RunView). l ++ delta_of counts (held_in (drop (i + 1) es))) e-is
      ∙ ap (λ b. out ++ cond b (record { origin = e.0; start = counts e.0; reports = drop (counts e.0) e.1.items } ∷ delta_of counts (held_in (drop (i + 1) es))) (delta_of counts (held_in (drop (i + 1) es)))) (sym (le-ltb (counts e.0) (length e.1.items) (omega (arith, le, from-is))))
      ∙ here

  pub delta_add : (from : ℕ) (reports : List PacketReport) → from ≡ counts e.0 → from < length e.1.items → reports ≡ drop from e.1.items → more ≡ out ++ (record { origin = e.0; start = from; reports = reports }) ∷ [] → more ++ delta_of counts (held_in (drop (i + 1) es)) ≡ delta_of counts (held_in es)
  delta_add from reports from-is lt reports-is e-is =
      ap (λ (l : List RunView). l ++ delta_of counts (held_in (drop (i + 1) es))) (e-is ∙ (λ j. out ++ (record { origin = e.0; start = from-is j; reports = (reports-is ∙ ap (λ n. drop n e.1.items) from-is) j }) ∷ []))
      ∙ append_assoc out (record { origin = e.0; start = counts e.0; reports = drop (counts e.0) e.1.items } ∷ []) (delta_of counts (held_in (drop (i + 1) es)))
      ∙ ap (λ b. out ++ cond b (record { origin = e.0; start = counts e.0; reports = drop (counts e.0) e.1.items } ∷ delta_of counts (held_in (drop (i + 1) es))) (delta_of counts (held_in (drop (i + 1) es)))) (sym (lt-ltb (counts e.0) (length e.1.items) (omega (arith, lt, from-is))))
      ∙ here

pub delta_ends : (counts : ℕ → ℕ) (es : List (ℕ × ChainView PacketReport)) (i : ℕ) (out : List RunView) → length es ≤ i → out ++ delta_of counts (held_in (drop i es)) ≡ delta_of counts (held_in es) → out ≡ delta_of counts (held_in es)
unfolding delta_of
delta_ends counts es i out h so_far = sym (append-nil out) ∙ ap (λ (l : List (ℕ × ChainView PacketReport)). out ++ delta_of counts (held_in l)) (sym (drop_of_length-le es h)) ∙ so_far
