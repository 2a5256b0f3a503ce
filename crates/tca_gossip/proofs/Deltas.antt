-- A delta's runs ascend and are within the limit.
use Rattle.std.proofs.Common.{◌≡◌, ℕ, ◌<◌, ◌≤◌, true, false, cond, List, [], ◌∷◌, length, drop, nat_lt, refl, arith}
use Rattle.std.specs.List.{AllByRecursion}
use Rattle.std.proofs.lemmas.Bool.{ltb-true}
use Rattle.tca_report.specs.report.Reports.{PacketReport}
use Rattle.tca_join.specs.Maps.{MapProper}
use Rattle.tca_gossip.specs.Runs.{delta_of, AreRuns}
use Rattle.tca_gossip.proofs.Worlds.{length_drop}

all_delta : (said : ℕ → ℕ) (low : ℕ) (cs : List (ℕ × List PacketReport)) → AllByRecursion (λ next. low < next.0) cs → AllByRecursion (λ next. low < next.origin) (delta_of said cs)
unfolding delta_of
all_delta said low [] h = tt
all_delta said low (c ∷ cs) h =
    elim (nat_lt (said c.0) (length c.1)) as (λ b. AllByRecursion (λ next. low < next.origin) (cond b (record { origin = c.0; start = said c.0; reports = drop (said c.0) c.1 } ∷ delta_of said cs) (delta_of said cs))) [
      | true ↦ (h.0, all_delta said low cs h.1)
      | false ↦ all_delta said low cs h.1
    ]

pub delta_runs : (said : ℕ → ℕ) (cs : List (ℕ × List PacketReport)) → MapProper (λ (c : List PacketReport). length c ≤ 4194304) cs → AreRuns (delta_of said cs)
unfolding delta_of
delta_runs said [] p = tt
delta_runs said (c ∷ cs) p =
    elim (nat_lt (said c.0) (length c.1)) as (λ b. nat_lt (said c.0) (length c.1) ≡ b → AreRuns (cond b (record { origin = c.0; start = said c.0; reports = drop (said c.0) c.1 } ∷ delta_of said cs) (delta_of said cs))) [
      | true ↦ λ is. (omega (arith, length_drop (said c.0) c.1, ltb-true (said c.0) (length c.1) is, p.1.0), all_delta said c.0 cs p.0.0, delta_runs said cs (p.0.1, p.1.1))
      | false ↦ λ is. delta_runs said cs (p.0.1, p.1.1)
    ] refl
