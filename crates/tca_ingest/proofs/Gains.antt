-- What an absorb appends: nothing to the own chain, and as much as its answer counts.
use Rattle.std.proofs.Common.{◌≡◌, ℕ, suc, zero, ◌+◌, ◌≤◌, true, false, cond, Option, None, Some, Result, Ok, Err, List, [], ◌∷◌, ◌++◌, length, take, nat_lt, ◌==◌, refl, sym, ap, ◌∙◌, arith}
use Rattle.std.proofs.Math.ListN.{drop_of_length-le}
use Rattle.std.proofs.lemmas.List.{append-nil, take_all}
use Rattle.std.proofs.lemmas.Bool.{eqb-true, eqb-false, ltb-false}
use Rattle.tca_report.specs.report.Reports.{PacketReport}
use Rattle.tca_gossip.specs.Replicas.{of, with_origin}
use Rattle.tca_gossip.specs.Runs.{RunView, Fault, rests, rest_of, fault_of, first_fault, or_else, IsOutcome, count_in}
use Rattle.tca_gossip.specs.Runs.{OwnAhead as own_ahead}
use Rattle.tca_gossip.specs.Answers.{outcome_of}
use Rattle.tca_gossip.specs.declared.fault.AbsorbFault.{AbsorbFault}
use Rattle.tca_gossip.specs.declared.fault.AbsorbFault.TheVariants.{Gap, Forked, OwnAhead, Stopped}
use Rattle.tca_gossip.proofs.Appends.{of_append, of_tagged, of_other}
use Rattle.tca_ingest.specs.Journals.{gained_by}

or_none : (a b : Option Fault) → or_else a b ≡ None → (a ≡ None) × (b ≡ None)
or_none None b e = (refl, e)
or_none (Some f) b e = absurd cc

-- a run of the own name that isn't refused ends within what is held
own_within : (name : ℕ) (held : ℕ → List PacketReport) (r : RunView) → fault_of name held r ≡ None → r.origin == name ≡ true → r.start + length r.reports ≤ length (held r.origin)
own_within name held r e is =
    elim (nat_lt (length (held r.origin)) (r.start + length r.reports)) as (λ b. nat_lt (length (held r.origin)) (r.start + length r.reports) ≡ b → r.start + length r.reports ≤ length (held r.origin)) [
      | true ↦ λ t. absurd (ahead (length (held r.origin)) (r.start + length r.reports) (rw (is, t) at e))
      | false ↦ λ t. ltb-false (length (held r.origin)) (r.start + length r.reports) t
    ] refl where
      ahead : (a b : ℕ) → Some (own_ahead a b) ≡ None → ⊥
      ahead a b e = cc

no_own : (name : ℕ) (held : ℕ → List PacketReport) (runs : List RunView) → first_fault name held runs ≡ None → of name (rests held runs) ≡ []
unfolding first_fault rests of
no_own name held [] e = refl
no_own name held (r ∷ rs) e =
    let parts = or_none (fault_of name held r) (first_fault name held rs) e in
    of_append name (with_origin r.origin (rest_of held r)) (rests held rs)
    ∙ ap (λ (l : List PacketReport). of name (with_origin r.origin (rest_of held r)) ++ l) (no_own name held rs parts.1)
    ∙ append-nil (of name (with_origin r.origin (rest_of held r)))
    ∙ elim (r.origin == name) as (λ b. r.origin == name ≡ b → of name (with_origin r.origin (rest_of held r)) ≡ []) [
      | true ↦ λ is.
          let le = own_within name held r parts.0 is in
          let same : r.origin ≡ name = eqb-true r.origin name is in
          ap (λ z. of z (with_origin r.origin (rest_of held r))) (sym same) ∙ of_tagged r.origin (rest_of held r) ∙ drop_of_length-le r.reports (omega (arith, le))
      | false ↦ λ is. of_other name r.origin (rest_of held r) (λ same. eqb-false r.origin name is (sym same))
    ] refl

of_take : (name n : ℕ) (ps : List (ℕ × PacketReport)) → of name ps ≡ [] → of name (take n ps) ≡ []
unfolding of
of_take name zero ps e = refl
of_take name (suc n) [] e = refl
of_take name (suc n) (p ∷ ps) e =
    elim (name == p.0) as (λ b. cond b (p.1 ∷ of name ps) (of name ps) ≡ [] → cond b (p.1 ∷ of name (take n ps)) (of name (take n ps)) ≡ []) [
      | true ↦ λ e. absurd cc
      | false ↦ λ e. of_take name n ps e
    ] e

pub none_of : (name : ℕ) → of name [] ≡ []
unfolding of
none_of name = refl

pub gained_own : (name : ℕ) (held : ℕ → List PacketReport) (runs : List RunView) (result : Result ℕ AbsorbFault) → IsOutcome name held runs (outcome_of result) → of name (gained_by result (rests held runs)) ≡ []
gained_own name held runs (Ok count) right = no_own name held runs right.0
gained_own name held runs (Err (Gap origin have from)) right = none_of name
gained_own name held runs (Err (Forked origin at)) right = none_of name
gained_own name held runs (Err (OwnAhead have said)) right = none_of name
gained_own name held runs (Err (Stopped count cause)) right = of_take name count (rests held runs) (no_own name held runs right.0)

-- what is appended, by the count or by the answer
pub gained_is : (name : ℕ) (held : ℕ → List PacketReport) (runs : List RunView) (result : Result ℕ AbsorbFault) → IsOutcome name held runs (outcome_of result) → take (count_in (outcome_of result)) (rests held runs) ≡ gained_by result (rests held runs)
gained_is name held runs (Ok count) right = take_all count (rests held runs) (omega (arith, right.1))
gained_is name held runs (Err (Gap origin have from)) right = refl
gained_is name held runs (Err (Forked origin at)) right = refl
gained_is name held runs (Err (OwnAhead have said)) right = refl
gained_is name held runs (Err (Stopped count cause)) right = refl
