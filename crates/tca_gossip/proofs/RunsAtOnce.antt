-- What runs have past the chains, at once: going through the runs, and what a log and chains that got it all come to.
use Rattle.std.proofs.Common.{◌≡◌, ℕ, ◌+◌, ◌-◌, ◌<◌, ◌≤◌, min, true, false, nat_lt, None, Result, Ok, Err, OnOk, List, [], ◌++◌, length, take, drop, get_or, refl, sym, ap, ◌∙◌, arith, append_assoc}
use Rattle.std.proofs.Math.ListN.{drop_of_length-le}
use Rattle.std.proofs.lemmas.List.{append-nil}
use Rattle.std.proofs.lemmas.List.{take_all as take_whole}
use Rattle.std.proofs.lemmas.Bool.{ltb-true, ltb-false}
use Rattle.tca_report.specs.report.Reports.{PacketReport, report_cmp}
use Rattle.tca_report.proofs.lemmas.report.Order.{report_total, report_exact}
use Rattle.tca_join.specs.Sets.{in_order}
use Rattle.tca_join.specs.Chains.{ChainView}
use Rattle.tca_join.specs.Maps.{Rises}
use Rattle.tca_join.proofs.Unions.{union_longer}
use Rattle.tca_gossip.specs.Replicas.{ReplicaView, IsReplica, chain_of, appended, with_origin, of, reports_in}
use Rattle.tca_gossip.specs.Runs.{RunView, AreRuns, first_fault, rest_of, rests}
use Rattle.tca_gossip.specs.inside.Storage.{AreContents, IsOwnWithin, held_of, replica_of, BillingView}
use Rattle.tca_gossip.proofs.Appends.{of_append, reports_append, reports_tagged}
use Rattle.tca_gossip.proofs.Plains.{chain_held}
use Rattle.tca_gossip.proofs.AbsorbSteps.{none_before, none_own, rests_next}
use Rattle.tca_gossip.proofs.AtOnce.{now_is, now_replica, now_within}

-- a list without its first items, of which there may be fewer
pub skipped : (xs : List PacketReport) (n skip : ℕ) → skip ≡ min n (length xs) → drop skip xs ≡ drop n xs
skipped xs n skip e =
    elim (nat_lt (length xs) n) as (λ b. nat_lt (length xs) n ≡ b → drop skip xs ≡ drop n xs) [
      | true ↦ λ less. let over : length xs < n = ltb-true (length xs) n less in
          drop_of_length-le xs (omega (arith, e, over)) ∙ sym (drop_of_length-le xs (omega (arith, over)))
      | false ↦ λ more. let within : n ≤ length xs = ltb-false (length xs) n more in
          ap (λ k. drop k xs) (omega (arith, e, within))
    ] refl

-- what a run has past a chain, by how it is found
pub rest_found : (held : ℕ → List PacketReport) (run : RunView) (own reports rest : List PacketReport) (origin start less skip : ℕ) → origin ≡ run.origin → reports ≡ run.reports → own ≡ held origin → start ≡ run.start → less ≡ length own - start → skip ≡ min less (length reports) → rest ≡ drop skip reports → rest ≡ rest_of held run
rest_found held run own reports rest origin start less skip origin_is reports_are own_is start_is less_is skip_is rest_is =
    rest_is ∙ ap (drop skip) reports_are
    ∙ skipped run.reports (length (held run.origin) - run.start) skip (omega (arith, ap length (own_is ∙ ap held origin_is), ap length reports_are, start_is, less_is, skip_is))

-- what holds in any case
pub on_ok_always : {A E P : Type 0} (r : Result A E) → P → OnOk r P
on_ok_always (Ok x) p = p
on_ok_always (Err e) p = tt

-- no run was gone through
pub kept_first : (es : List (ℕ × ChainView PacketReport)) (held : ℕ → List PacketReport) (q : ℕ) → held_of es q ≡ held_of es q ++ of q (rests held [])
unfolding rests of
kept_first es held q = sym (append-nil (held_of es q))

pub list_first : (l : List PacketReport) (held : ℕ → List PacketReport) → l ≡ l ++ reports_in (rests held [])
unfolding rests reports_in
list_first l held = sym (append-nil l)

-- a run that has nothing past its chain
pub none_more : (es : List (ℕ × ChainView PacketReport)) (origin : ℕ) (rest : List PacketReport) → rest ≡ [] → (q : ℕ) → held_of es q ≡ held_of es q ++ of q (with_origin origin rest)
unfolding of with_origin
none_more es origin rest none q = sym (append-nil (held_of es q)) ∙ ap (λ (l : List PacketReport). held_of es q ++ of q (with_origin origin l)) (sym none)

-- one run more
module _ (es fs : List (ℕ × ChainView PacketReport)) (runs : List RunView) (i : ℕ) (r : RunView) (h : i < length runs) (is : r ≡ get_or runs i r) (are : AreRuns runs)
    (so_far : (q : ℕ) → held_of fs q ≡ held_of es q ++ of q (rests (held_of es) (take i runs))) where
  chain_same : held_of fs r.origin ≡ held_of es r.origin
  chain_same = so_far r.origin ∙ ap (λ (l : List PacketReport). held_of es r.origin ++ l) (none_before (held_of es) runs i r are h is) ∙ append-nil (held_of es r.origin)

  rest_same : rest_of (held_of fs) r ≡ rest_of (held_of es) r
  rest_same = ap (λ (l : List PacketReport). drop (length l - r.start) r.reports) chain_same

  pub kept_next : (gs : List (ℕ × ChainView PacketReport)) → ((q : ℕ) → held_of gs q ≡ held_of fs q ++ of q (with_origin r.origin (rest_of (held_of fs) r))) → (q : ℕ) → held_of gs q ≡ held_of es q ++ of q (rests (held_of es) (take (i + 1) runs))
  kept_next gs e q =
      let before = rests (held_of es) (take i runs) in
      let here = with_origin r.origin (rest_of (held_of es) r) in
      e q
      ∙ (λ j. so_far q j ++ of q (with_origin r.origin (rest_same j)))
      ∙ append_assoc (held_of es q) (of q before) (of q here)
      ∙ ap (λ (l : List PacketReport). held_of es q ++ l) (sym (of_append q before here) ∙ ap (of q) (sym (rests_next (held_of es) runs i r h is)))

  pub list_next : (old now new : List PacketReport) → now ≡ old ++ reports_in (rests (held_of es) (take i runs)) → new ≡ now ++ rest_of (held_of fs) r → new ≡ old ++ reports_in (rests (held_of es) (take (i + 1) runs))
  list_next old now new before_is e =
      let before = rests (held_of es) (take i runs) in
      let here = with_origin r.origin (rest_of (held_of es) r) in
      e
      ∙ (λ j. before_is j ++ rest_same j)
      ∙ append_assoc old (reports_in before) (rest_of (held_of es) r)
      ∙ ap (λ (l : List PacketReport). old ++ l) (ap (λ (l : List PacketReport). reports_in before ++ l) (sym (reports_tagged r.origin (rest_of (held_of es) r))) ∙ sym (reports_append before here) ∙ ap reports_in (sym (rests_next (held_of es) runs i r h is)))

-- all runs were gone through
pub kept_last : (es fs : List (ℕ × ChainView PacketReport)) (held : ℕ → List PacketReport) (runs : List RunView) (i : ℕ) → length runs ≤ i → ((q : ℕ) → held_of fs q ≡ held_of es q ++ of q (rests held (take i runs))) → (q : ℕ) → held_of fs q ≡ held_of es q ++ of q (rests held runs)
kept_last es fs held runs i h so_far q = so_far q ∙ ap (λ (l : List RunView). held_of es q ++ of q (rests held l)) (take_whole i runs h)

pub list_last : (old now : List PacketReport) (held : ℕ → List PacketReport) (runs : List RunView) (i : ℕ) → length runs ≤ i → now ≡ old ++ reports_in (rests held (take i runs)) → now ≡ old ++ reports_in (rests held runs)
list_last old now held runs i h so_far = so_far ∙ ap (λ (l : List RunView). old ++ reports_in (rests held l)) (take_whole i runs h)

-- one run alone
module _ (es : List (ℕ × ChainView PacketReport)) (runs : List RunView) (r : RunView) (one : length runs ≡ 1) (is : r ≡ get_or runs 0 r) (are : AreRuns runs) where
  pub kept_one : (gs : List (ℕ × ChainView PacketReport)) → ((q : ℕ) → held_of gs q ≡ held_of es q ++ of q (with_origin r.origin (rest_of (held_of es) r))) → (q : ℕ) → held_of gs q ≡ held_of es q ++ of q (rests (held_of es) runs)
  kept_one gs e = kept_last es gs (held_of es) runs 1 (omega (arith, one)) (kept_next es es runs 0 r (omega (arith, one)) is are (kept_first es (held_of es)) gs e)

  pub list_one : (rest : List PacketReport) → rest ≡ rest_of (held_of es) r → rest ≡ reports_in (rests (held_of es) runs)
  list_one rest e = list_last [] rest (held_of es) runs 1 (omega (arith, one)) (list_next es es runs 0 r (omega (arith, one)) is are (kept_first es (held_of es)) [] [] rest (list_first [] (held_of es)) e)

-- chains and a log that got what runs have past the chains
module _ (name : ℕ) (log more : List PacketReport) (es fs : List (ℕ × ChainView PacketReport)) (billing : BillingView) (are : AreContents name log es billing) (runs : List RunView) (rises : Rises fs)
    (chains : (q : ℕ) → held_of fs q ≡ held_of es q ++ of q (rests (held_of es) runs)) (logs : more ≡ in_order report_cmp (log ++ reports_in (rests (held_of es) runs))) where
  abbrev before : ReplicaView
  before = replica_of name billing.plan log es

  held_same : held_of es ≡ chain_of before
  held_same = λ i o. (sym (chain_held es o are.rises)) i

  pub runs_are : replica_of name billing.plan more fs ≡ appended before (rests (chain_of before) runs)
  runs_are = now_is name log more es fs billing are (rests (held_of es) runs) rises chains logs ∙ ap (λ (held : ℕ → List PacketReport). appended before (rests held runs)) held_same

  pub runs_replica : IsReplica (replica_of name billing.plan more fs)
  runs_replica = now_replica name log more es fs billing are (rests (held_of es) runs) rises chains logs

  pub runs_within : first_fault name (chain_of before) runs ≡ None → IsOwnWithin (replica_of name billing.plan more fs)
  runs_within none =
      let own : of name (rests (held_of es) runs) ≡ [] = none_own name (held_of es) runs (ap (λ (held : ℕ → List PacketReport). first_fault name held runs) held_same ∙ none) in
      let grows = union_longer report_cmp report_total report_exact log (reports_in (rests (held_of es) runs)) are.replica.log_rises in
      now_within name log more es fs billing are (rests (held_of es) runs) rises chains logs (omega (arith, ap length own, grows, ap length logs))
