-- Many reports at once: what a log and chains that got them come to, beside appending one by one.
use Rattle.std.proofs.Common.{◌≡◌, ℕ, ◌+◌, ◌≤◌, true, false, cond, Option, None, Some, IsSome, Result, Ok, Err, IsOk, OnOk, List, [], ◌∷◌, ◌++◌, ◌==◌, length, refl, sym, ap, ◌∙◌, subst, arith, length-append}
use Rattle.std.proofs.lemmas.List.{append-nil}
use Rattle.std.proofs.lemmas.Bool.{eqb-true, eqb-false, false≢true}
use Rattle.tca_report.specs.report.Reports.{PacketReport, report_cmp}
use Rattle.tca_report.proofs.lemmas.report.Order.{report_total, report_exact}
use Rattle.tca_join.specs.Sets.{in_order}
use Rattle.tca_join.specs.Chains.{ChainView, chain}
use Rattle.tca_join.specs.Maps.{get, Rises, with_value, join_with}
use Rattle.tca_join.specs.laws.MapLaws.{get_put, rises_put as rises_put_key}
use Rattle.tca_join.proofs.Merge.{in_order_of_rising}
use Rattle.tca_join.proofs.Firsts.{only_map}
use Rattle.tca_accounts.specs.Plans.{AccountPlan}
use Rattle.tca_gossip.specs.Replicas.{ReplicaView, IsReplica, or_empty, chain_of, append_one, appended, with_origin, of, reports_in}
use Rattle.tca_gossip.specs.inside.Storage.{AreContents, IsOwnWithin, chain_items, held_of, held_in, replica_of, BillingView, Bills}
use Rattle.tca_gossip.proofs.Appends.{appended_name, appended_plan, appended_rises, chain_appended, log_appended, of_tagged, of_other, reports_tagged}
use Rattle.tca_gossip.proofs.Plains.{some_chain, rises_held, get_held, chain_held, kept_set}
use Rattle.tca_gossip.proofs.Rooms.{get_set, rises_set}
use Rattle.tca_gossip.proofs.Members.{replica_appended}

-- reports at the end of a chain that is kept
module _ (es : List (ℕ × ChainView PacketReport)) (rises : Rises es) (o : ℕ) (rs : List PacketReport) where
  pub more_kept : (c : ChainView PacketReport) → c.items ≡ held_of es o ++ rs → (q : ℕ) → held_of (with_value o c es) q ≡ held_of es q ++ of q (with_origin o rs)
  more_kept c is q =
      kept_set es rises o c q
      ∙ elim (q == o) as (λ b. q == o ≡ b → cond b c.items (held_of es q) ≡ held_of es q ++ of q (with_origin o rs)) [
        | true ↦ λ at.
            let same : o ≡ q = sym (eqb-true q o at) in
            is ∙ subst (λ z. held_of es o ++ rs ≡ held_of es z ++ of z (with_origin o rs)) same (ap (λ (l : List PacketReport). held_of es o ++ l) (sym (of_tagged o rs)))
        | false ↦ λ at. sym (append-nil (held_of es q)) ∙ ap (λ (l : List PacketReport). held_of es q ++ l) (sym (of_other q o rs (eqb-false q o at)))
      ] refl

  -- in a chain that is there
  pub extended_there : {A E : Type 0} (old new : ChainView PacketReport) (r : Result A E) → Some old ≡ get es o → OnOk r (new ≡ chain (old.items ++ rs) false) → OnOk r ((q : ℕ) → held_of (with_value o new es) q ≡ held_of es q ++ of q (with_origin o rs))
  extended_there old new (Ok x) there ok = more_kept new (ap (λ (z : ChainView PacketReport). z.items) ok ∙ ap (λ z. chain_items z ++ rs) there)
  extended_there old new (Err e) there ok = tt

  -- in a new chain
  pub extended_added : {A E : Type 0} (first c : ChainView PacketReport) (new : List (ℕ × ChainView PacketReport)) (r : Result A E) → None ≡ get es o → first ≡ chain [] false → c ≡ chain (first.items ++ rs) false → OnOk r (new ≡ with_value o c es) → OnOk r ((q : ℕ) → held_of new q ≡ held_of es q ++ of q (with_origin o rs))
  extended_added first c new (Ok x) none empty is ok = λ q.
      ap (λ (l : List (ℕ × ChainView PacketReport)). held_of l q) ok
      ∙ more_kept c (ap (λ (z : ChainView PacketReport). z.items) is ∙ ap (λ (z : ChainView PacketReport). z.items ++ rs) empty ∙ ap (λ z. chain_items z ++ rs) none) q
  extended_added first c new (Err e) none empty is ok = tt

-- a chain that may be missing is not there and empty
abbrev pub HoldsSome : Option (List PacketReport) → Type 0
HoldsSome o = o ≡ some_chain (or_empty o)

-- each chain of a replica holds something
abbrev pub IsPlain : ReplicaView → Type 0
IsPlain v = (q : ℕ) → HoldsSome (get v.chains q)

holds_more : (o : Option (List PacketReport)) (r : PacketReport) → HoldsSome (join_with (λ w u. w ++ u) o (Some (r ∷ [])))
holds_more None r = refl
holds_more (Some []) r = refl
holds_more (Some (x ∷ l)) r = refl

plain_one : (v : ReplicaView) (p : ℕ × PacketReport) → Rises v.chains → IsPlain v → IsPlain (append_one v p)
plain_one v p rises plain q =
    subst (λ (z : Option (List PacketReport)). HoldsSome z) (sym (get_put (λ w u. w ++ u) p.0 (p.1 ∷ []) v.chains q rises))
    (elim (q == p.0) as (λ b. HoldsSome (cond b (join_with (λ w u. w ++ u) (get v.chains p.0) (Some (p.1 ∷ []))) (get v.chains q))) [
      | true ↦ holds_more (get v.chains p.0) p.1
      | false ↦ plain q
    ])

plain_appended : (v : ReplicaView) (ps : List (ℕ × PacketReport)) → Rises v.chains → IsPlain v → IsPlain (appended v ps)
unfolding appended
plain_appended v [] rises plain = plain
plain_appended v (p ∷ ps) rises plain = plain_appended (append_one v p) ps (rises_put_key (λ w u. w ++ u) p.0 (p.1 ∷ []) v.chains rises) (plain_one v p rises plain)

plain_held : (name : ℕ) (plan : AccountPlan) (log : List PacketReport) (es : List (ℕ × ChainView PacketReport)) → Rises es → IsPlain (replica_of name plan log es)
plain_held name plan log es rises q = get_held es q rises ∙ ap some_chain (sym (chain_held es q rises))

own_grows : (v : ReplicaView) (ps : List (ℕ × PacketReport)) → Rises v.chains → IsOwnWithin v → length (of v.name ps) + length v.log ≤ length (appended v ps).log → IsOwnWithin (appended v ps)
own_grows v ps rises within grows =
    subst (λ n. length (chain_of (appended v ps) n) ≤ length (appended v ps).log) (sym (appended_name v ps))
    (sums (length (chain_of (appended v ps) v.name)) (length (chain_of v v.name)) (length (of v.name ps)) (length v.log) (length (appended v ps).log) (ap length (chain_appended v ps v.name rises) ∙ length-append (chain_of v v.name) (of v.name ps)) within grows) where
      sums : (a b c d e : ℕ) → a ≡ b + c → b ≤ d → c + d ≤ e → a ≤ e
      sums a b c d e p q s = omega (arith, p, q, s)

-- chains and a log that got these are those of the replica to which these were appended
module _ (name : ℕ) (log more : List PacketReport) (es fs : List (ℕ × ChainView PacketReport)) (billing : BillingView) (are : AreContents name log es billing) (ps : List (ℕ × PacketReport)) (rises : Rises fs)
    (chains : (q : ℕ) → held_of fs q ≡ held_of es q ++ of q ps) (logs : more ≡ in_order report_cmp (log ++ reports_in ps)) where
  abbrev before : ReplicaView
  before = replica_of name billing.plan log es

  held_are : held_in fs ≡ (appended before ps).chains
  held_are =
      let kept = rises_held es are.rises in
      only_map (List PacketReport) (held_in fs) (appended before ps).chains (rises_held fs rises) (appended_rises before ps kept) (λ q.
      get_held fs q rises
      ∙ ap some_chain (chains q ∙ ap (λ (l : List PacketReport). l ++ of q ps) (sym (chain_held es q are.rises)) ∙ sym (chain_appended before ps q kept))
      ∙ sym (plain_appended before ps kept (plain_held name billing.plan log es are.rises) q))

  pub now_is : replica_of name billing.plan more fs ≡ appended before ps
  now_is =
      let logs_are = logs ∙ sym (log_appended before ps are.replica.log_rises) in
      λ i. record { name = sym (appended_name before ps) i; plan = sym (appended_plan before ps) i; log = logs_are i; chains = held_are i }

  pub now_replica : IsReplica (replica_of name billing.plan more fs)
  now_replica = subst IsReplica (sym now_is) (replica_appended before ps are.replica)

  pub now_within : length (of name ps) + length log ≤ length more → IsOwnWithin (replica_of name billing.plan more fs)
  now_within all =
      let logs_are : more ≡ (appended before ps).log = logs ∙ sym (log_appended before ps are.replica.log_rises) in
      subst IsOwnWithin (sym now_is) (own_grows before ps (rises_held es are.rises) are.within (subst (λ (l : List PacketReport). length (of name ps) + length log ≤ length l) logs_are all))

-- chains that hold what they held, with the log as it was
module _ (name : ℕ) (log more : List PacketReport) (es fs : List (ℕ × ChainView PacketReport)) (billing : BillingView) (are : AreContents name log es billing) (rises : Rises fs)
    (chains : (q : ℕ) → held_of fs q ≡ held_of es q) (logs : more ≡ log) where
  pub again_is : replica_of name billing.plan more fs ≡ replica_of name billing.plan log es
  unfolding appended of reports_in
  again_is =
      now_is name log more es fs billing are [] rises (λ q. chains q ∙ sym (append-nil (held_of es q)))
      (logs ∙ sym (ap (in_order report_cmp) (append-nil log) ∙ in_order_of_rising report_cmp report_total report_exact log are.replica.log_rises))

  pub again_contents : AreContents name more fs billing
  again_contents = record {
    rises = rises;
    replica = subst IsReplica (sym again_is) are.replica;
    within = subst IsOwnWithin (sym again_is) are.within;
    fits = subst (λ (l : List PacketReport). Bills l billing) (sym logs) are.fits;
  }

-- what a call that can't be refused comes to
at_ok : {A E P : Type 0} (r : Result A E) → IsOk r → OnOk r P → P
at_ok (Ok x) t p = p
at_ok (Err e) t p = absurd (false≢true t)

-- a chain in place of one, and then one with the items that were kept
module _ (es : List (ℕ × ChainView PacketReport)) (rises : Rises es) (o : ℕ) (c d : ChainView PacketReport) where
  pub back_rises : Rises (with_value o d (with_value o c es))
  back_rises = rises_set (with_value o c es) (rises_set es rises o c) o d

  pub back_held : d.items ≡ held_of es o → (q : ℕ) → held_of (with_value o d (with_value o c es)) q ≡ held_of es q
  back_held is q =
      kept_set (with_value o c es) (rises_set es rises o c) o d q
      ∙ elim (q == o) as (λ b. q == o ≡ b → cond b d.items (held_of (with_value o c es) q) ≡ held_of es q) [
        | true ↦ λ at. is ∙ ap (held_of es) (sym (eqb-true q o at))
        | false ↦ λ at. kept_set es rises o c q ∙ ap (λ b. cond b c.items (held_of es q)) at
      ] refl

  -- which takes no memory
  pub back_set : {A E : Type 0} (fs gs : List (ℕ × ChainView PacketReport)) (r : Result A E) → fs ≡ with_value o c es → (IsSome (get fs o) → IsOk r) → OnOk r (gs ≡ with_value o d fs) → gs ≡ with_value o d (with_value o c es)
  back_set fs gs r e there ok =
      at_ok r (there (subst (λ (m : Option (ChainView PacketReport)). IsSome m) (sym (ap (λ l. get l o) e ∙ get_set es rises o c)) refl)) ok
      ∙ ap (with_value o d) e

-- and where all are of the own name
module _ (name : ℕ) (log more : List PacketReport) (es fs : List (ℕ × ChainView PacketReport)) (billing : BillingView) (are : AreContents name log es billing) (rs : List PacketReport) (rises : Rises fs)
    (chains : (q : ℕ) → held_of fs q ≡ held_of es q ++ of q (with_origin name rs)) (logs : more ≡ in_order report_cmp (log ++ rs)) where
  own_logs : more ≡ in_order report_cmp (log ++ reports_in (with_origin name rs))
  own_logs = logs ∙ ap (λ (l : List PacketReport). in_order report_cmp (log ++ l)) (sym (reports_tagged name rs))

  pub own_is : replica_of name billing.plan more fs ≡ appended (replica_of name billing.plan log es) (with_origin name rs)
  own_is = now_is name log more es fs billing are (with_origin name rs) rises chains own_logs

  pub own_replica : IsReplica (replica_of name billing.plan more fs)
  own_replica = now_replica name log more es fs billing are (with_origin name rs) rises chains own_logs

  pub own_within_all : length rs + length log ≤ length more → IsOwnWithin (replica_of name billing.plan more fs)
  own_within_all all = now_within name log more es fs billing are (with_origin name rs) rises chains own_logs (subst (λ (l : List PacketReport). length l + length log ≤ length more) (sym (of_tagged name rs)) all)

-- there is room in the own chain for as many as are new to the log
pub own_room : (name : ℕ) (log : List PacketReport) (es : List (ℕ × ChainView PacketReport)) (billing : BillingView) (n new total : ℕ) → AreContents name log es billing → n ≤ new → new + length log ≡ total → total ≤ 4194304 → length (held_of es name) + n ≤ 4194304
own_room name log es billing n new total are enough count few =
    let own : length (held_of es name) ≤ length log = subst (λ (l : List PacketReport). length l ≤ length log) (chain_held es name are.rises) are.within in
    sums (length (held_of es name)) (length log) n new total own enough count few where
      sums : (a b n new total : ℕ) → a ≤ b → n ≤ new → new + b ≡ total → total ≤ 4194304 → a + n ≤ 4194304
      sums a b n new total p q s t = omega (arith, p, q, s, t)

-- log, chains and bill in place of others
pub refilled : (name : ℕ) (plan : AccountPlan) (log : List PacketReport) (es : List (ℕ × ChainView PacketReport)) (billing : BillingView) → Rises es → IsReplica (replica_of name plan log es) → IsOwnWithin (replica_of name plan log es) → billing.plan ≡ plan → Bills log billing → AreContents name log es billing
refilled name plan log es billing rises replica within planned fits =
    let same : replica_of name plan log es ≡ replica_of name billing.plan log es = ap (λ (p : AccountPlan). replica_of name p log es) (sym planned) in
    record { rises = rises; replica = subst IsReplica same replica; within = subst IsOwnWithin same within; fits = fits }
