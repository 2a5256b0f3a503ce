-- Log, chains and bill go on agreeing.
use Rattle.std.proofs.Common.{◌≡◌, ◌≢◌, ◌≤◌, ◌<◌, ℕ, Bool, true, false, true≢false, cond, nat_lt, Option, None, Some, List, [], ◌∷◌, ◌++◌, ◌==◌, length, refl, sym, ap, ◌∙◌, subst, arith}
use Rattle.std.proofs.lemmas.Bool.{eqb-true, eqb-false, ltb-false}
use Rattle.tca_report.specs.report.Reports.{PacketReport, report_cmp}
use Rattle.tca_join.specs.Sets.{has, in_order}
use Rattle.tca_join.specs.Sets.{put as put_report}
use Rattle.tca_join.specs.Chains.{ChainView, chain_joined, differ_at, longer}
use Rattle.tca_join.specs.Maps.{Rises, clash_key, get, merged, put}
use Rattle.tca_join.specs.laws.MapLaws.{get_merged, rises_merged}
use Rattle.tca_join.proofs.Differ.{longer_covers}
use Rattle.tca_join.proofs.Unions.{union_longer}
use Rattle.tca_report.proofs.lemmas.report.Order.{report_total, report_exact}
use Rattle.tca_accounts.specs.Plans.{AccountPlan}
use Rattle.tca_gossip.specs.Replicas.{ReplicaView, IsReplica, append_one, chain_of, least_of, merge_clash, merged_with, or_empty}
use Rattle.tca_gossip.specs.inside.Storage.{AreContents, IsOwnWithin, held_in, replica_of, BillingView, Bills}
use Rattle.tca_gossip.proofs.Takes.{replica_append, replica_opened}
use Rattle.tca_gossip.proofs.Sizes.{own_within}
use Rattle.tca_gossip.proofs.MergedLogs.{replica_merged}
use Rattle.tca_gossip.proofs.Plains.{held_merged}
use Rattle.tca_gossip.proofs.Worlds.{or_join}

-- the bill of any log, where no book is kept
pub without_book : (log : List PacketReport) (billing : BillingView) → billing.kept ≡ false → Bills log billing
without_book log billing none kept = absurd (true≢false (sym kept ∙ none))

pub nothing_agrees : (name : ℕ) (billing : BillingView) → Bills [] billing → AreContents name [] [] billing
nothing_agrees name billing fits = record { rises = tt; replica = replica_opened billing.plan name; within = omega arith; fits = fits }

-- the same reports in chains and log
same_replica : (name : ℕ) (log : List PacketReport) (chains more : List (ℕ × ChainView PacketReport)) (plan next : AccountPlan) → held_in more ≡ held_in chains → next ≡ plan → replica_of name next log more ≡ replica_of name plan log chains
same_replica name log chains more plan next held planned = λ i. record { name = name; plan = planned i; log = log; chains = held i }

pub room_agrees : (name : ℕ) (log : List PacketReport) (chains more : List (ℕ × ChainView PacketReport)) (billing next : BillingView) → AreContents name log chains billing → Rises more → held_in more ≡ held_in chains → next.plan ≡ billing.plan → Bills log next → AreContents name log more next
room_agrees name log chains more billing next are rises held planned fits =
    let same = sym (same_replica name log chains more billing.plan next.plan held planned) in
    record { rises = rises; replica = subst IsReplica same are.replica; within = subst IsOwnWithin same are.within; fits = fits }

-- a report more
pub report_agrees : (name : ℕ) (log : List PacketReport) (chains more : List (ℕ × ChainView PacketReport)) (billing next : BillingView) (o : ℕ) (r : PacketReport) → AreContents name log chains billing → Rises more → held_in more ≡ put (λ w u. w ++ u) o (r ∷ []) (held_in chains)
    → next.plan ≡ billing.plan → Bills (put_report report_cmp r log) next → (o ≡ name → has report_cmp log r ≡ false) → AreContents name (put_report report_cmp r log) more next
report_agrees name log chains more billing next o r are rises held planned fits new =
    let v = replica_of name billing.plan log chains in
    let same : append_one v (o, r) ≡ replica_of name next.plan (put_report report_cmp r log) more = λ i. record { name = name; plan = sym planned i; log = put_report report_cmp r log; chains = sym held i } in
    record {
      rises = rises;
      replica = subst IsReplica same (replica_append v (o, r) are.replica);
      within = subst IsOwnWithin same (own_within v o r are.replica are.within new);
      fits = fits;
    }

-- there is room for a report in its origin's chain: the own one is within a log that is not at its limit
pub few_reports : (v : ReplicaView) (o : ℕ) (r : PacketReport) → IsOwnWithin v → (o ≡ v.name → has report_cmp v.log r ≡ false) → (o ≢ v.name → length (chain_of v o) < 4194304) → (has report_cmp v.log r ≡ false → length v.log < 4194304) → length (chain_of v o) < 4194304
few_reports v o r within own other room =
    elim (o == v.name) as (λ b. o == v.name ≡ b → length (chain_of v o) < 4194304) [
      | true ↦ λ at. let same : o ≡ v.name = eqb-true o v.name at in
          subst (λ z. length (chain_of v z) < 4194304) (sym same) (below (length (chain_of v v.name)) (length v.log) within (room (own same)))
      | false ↦ λ at. other (eqb-false o v.name at)
    ] refl where
      below : (a b : ℕ) → a ≤ b → b < 4194304 → a < 4194304
      below a b h k = omega (arith, h, k)

-- the contents of two replicas that don't clash
pub neither : (a b : Option ℕ) → least_of a b ≡ None → (a ≡ None) × (b ≡ None)
neither None b e = (refl, e)
neither (Some k) None e = absurd cc
neither (Some k) (Some n) e = absurd cc

pub not_ahead : (b : Bool) (n : ℕ) → cond b (Some n) None ≡ None → b ≡ false
not_ahead true n e = absurd cc
not_ahead false n e = refl

module _ (eq : PacketReport → PacketReport → Bool) (exact : (x y : PacketReport) → eq x y ≡ true → x ≡ y) where
  -- the own chain stays, and the log has all that it had
  merged_within : (v w : ReplicaView) → IsReplica v → IsReplica w → IsOwnWithin v → merge_clash eq v w ≡ None → IsOwnWithin (merged_with v w)
  merged_within v w p r within none =
      let ahead = not_ahead (nat_lt (length (chain_of v v.name)) (length (chain_of w v.name))) v.name (neither (clash_key (differ_at eq) v.chains w.chains) (cond (nat_lt (length (chain_of v v.name)) (length (chain_of w v.name))) (Some v.name) None) none).1 in
      let own : chain_of (merged_with v w) v.name ≡ chain_of v v.name =
      ap or_empty (get_merged longer v.chains w.chains v.name p.rises r.rises) ∙ or_join (get v.chains v.name) (get w.chains v.name)
      ∙ longer_covers (chain_of v v.name) (chain_of w v.name) (ltb-false (length (chain_of v v.name)) (length (chain_of w v.name)) ahead) in
      grows (length (chain_of (merged_with v w) v.name)) (length (chain_of v v.name)) (length v.log) (length (merged_with v w).log) (ap length own) within (union_longer report_cmp report_total report_exact v.log w.log p.log_rises) where
        grows : (a b c d : ℕ) → a ≡ b → b ≤ c → c ≤ d → a ≤ d
        grows a b c d e f g = omega (arith, e, f, g)

  pub merged_agrees : (name other_name : ℕ) (log other_log : List PacketReport) (chains others : List (ℕ × ChainView PacketReport)) (billing other next : BillingView) → AreContents name log chains billing → AreContents other_name other_log others other
      → merge_clash eq (replica_of name billing.plan log chains) (replica_of other_name other.plan other_log others) ≡ None → next.plan ≡ billing.plan → Bills (in_order report_cmp (log ++ other_log)) next
      → AreContents name (in_order report_cmp (log ++ other_log)) (merged chain_joined chains others) next
  merged_agrees name other_name log other_log chains others billing other next are are_others none planned fits =
      let v = replica_of name billing.plan log chains in
      let w = replica_of other_name other.plan other_log others in
      let held = held_merged chains others are.rises are_others.rises in
      let same : merged_with v w ≡ replica_of name next.plan (in_order report_cmp (log ++ other_log)) (merged chain_joined chains others) = λ i. record { name = name; plan = sym planned i; log = in_order report_cmp (log ++ other_log); chains = sym held i } in
      let clash = (neither (clash_key (differ_at eq) v.chains w.chains) (cond (nat_lt (length (chain_of v v.name)) (length (chain_of w v.name))) (Some v.name) None) none).0 in
      record {
        rises = rises_merged chain_joined chains others are.rises;
        replica = subst IsReplica same (replica_merged eq exact v w are.replica are_others.replica clash);
        within = subst IsOwnWithin same (merged_within v w are.replica are_others.replica are.within none);
        fits = fits;
      }
