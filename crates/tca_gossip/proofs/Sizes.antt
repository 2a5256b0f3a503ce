-- How logs and chains grow: the own chain stays within the log, and chains within their limit.
use Rattle.std.proofs.Common.{◌≡◌, ◌≤◌, ◌<◌, ℕ, suc, ◌+◌, true, false, ◌||◌, List, [], ◌∷◌, ◌++◌, ◌==◌, length, refl, sym, ap, ◌∙◌, arith, length-append}
use Rattle.std.proofs.lemmas.Bool.{false≢true, eqb-true}
use Rattle.std.specs.List.{AllByRecursion, list_any}
use Rattle.std.specs.Ordering.{eq_by_cmp, is_eq}
use Rattle.std.specs.declared.cmp.Ordering.TheVariants.{Less, Equal, Greater}
use Rattle.tca_report.specs.report.Reports.{PacketReport, report_cmp}
use Rattle.tca_join.specs.Sets.{by_order, has, put}
use Rattle.tca_gossip.specs.Replicas.{ReplicaView, IsReplica, append_one, appended, with_origin, chain_of, of}
use Rattle.tca_gossip.specs.Runs.{RunView, rests, rest_of}
use Rattle.tca_gossip.specs.inside.Storage.{IsOwnWithin}
use Rattle.tca_gossip.proofs.Appends.{chain_appended, of_append, of_other}

pub put_new : (k : PacketReport) (xs : List PacketReport) → has report_cmp xs k ≡ false → length (put report_cmp k xs) ≡ suc (length xs)
unfolding put has
put_new k [] h = refl
put_new k (x ∷ xs) h =
    elim (report_cmp k x) as (λ r. (is_eq r || list_any (eq_by_cmp report_cmp k) xs) ≡ false → length (by_order r (k ∷ x ∷ xs) (x ∷ xs) (x ∷ put report_cmp k xs)) ≡ suc (suc (length xs))) [
      | Less ↦ λ h. refl
      | Equal ↦ λ h. absurd (false≢true (sym h))
      | Greater ↦ λ h. ap suc (put_new k xs h)
    ] h

put_more : (k : PacketReport) (xs : List PacketReport) → length xs ≤ length (put report_cmp k xs)
unfolding put
put_more k [] = omega arith
put_more k (x ∷ xs) =
    elim (report_cmp k x) as (λ r. suc (length xs) ≤ length (by_order r (k ∷ x ∷ xs) (x ∷ xs) (x ∷ put report_cmp k xs))) [
      | Less ↦ omega arith
      | Equal ↦ omega arith
      | Greater ↦ omega (arith, put_more k xs)
    ]

chain_one : (v : ReplicaView) (p : ℕ × PacketReport) (q : ℕ) → IsReplica v → chain_of (append_one v p) q ≡ chain_of v q ++ of q (p ∷ [])
unfolding appended
chain_one v p q is = chain_appended v (p ∷ []) q is.rises

length_here : (n o : ℕ) (r : PacketReport) → n == o ≡ true → length (of n ((o, r) ∷ [])) ≡ 1
unfolding of
length_here n o r at = rw at refl

length_elsewhere : (n o : ℕ) (r : PacketReport) → n == o ≡ false → length (of n ((o, r) ∷ [])) ≡ 0
unfolding of
length_elsewhere n o r at = rw at refl

grown : (a b c d : ℕ) → a ≡ b + 1 → b ≤ c → d ≡ suc c → a ≤ d
grown a b c d p q s = omega (arith, p, q, s)

stays : (a b c d : ℕ) → a ≡ b + 0 → b ≤ c → c ≤ d → a ≤ d
stays a b c d p q s = omega (arith, p, q, s)

-- a report more, in the own chain only where it is new
pub own_within : (v : ReplicaView) (o : ℕ) (r : PacketReport) → IsReplica v → IsOwnWithin v → (o ≡ v.name → has report_cmp v.log r ≡ false) → IsOwnWithin (append_one v (o, r))
own_within v o r is within new =
    let own = length (chain_of v v.name) in
    let more : length (chain_of (append_one v (o, r)) v.name) ≡ own + length (of v.name ((o, r) ∷ [])) = ap length (chain_one v (o, r) v.name is) ∙ length-append (chain_of v v.name) (of v.name ((o, r) ∷ [])) in
    elim (v.name == o) as (λ b. v.name == o ≡ b → IsOwnWithin (append_one v (o, r))) [
      | true ↦ λ at. grown (length (chain_of (append_one v (o, r)) v.name)) own (length v.log) (length (put report_cmp r v.log)) (more ∙ ap (λ n. own + n) (length_here v.name o r at)) within (put_new r v.log (new (sym (eqb-true v.name o at))))
      | false ↦ λ at. stays (length (chain_of (append_one v (o, r)) v.name)) own (length v.log) (length (put report_cmp r v.log)) (more ∙ ap (λ n. own + n) (length_elsewhere v.name o r at)) within (put_more r v.log)
    ] refl

-- what runs have past chains within the limit leaves them within it
none_above : (held : ℕ → List PacketReport) (low : ℕ) (runs : List RunView) (o : ℕ) → AllByRecursion (λ next. low < next.origin) runs → o ≤ low → of o (rests held runs) ≡ []
unfolding rests of
none_above held low [] o h le = refl
none_above held low (r ∷ rs) o h le =
    of_append o (with_origin r.origin (rest_of held r)) (rests held rs)
    ∙ (λ i. of_other o r.origin (rest_of held r) (λ same. omega (arith, h.0, le, same)) i ++ none_above held low rs o h.1 le i)
