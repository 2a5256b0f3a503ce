-- Where the replica of a name is, and two replicas of one list.
use Rattle.std.proofs.Common.{◌≡◌, ℕ, suc, zero, ◌+◌, ◌<◌, ◌≤◌, Bool, true, false, nat_lt, Some, List, [], ◌∷◌, map, length, get_or, slice_get, slice_set, refl, sym, ap, ◌∙◌, subst, arith}
use Rattle.std.specs.List.{insert, remove}
use Rattle.std.proofs.lemmas.Bool.{ltb-true, ltb-false}
use Rattle.std.proofs.lemmas.Option.{slice_get_read, get_or_from_slice_get}
use Rattle.tca_report.specs.report.Reports.{PacketReport}
use Rattle.tca_join.specs.Faults.{IsJoinFault}
use Rattle.tca_join.specs.declared.fault.JoinFault.{JoinFault}
use Rattle.tca_gossip.specs.Replicas.{ReplicaView, merge_clash, merge_full, merged_with}
use Rattle.tca_gossip.specs.Coupling.{WorldView, name_of}
use Rattle.tca_gossip.specs.Worlds.{IsPlace, OfBoth}
use Rattle.tca_gossip.proofs.Arriving.{set_same}

pub replica_there : (vs : List ReplicaView) (i n : ℕ) → slice_get (map name_of vs) i ≡ Some n → (v : ReplicaView) × (slice_get vs i ≡ Some v) × (v.name ≡ n)
replica_there [] i n e = absurd cc
replica_there (x ∷ vs) zero n e = let is : x.name ≡ n = cc in (x, refl, is)
replica_there (x ∷ vs) (suc i) n e = replica_there vs i n e

-- replicas of different names are at different places
pub apart_places : (w : WorldView) (n k i j : ℕ) → IsPlace w n (Some i) → IsPlace w k (Some j) → (n ≡ k → ⊥) → i ≡ j → ⊥
apart_places w n k i j here other apart same = let one : Some n ≡ Some k = sym here.1 ∙ ap (slice_get (map name_of w.replicas)) same ∙ other.1 in let names : n ≡ k = cc in apart names

-- an element is taken out and put back
put_back : {A : Type 0} (xs : List A) (i : ℕ) (x : A) → i < length xs → insert (remove xs i) i x ≡ slice_set xs i x
put_back [] i x h = absurd (omega arith)
put_back (y ∷ xs) zero x h = refl
put_back (y ∷ xs) (suc i) x h = ap (λ l. y ∷ l) (put_back xs i x (omega arith))

kept_before : {A : Type 0} (xs : List A) (i j : ℕ) (d : A) → j < i → get_or (remove xs i) j d ≡ get_or xs j d
kept_before xs zero j d h = absurd (omega arith)
kept_before [] (suc i) j d h = refl
kept_before (y ∷ xs) (suc i) zero d h = refl
kept_before (y ∷ xs) (suc i) (suc j) d h = kept_before xs i j d (omega arith)

kept_after : {A : Type 0} (xs : List A) (i k : ℕ) (d : A) → i ≤ k → get_or (remove xs i) k d ≡ get_or xs (suc k) d
kept_after [] zero k d h = refl
kept_after [] (suc i) k d h = refl
kept_after (y ∷ xs) zero k d h = refl
kept_after (y ∷ xs) (suc i) zero d h = absurd (omega arith)
kept_after (y ∷ xs) (suc i) (suc k) d h = kept_after xs i k d (omega arith)

module _ (vs : List ReplicaView) (i j at : ℕ) (apart : i ≡ j → ⊥) (before : j < i → at ≡ j) (after : i < j → at + 1 ≡ j) where
  -- where the other one stands then
  pub other_within : i < length vs → j < length vs → (n : ℕ) → n + 1 ≡ length vs → at < n
  other_within i-there j-there n less = elim (nat_lt j i) as (λ b. nat_lt j i ≡ b → at < n) [
    | true ↦ λ is. omega (arith, i-there, less, ltb-true j i is, before (ltb-true j i is))
    | false ↦ λ is. let more : i < j = omega (arith, apart, ltb-false j i is) in omega (arith, j-there, less, after more)
  ] refl

  other_kept : (d : ReplicaView) → get_or (remove vs i) at d ≡ get_or vs j d
  other_kept d = elim (nat_lt j i) as (λ b. nat_lt j i ≡ b → get_or (remove vs i) at d ≡ get_or vs j d) [
    | true ↦ λ is. let less = ltb-true j i is in ap (λ k. get_or (remove vs i) k d) (before less) ∙ kept_before vs i j d less
    | false ↦ λ is. let more : i < j = omega (arith, apart, ltb-false j i is) in
        let next : suc at ≡ j = omega (arith, after more) in
        kept_after vs i at d (omega (arith, more, after more)) ∙ ap (λ k. get_or vs k d) next
  ] refl

  module _ (i-there : i < length vs) (own other : ReplicaView) (own-is : own ≡ get_or vs i own) (other-is : other ≡ get_or (remove vs i) at other) (x : ReplicaView) (left : List ReplicaView) (put : left ≡ insert (remove vs i) i x) where
    own_at : (v : ReplicaView) → slice_get vs i ≡ Some v → own ≡ v
    own_at v here = own-is ∙ get_or_from_slice_get vs i v own here

    other_at : (u : ReplicaView) → slice_get vs j ≡ Some u → other ≡ u
    other_at u there = other-is ∙ other_kept other ∙ get_or_from_slice_get vs j u other there

    -- one of two replicas was merged with the other
    pub two_merged : x ≡ merged_with own other → OfBoth vs i j (λ v u. left ≡ slice_set vs i (merged_with v u))
    two_merged joins v u here there = put ∙ put_back vs i x i-there ∙ ap (slice_set vs i) (joins ∙ (λ k. merged_with (own_at v here k) (other_at u there k)))

    -- or stays
    pub two_stay : x ≡ own → left ≡ vs
    two_stay stays = put ∙ put_back vs i x i-there ∙ ap (slice_set vs i) stays ∙ set_same vs i own (slice_get_read vs (length vs) i own refl i-there own-is)

    pub two_refused : (eq : PacketReport → PacketReport → Bool) (fault : JoinFault) → IsJoinFault (merge_clash eq own other) (merge_full own other) fault → OfBoth vs i j (λ v u. IsJoinFault (merge_clash eq v u) (merge_full v u) fault)
    two_refused eq fault is v u here there =
        subst (λ z. IsJoinFault (merge_clash eq z u) (merge_full z u) fault) (own_at v here)
        (subst (λ z. IsJoinFault (merge_clash eq own z) (merge_full own z) fault) (other_at u there) is)
