-- Each step of a world keeps what its replicas show.
use Rattle.std.proofs.Common.{◌≡◌, ℕ, suc, zero, ◌+◌, ◌-◌, ◌≤◌, max, Bool, true, false, ◌&&◌, cond, Option, None, Some, List, [], ◌∷◌, ◌++◌, length, take, drop, nat_lt, ◌==◌, refl, sym, ap, ◌∙◌, subst, arith, length-append}
use Rattle.std.specs.List.{AllByRecursion}
use Rattle.std.proofs.lemmas.List.{append-nil, take_all}
use Rattle.std.proofs.lemmas.Bool.{eq-eqb, ne_eqb, eqb-true, eqb-false, le-ltb}
use Rattle.std.specs.Cmp.{tied_itself}
use Rattle.tca_report.specs.report.Reports.{PacketReport}
use Rattle.tca_report.proofs.lemmas.report.Order.{report_total}
use Rattle.tca_join.specs.Maps.{get, Rises, join_with}
use Rattle.tca_join.specs.laws.MapLaws.{get_merged}
use Rattle.tca_join.specs.Chains.{longer, differ_at}
use Rattle.tca_gossip.specs.Replicas.{ReplicaView, or_empty, chain_of, appended, of, with_origin, merged_with}
use Rattle.tca_gossip.specs.Runs.{RunView, Fault, OwnAhead, Gap, Forked, fault_of, first_fault, or_else, forked, same_report}
use Rattle.tca_gossip.specs.Machines.{Machine, held_prefix, at_name, took, joined, IsPart, IsWorld, Shows, IsGapFault}
use Rattle.tca_gossip.proofs.Appends.{chain_appended, of_tagged, of_other}

-- lists and their fronts
pub take_within : (n : ℕ) (xs ys : List PacketReport) → n ≤ length xs → take n (xs ++ ys) ≡ take n xs
take_within zero xs ys h = refl
take_within (suc n) [] ys h = absurd (omega arith)
take_within (suc n) (x ∷ xs) ys h = ap (λ (l : List PacketReport). x ∷ l) (take_within n xs ys (omega arith))

pub drop_within : (n : ℕ) (xs ys : List PacketReport) → n ≤ length xs → drop n (xs ++ ys) ≡ drop n xs ++ ys
drop_within zero xs ys h = refl
drop_within (suc n) [] ys h = absurd (omega arith)
drop_within (suc n) (x ∷ xs) ys h = drop_within n xs ys (omega arith)

pub length_take : (n : ℕ) (xs : List PacketReport) → n ≤ length xs → length (take n xs) ≡ n
length_take zero xs h = refl
length_take (suc n) [] h = absurd (omega arith)
length_take (suc n) (x ∷ xs) h = ap suc (length_take n xs (omega arith))

pub length_drop : (n : ℕ) (xs : List PacketReport) → length (drop n xs) ≡ length xs - n
length_drop zero xs = omega arith
length_drop (suc n) [] = omega arith
length_drop (suc n) (x ∷ xs) = omega (arith, length_drop n xs)

-- the first items of a list, and those that follow them, are the first of a greater number
pub take_further : (n k : ℕ) (xs : List PacketReport) → n ≤ length xs → take n xs ++ take k (drop n xs) ≡ take (n + k) xs
take_further zero k xs h = ap (λ m. take m xs) (zero_plus k) where
  zero_plus : (k : ℕ) → k ≡ 0 + k
  zero_plus k = omega arith
take_further (suc n) k [] h = absurd (omega arith)
take_further (suc n) k (x ∷ xs) h = ap (λ (l : List PacketReport). x ∷ l) (take_further n k xs (omega arith)) ∙ ap (λ m. take m (x ∷ xs)) (more n k) where
  more : (n k : ℕ) → suc (n + k) ≡ suc n + k
  more n k = omega arith

-- of two fronts the longer
pub longer_fronts : (a b : ℕ) (xs : List PacketReport) → a ≤ length xs → b ≤ length xs → longer (take a xs) (take b xs) ≡ take (max a b) xs
longer_fronts zero b xs h k = ap (λ m. take m xs) (most b) where
  most : (b : ℕ) → b ≡ max 0 b
  most b = omega arith
longer_fronts (suc a) b [] h k = absurd (omega arith)
longer_fronts (suc a) zero (x ∷ xs) h k = ap (λ m. take m (x ∷ xs)) (most a) where
  most : (a : ℕ) → suc a ≡ max (suc a) 0
  most a = omega arith
longer_fronts (suc a) (suc b) (x ∷ xs) h k = ap (λ (l : List PacketReport). x ∷ l) (longer_fronts a b xs (omega arith) (omega arith)) ∙ ap (λ m. take m (x ∷ xs)) (most a b) where
  most : (a b : ℕ) → suc (max a b) ≡ max (suc a) (suc b)
  most a b = omega arith

pub same_itself : (x : PacketReport) → same_report x x ≡ true
same_itself x = rw (tied_itself report_total x) refl

-- fronts of one list never differ
pub fronts_agree : (a b : ℕ) (xs : List PacketReport) → differ_at same_report (take a xs) (take b xs) ≡ None
fronts_agree zero b xs = refl
fronts_agree (suc a) b [] = refl
fronts_agree (suc a) zero (x ∷ xs) = refl
fronts_agree (suc a) (suc b) (x ∷ xs) = rw (same_itself x, fronts_agree a b xs) refl

pub take_none : (n : ℕ) → take {A = PacketReport} n [] ≡ []
take_none zero = refl
take_none (suc n) = refl

pub drop_front : (n s : ℕ) (xs : List PacketReport) → drop s (take n xs) ≡ take (n - s) (drop s xs)
drop_front n zero xs = ap (λ m. take m xs) (none n) where
  none : (n : ℕ) → n ≡ n - 0
  none n = omega arith
drop_front zero (suc s) xs = ap (λ m. take m (drop (suc s) xs)) (none s) where
  none : (s : ℕ) → 0 ≡ 0 - suc s
  none s = omega arith
drop_front (suc n) (suc s) [] = sym (take_none (suc n - suc s))
drop_front (suc n) (suc s) (x ∷ xs) = drop_front n s xs ∙ ap (λ m. take m (drop s xs)) (less n s) where
  less : (n s : ℕ) → n - s ≡ suc n - suc s
  less n s = omega arith

-- a part of the arrivals is refused only as a gap
pub part_within : (m : Machine) (world : IsWorld m) (n : ℕ) (r : RunView) → IsPart m r → r.origin == n ≡ true → r.start + length r.reports ≤ m.held n r.origin
part_within m world n r part is = let same : r.origin ≡ n = eqb-true r.origin n is in
    subst (λ k. r.start + length r.reports ≤ k) (sym (subst (λ k. m.held k r.origin ≡ length (m.arrivals r.origin)) same (world.own r.origin))) part.0

pub prefix_length : (m : Machine) (world : IsWorld m) (n o : ℕ) → length (held_prefix m n o) ≡ m.held n o
prefix_length m world n o = length_take (m.held n o) (m.arrivals o) (world.within n o)

pub no_fork : (m : Machine) (n : ℕ) (r : RunView) → IsPart m r → differ_at same_report (drop r.start (held_prefix m n r.origin)) r.reports ≡ None
no_fork m n r part =
    rw (drop_front (m.held n r.origin) r.start (m.arrivals r.origin))
    (ap (differ_at same_report (take (m.held n r.origin - r.start) (drop r.start (m.arrivals r.origin)))) part.1
    ∙ fronts_agree (m.held n r.origin - r.start) (length r.reports) (drop r.start (m.arrivals r.origin)))

pub part_fault : (m : Machine) (world : IsWorld m) (n : ℕ) (r : RunView) → IsPart m r → IsGapFault (fault_of n (held_prefix m n) r)
part_fault m world n r part =
    let len = prefix_length m world n r.origin in
    elim (r.origin == n) as (λ b. r.origin == n ≡ b → IsGapFault (cond (b && nat_lt (length (held_prefix m n r.origin)) (r.start + length r.reports)) (Some (OwnAhead (length (held_prefix m n r.origin)) (r.start + length r.reports))) (cond (nat_lt (length (held_prefix m n r.origin)) r.start) (Some (Gap r.origin (length (held_prefix m n r.origin)) r.start)) (forked r.origin r.start (differ_at same_report (drop r.start (held_prefix m n r.origin)) r.reports))))) [
      | true ↦ λ is. rw (le-ltb (length (held_prefix m n r.origin)) (r.start + length r.reports) (omega (arith, len, part_within m world n r part is))) (no_other (nat_lt (length (held_prefix m n r.origin)) r.start))
      | false ↦ λ is. no_other (nat_lt (length (held_prefix m n r.origin)) r.start)
    ] refl where
      no_other : (b : Bool) → IsGapFault (cond b (Some (Gap r.origin (length (held_prefix m n r.origin)) r.start)) (forked r.origin r.start (differ_at same_report (drop r.start (held_prefix m n r.origin)) r.reports)))
      no_other true = tt
      no_other false = rw (no_fork m n r part) tt

-- whatever was sent, no absorb of it is forked or ahead
pub sent_fault : (m : Machine) (world : IsWorld m) (n : ℕ) (runs : List RunView) → AllByRecursion (IsPart m) runs → IsGapFault (first_fault n (held_prefix m n) runs)
unfolding first_fault
sent_fault m world n [] parts = tt
sent_fault m world n (r ∷ rs) parts = both (fault_of n (held_prefix m n) r) (first_fault n (held_prefix m n) rs) (part_fault m world n r parts.0) (sent_fault m world n rs parts.1) where
  both : (a b : Option Fault) → IsGapFault a → IsGapFault b → IsGapFault (or_else a b)
  both None b p q = q
  both (Some (OwnAhead have said)) b p q = p
  both (Some (Gap origin have from)) b p q = p
  both (Some (Forked origin at)) b p q = p

-- a step of take
pub at_same : {A : Type 0} (n : ℕ) (x : A) (f : ℕ → A) → at_name n x f n ≡ x
at_same n x f = rw (eq-eqb n n refl) refl

pub at_other : {A : Type 0} (n k : ℕ) (x : A) (f : ℕ → A) → (k ≡ n → ⊥) → at_name n x f k ≡ f k
at_other n k x f apart = rw (ne_eqb k n apart) refl

pub take_chain : (m : Machine) (world : IsWorld m) (n : ℕ) (v : ReplicaView) (fresh : List PacketReport) (o : ℕ) → Shows m n v → Rises v.chains → chain_of (appended v (with_origin v.name fresh)) o ≡ held_prefix (took m n fresh) n o
take_chain m world n v fresh o shows rises =
    chain_appended v (with_origin v.name fresh) o rises
    ∙ (λ i. shows.chains o i ++ of o (with_origin (shows.name i) fresh))
    ∙ elim (o == n) as (λ b. o == n ≡ b → held_prefix m n o ++ of o (with_origin n fresh) ≡ take (at_name n (at_name n (length (m.arrivals n) + length fresh) (m.held n)) m.held n o) (cond b (m.arrivals n ++ fresh) (m.arrivals o))) [
      | true ↦ λ is. let same : o ≡ n = eqb-true o n is in
          subst (λ z. held_prefix m n z ++ of z (with_origin n fresh) ≡ take (at_name n (at_name n (length (m.arrivals n) + length fresh) (m.held n)) m.held n z) (m.arrivals n ++ fresh)) (sym same)
          (rw (at_same n (at_name n (length (m.arrivals n) + length fresh) (m.held n)) m.held, at_same n (length (m.arrivals n) + length fresh) (m.held n), world.own n, of_tagged n fresh)
          (whole (m.arrivals n) fresh))
      | false ↦ λ is. let apart : o ≡ n → ⊥ = eqb-false o n is in
          rw (at_same n (at_name n (length (m.arrivals n) + length fresh) (m.held n)) m.held, at_other n o (length (m.arrivals n) + length fresh) (m.held n) apart, of_other o n fresh apart) (append-nil (held_prefix m n o))
    ] refl where
      whole : (xs ys : List PacketReport) → take (length xs) xs ++ ys ≡ take (length xs + length ys) (xs ++ ys)
      whole xs ys = ap (λ (l : List PacketReport). l ++ ys) (take_all (length xs) xs (omega arith)) ∙ sym (take_all (length xs + length ys) (xs ++ ys) (omega (arith, length-append xs ys)))

-- a step of merge
pub or_join : (a b : Option (List PacketReport)) → or_empty (join_with longer a b) ≡ longer (or_empty a) (or_empty b)
or_join None b = refl
or_join (Some a) None = sym (longer_none a) where
  longer_none : (a : List PacketReport) → longer a [] ≡ a
  longer_none [] = refl
  longer_none (x ∷ a) = refl
or_join (Some a) (Some b) = refl

pub merge_chain : (m : Machine) (world : IsWorld m) (n k : ℕ) (v w : ReplicaView) (o : ℕ) → Shows m n v → Shows m k w → Rises v.chains → Rises w.chains → chain_of (merged_with v w) o ≡ held_prefix (joined m n k) n o
merge_chain m world n k v w o v-shows w-shows v-rises w-rises =
    ap or_empty (get_merged longer v.chains w.chains o v-rises w-rises)
    ∙ or_join (get v.chains o) (get w.chains o)
    ∙ (λ i. longer (v-shows.chains o i) (w-shows.chains o i))
    ∙ longer_fronts (m.held n o) (m.held k o) (m.arrivals o) (world.within n o) (world.within k o)
    ∙ sym (ap (λ (f : ℕ → ℕ). take (f o) (m.arrivals o)) (at_same n (λ o. max (m.held n o) (m.held k o)) m.held))

-- equal counts, equal chains
pub equal_counts : (m : Machine) (n k : ℕ) (v w : ReplicaView) → Shows m n v → Shows m k w → ((o : ℕ) → m.held n o ≡ m.held k o) → (o : ℕ) → chain_of v o ≡ chain_of w o
equal_counts m n k v w v-shows w-shows same o = v-shows.chains o ∙ ap (λ c. take c (m.arrivals o)) (same o) ∙ sym (w-shows.chains o)
