-- What an absorb of a sent delta leaves, and what stays true of a world.
use Rattle.std.proofs.Common.{◌≡◌, ℕ, suc, zero, ◌+◌, ◌-◌, ◌<◌, ◌≤◌, true, false, ◌&&◌, cond, Option, None, Some, List, [], ◌∷◌, ◌++◌, length, take, drop, nat_lt, ◌==◌, refl, sym, ap, ◌∙◌, subst, arith}
use Rattle.std.specs.List.{AllByRecursion}
use Rattle.std.proofs.lemmas.List.{append-nil}
use Rattle.std.proofs.lemmas.Bool.{eqb-true, eqb-false, ltb-false}
use Rattle.tca_report.specs.report.Reports.{PacketReport}
use Rattle.tca_join.specs.Maps.{Rises}
use Rattle.tca_join.specs.Chains.{differ_at}
use Rattle.tca_gossip.specs.Replicas.{ReplicaView, chain_of, appended, of, with_origin}
use Rattle.tca_gossip.specs.Runs.{RunView, Fault, OwnAhead, Gap, AreRuns, rests, rest_of, fault_of, first_fault, or_else, forked, same_report}
use Rattle.tca_gossip.specs.Machines.{Machine, held_prefix, raised, IsPart, IsWorld, Shows}
use Rattle.tca_gossip.proofs.Appends.{chain_appended, of_append, of_tagged, of_other}
use Rattle.tca_gossip.proofs.Worlds.{length_drop, take_further, drop_front, prefix_length, at_same}

-- xs begins ys
abbrev IsFront : List PacketReport → List PacketReport → Type 0
IsFront xs ys = xs ≡ take (length xs) ys

none_taken : (ys : List PacketReport) → [] ≡ take 0 ys
none_taken ys = refl

take_front : (j : ℕ) (ys : List PacketReport) → IsFront (take j ys) ys
take_front zero ys = refl
take_front (suc j) [] = refl
take_front (suc j) (y ∷ ys) = ap (λ (l : List PacketReport). y ∷ l) (take_front j ys)

front_of_front : (xs ys zs : List PacketReport) → IsFront xs ys → IsFront ys zs → IsFront xs zs
front_of_front [] ys zs h k = refl
front_of_front (x ∷ xs) [] zs h k = absurd cc
front_of_front (x ∷ xs) (y ∷ ys) [] h k = absurd cc
front_of_front (x ∷ xs) (y ∷ ys) (z ∷ zs) h k =
    let heads : x ≡ z = head_is x y (xs) (take (length xs) ys) h ∙ head_is y z ys (take (length ys) zs) k in
    let tails : xs ≡ take (length xs) zs = front_of_front xs ys zs (tail_is x y xs (take (length xs) ys) h) (tail_is y z ys (take (length ys) zs) k) in
    λ i. heads i ∷ tails i where
      head_is : (a b : PacketReport) (as1 bs : List PacketReport) → a ∷ as1 ≡ b ∷ bs → a ≡ b
      head_is a b as1 bs e = cc

      tail_is : (a b : PacketReport) (as1 bs : List PacketReport) → a ∷ as1 ≡ b ∷ bs → as1 ≡ bs
      tail_is a b as1 bs e = cc

-- of the first pairs those of an origin are the first of those of it
pub of_first : (o k : ℕ) (ps : List (ℕ × PacketReport)) → IsFront (of o (take k ps)) (of o ps)
unfolding of
of_first o zero ps = refl
of_first o (suc k) [] = refl
of_first o (suc k) (p ∷ ps) =
    elim (o == p.0) as (λ b. IsFront (cond b (p.1 ∷ of o (take k ps)) (of o (take k ps))) (cond b (p.1 ∷ of o ps) (of o ps))) [
      | true ↦ ap (λ (l : List PacketReport). p.1 ∷ l) (of_first o k ps)
      | false ↦ of_first o k ps
    ]

or_none : (a b : Option Fault) → or_else a b ≡ None → (a ≡ None) × (b ≡ None)
or_none None b e = (refl, e)
or_none (Some f) b e = absurd cc

-- no gap: the run starts within what is held
no_gap : (name : ℕ) (held : ℕ → List PacketReport) (r : RunView) → fault_of name held r ≡ None → r.start ≤ length (held r.origin)
no_gap name held r e =
    elim ((r.origin == name) && nat_lt (length (held r.origin)) (r.start + length r.reports)) as (λ b. cond b (Some (OwnAhead (length (held r.origin)) (r.start + length r.reports))) (cond (nat_lt (length (held r.origin)) r.start) (Some (Gap r.origin (length (held r.origin)) r.start)) (forked r.origin r.start (differ_at same_report (drop r.start (held r.origin)) r.reports))) ≡ None → r.start ≤ length (held r.origin)) [
      | true ↦ λ e. absurd cc
      | false ↦ λ e. elim (nat_lt (length (held r.origin)) r.start) as (λ b. nat_lt (length (held r.origin)) r.start ≡ b → cond b (Some (Gap r.origin (length (held r.origin)) r.start)) (forked r.origin r.start (differ_at same_report (drop r.start (held r.origin)) r.reports)) ≡ None → r.start ≤ length (held r.origin)) [
        | true ↦ λ t e. absurd cc
        | false ↦ λ t e. ltb-false (length (held r.origin)) r.start t
      ] refl e
    ] e

drop_none : (n : ℕ) → drop {A = PacketReport} n [] ≡ []
drop_none zero = refl
drop_none (suc n) = refl

drop_drop : (a b : ℕ) (xs : List PacketReport) → drop a (drop b xs) ≡ drop (b + a) xs
drop_drop a zero xs = ap (λ n. drop n xs) (plus a) where
  plus : (a : ℕ) → a ≡ 0 + a
  plus a = omega arith
drop_drop zero (suc b) [] = sym (drop_none (suc b + 0))
drop_drop (suc a) (suc b) [] = sym (drop_none (suc b + suc a))
drop_drop a (suc b) (x ∷ xs) = drop_drop a b xs ∙ ap (λ n. drop n (x ∷ xs)) (more a b) where
  more : (a b : ℕ) → suc (b + a) ≡ suc b + a
  more a b = omega arith

-- the rest of a part goes on where the chain that is held ends
rest_goes_on : (xs reports : List PacketReport) (h s : ℕ) → s ≤ h → reports ≡ take (length reports) (drop s xs) → IsFront (drop (h - s) reports) (drop h xs)
rest_goes_on xs reports h s within part =
    let is : drop (h - s) reports ≡ take (length reports - (h - s)) (drop h xs) =
    ap (drop (h - s)) part ∙ drop_front (length reports) (h - s) (drop s xs) ∙ ap (take (length reports - (h - s))) (drop_drop (h - s) s xs ∙ ap (λ n. drop n xs) (back h s within)) in
    subst (λ (l : List PacketReport). IsFront l (drop h xs)) (sym is) (take_front (length reports - (h - s)) (drop h xs)) where
      back : (h s : ℕ) → s ≤ h → s + (h - s) ≡ h
      back h s within = omega arith

none_of : (o : ℕ) (held : ℕ → List PacketReport) (runs : List RunView) → AllByRecursion (λ next. o < next.origin) runs → of o (rests held runs) ≡ []
unfolding rests of
none_of o held [] above = refl
none_of o held (r ∷ rs) above =
    of_append o (with_origin r.origin (rest_of held r)) (rests held rs)
    ∙ (λ i. of_other o r.origin (rest_of held r) (λ e. omega (arith, above.0, e)) i ++ none_of o held rs above.1 i)

pub of_rests : (m : Machine) (world : IsWorld m) (n o : ℕ) (runs : List RunView) → AreRuns runs → AllByRecursion (IsPart m) runs → first_fault n (held_prefix m n) runs ≡ None → IsFront (of o (rests (held_prefix m n) runs)) (drop (m.held n o) (m.arrivals o))
unfolding rests of first_fault
of_rests m world n o [] right parts none = refl
of_rests m world n o (r ∷ rs) right parts none =
    let nones = or_none (fault_of n (held_prefix m n) r) (first_fault n (held_prefix m n) rs) none in
    let split = of_append o (with_origin r.origin (rest_of (held_prefix m n) r)) (rests (held_prefix m n) rs) in
    elim (o == r.origin) as (λ b. o == r.origin ≡ b → IsFront (of o (with_origin r.origin (rest_of (held_prefix m n) r) ++ rests (held_prefix m n) rs)) (drop (m.held n o) (m.arrivals o))) [
      | true ↦ λ is. let same : o ≡ r.origin = eqb-true o r.origin is in
          let len = prefix_length m world n r.origin in
          let only : of o (with_origin r.origin (rest_of (held_prefix m n) r) ++ rests (held_prefix m n) rs) ≡ drop (m.held n r.origin - r.start) r.reports =
          split ∙ (λ i. of (same i) (with_origin r.origin (rest_of (held_prefix m n) r)) ++ of (same i) (rests (held_prefix m n) rs))
          ∙ (λ i. of_tagged r.origin (rest_of (held_prefix m n) r) i ++ none_of r.origin (held_prefix m n) rs right.1 i)
          ∙ append-nil (rest_of (held_prefix m n) r)
          ∙ ap (λ c. drop (c - r.start) r.reports) len in
          subst (λ (l : List PacketReport). IsFront l (drop (m.held n o) (m.arrivals o))) (sym only)
          (subst (λ z. IsFront (drop (m.held n r.origin - r.start) r.reports) (drop (m.held n z) (m.arrivals z))) (sym same)
          (rest_goes_on (m.arrivals r.origin) r.reports (m.held n r.origin) r.start (omega (arith, len, no_gap n (held_prefix m n) r nones.0)) parts.0.1))
      | false ↦ λ is. let apart : o ≡ r.origin → ⊥ = eqb-false o r.origin is in
          subst (λ (l : List PacketReport). IsFront l (drop (m.held n o) (m.arrivals o))) (sym (split ∙ ap (λ (l : List PacketReport). l ++ of o (rests (held_prefix m n) rs)) (of_other o r.origin (rest_of (held_prefix m n) r) apart)))
          (of_rests m world n o rs right.2 parts.1 nones.1)
    ] refl

-- how many reports an absorb that went so far adds for each origin
abbrev pub gained : Machine → ℕ → List RunView → ℕ → ℕ → ℕ
gained m n runs count o = length (of o (take count (rests (held_prefix m n) runs)))

pub absorb_chain : (m : Machine) (world : IsWorld m) (n : ℕ) (v : ReplicaView) (runs : List RunView) (count o : ℕ) → Shows m n v → Rises v.chains → AreRuns runs → AllByRecursion (IsPart m) runs → first_fault n (held_prefix m n) runs ≡ None
    → chain_of (appended v (take count (rests (chain_of v) runs))) o ≡ held_prefix (raised m n (gained m n runs count)) n o
absorb_chain m world n v runs count o shows rises right parts none =
    chain_appended v (take count (rests (chain_of v) runs)) o rises
    ∙ (λ i. shows.chains o i ++ of o (take count (rests (λ z. shows.chains z i) runs)))
    ∙ ap (λ (l : List PacketReport). held_prefix m n o ++ l) (front_of_front (of o (take count (rests (held_prefix m n) runs))) (of o (rests (held_prefix m n) runs)) (drop (m.held n o) (m.arrivals o)) (of_first o count (rests (held_prefix m n) runs)) (of_rests m world n o runs right parts none))
    ∙ take_further (m.held n o) (gained m n runs count o) (m.arrivals o) (world.within n o)
    ∙ sym (ap (λ (f : ℕ → ℕ). take (f o) (m.arrivals o)) (at_same n (λ o. m.held n o + gained m n runs count o) m.held))

front_within : (xs ys : List PacketReport) → IsFront xs ys → length xs ≤ length ys
front_within [] ys h = omega arith
front_within (x ∷ xs) [] h = absurd cc
front_within (x ∷ xs) (y ∷ ys) h = let tails : xs ≡ take (length xs) ys = cc in omega (arith, front_within xs ys tails)

pub gained_within : (m : Machine) (world : IsWorld m) (n : ℕ) (runs : List RunView) (count o : ℕ) → AreRuns runs → AllByRecursion (IsPart m) runs → first_fault n (held_prefix m n) runs ≡ None → m.held n o + gained m n runs count o ≤ length (m.arrivals o)
gained_within m world n runs count o right parts none =
    omega (
      arith,
      world.within n o,
      length_drop (m.held n o) (m.arrivals o),
      front_within (of o (take count (rests (held_prefix m n) runs))) (drop (m.held n o) (m.arrivals o))
          (front_of_front (of o (take count (rests (held_prefix m n) runs))) (of o (rests (held_prefix m n) runs)) (drop (m.held n o) (m.arrivals o)) (of_first o count (rests (held_prefix m n) runs)) (of_rests m world n o runs right parts none)),
    )
