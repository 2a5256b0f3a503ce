-- What stays true of a world.
use Rattle.std.proofs.Common.{◌≡◌, ℕ, ◌+◌, ◌≤◌, max, true, false, cond, List, [], ◌∷◌, ◌++◌, length, take, drop, ◌==◌, refl, sym, ap, ◌∙◌, subst, arith, length-append}
use Rattle.std.specs.List.{AllByRecursion}
use Rattle.std.proofs.lemmas.Bool.{eqb-true, eqb-false, true≢false}
use Rattle.tca_report.specs.report.Reports.{PacketReport}
use Rattle.tca_gossip.specs.Runs.{RunView}
use Rattle.tca_gossip.specs.Machines.{Message, Counts, Parts, Machine, held_prefix, at_name, took, raised, joined, sends, is_name, IsPart, IsSound, IsWorld, new_machine}
use Rattle.tca_gossip.proofs.Worlds.{take_within, drop_within, length_drop, at_same, at_other}

all_parts : {A : Type 0} (P Q : A → Type 0) → ((x : A) → P x → Q x) → (xs : List A) → AllByRecursion P xs → AllByRecursion Q xs
all_parts P Q f [] h = tt
all_parts P Q f (x ∷ xs) h = (f x h.0, all_parts P Q f xs h.1)

sound_as : (m w : Machine) → ((r : RunView) → IsPart m r → IsPart w r) → (message : Message) → IsSound m message → IsSound w message
sound_as m w f (Counts counts) h = tt
sound_as m w f (Parts runs) h = (h.0, all_parts (IsPart m) (IsPart w) f runs h.1)

all_sent : (m w : Machine) → ((r : RunView) → IsPart m r → IsPart w r) → (sent : List Message) → AllByRecursion (IsSound m) sent → AllByRecursion (IsSound w) sent
all_sent m w f sent h = all_parts (IsSound m) (IsSound w) (sound_as m w f) sent h

pub all_more : {A : Type 0} (P : A → Type 0) (sent : List A) (message : A) → AllByRecursion P sent → P message → AllByRecursion P (sent ++ message ∷ [])
all_more P [] message h p = (p, tt)
all_more P (x ∷ sent) message h p = (h.0, all_more P sent message h.1 p)

pub world_started : (names : List ℕ) → IsWorld (new_machine names)
world_started names = record { within = λ n o. omega arith; own = λ n. refl; strangers = λ o is. refl; sound = tt }

-- by cases on the name
at_cases : {A : Type 0} (P : A → Type 0) (n k : ℕ) (x : A) (f : ℕ → A) → ((k ≡ n) → P x) → ((k ≡ n → ⊥) → P (f k)) → P (at_name n x f k)
at_cases P n k x f yes1 no1 = elim (k == n) as (λ b. k == n ≡ b → P (cond b x (f k))) [ true ↦ λ is. yes1 (eqb-true k n is) | false ↦ λ is. no1 (eqb-false k n is) ] refl

part_grows : (xs ys reports : List PacketReport) (start : ℕ) → start + length reports ≤ length xs → reports ≡ take (length reports) (drop start xs) → (start + length reports ≤ length (xs ++ ys)) × (reports ≡ take (length reports) (drop start (xs ++ ys)))
part_grows xs ys reports start within is = (
  omega (arith, within, length-append xs ys),
  is ∙ sym (ap (take (length reports)) (drop_within start xs ys (omega (arith, within))) ∙ take_within (length reports) (drop start xs) ys (omega (arith, within, length_drop start xs))),
)

pub world_took : (m : Machine) (n : ℕ) (fresh : List PacketReport) → is_name m n ≡ true → IsWorld m → IsWorld (took m n fresh)
world_took m n fresh named world = record {
  strangers = λ o out. elim (o == n) as (λ b. o == n ≡ b → cond b (m.arrivals n ++ fresh) (m.arrivals o) ≡ []) [
    | true ↦ λ is. absurd (true≢false (sym named ∙ ap (is_name m) (sym (eqb-true o n is)) ∙ out))
    | false ↦ λ is. world.strangers o out
  ] refl;
  within = λ k o.
      at_cases (λ (l : List PacketReport). at_name n (at_name n (length (m.arrivals n) + length fresh) (m.held n)) m.held k o ≤ length l) n o (m.arrivals n ++ fresh) m.arrivals
      (λ is. subst (λ z. at_name n (at_name n (length (m.arrivals n) + length fresh) (m.held n)) m.held k z ≤ length (m.arrivals n ++ fresh)) (sym is)
      (at_cases (λ (f : ℕ → ℕ). f n ≤ length (m.arrivals n ++ fresh)) n k (at_name n (length (m.arrivals n) + length fresh) (m.held n)) m.held
      (λ _. rw (at_same n (length (m.arrivals n) + length fresh) (m.held n)) (omega (arith, length-append (m.arrivals n) fresh)))
      (λ _. omega (arith, world.within k n, length-append (m.arrivals n) fresh))))
      (λ apart. at_cases (λ (f : ℕ → ℕ). f o ≤ length (m.arrivals o)) n k (at_name n (length (m.arrivals n) + length fresh) (m.held n)) m.held
      (λ _. rw (at_other n o (length (m.arrivals n) + length fresh) (m.held n) apart) (world.within n o))
      (λ _. world.within k o));
  own = λ k. elim (k == n) as (λ b. k == n ≡ b → cond b (at_name n (length (m.arrivals n) + length fresh) (m.held n)) (m.held k) k ≡ length (cond b (m.arrivals n ++ fresh) (m.arrivals k))) [
    | true ↦ λ is. subst (λ z. at_name n (length (m.arrivals n) + length fresh) (m.held n) z ≡ length (m.arrivals n ++ fresh)) (sym (eqb-true k n is)) (at_same n (length (m.arrivals n) + length fresh) (m.held n) ∙ sym (length-append (m.arrivals n) fresh))
    | false ↦ λ is. world.own k
  ] refl;
  sound = all_sent m (took m n fresh) (λ r part. elim (r.origin == n) as (λ b. r.origin == n ≡ b → (r.start + length r.reports ≤ length (cond b (m.arrivals n ++ fresh) (m.arrivals r.origin))) × (r.reports ≡ take (length r.reports) (drop r.start (cond b (m.arrivals n ++ fresh) (m.arrivals r.origin))))) [
    | true ↦ λ is. let same : r.origin ≡ n = eqb-true r.origin n is in part_grows (m.arrivals n) fresh r.reports r.start (subst (λ z. r.start + length r.reports ≤ length (m.arrivals z)) same part.0) (subst (λ z. r.reports ≡ take (length r.reports) (drop r.start (m.arrivals z))) same part.1)
    | false ↦ λ is. part
  ] refl) m.sent world.sound;
}

pub world_raised : (m : Machine) (n : ℕ) (more : ℕ → ℕ) → IsWorld m → ((o : ℕ) → m.held n o + more o ≤ length (m.arrivals o)) → IsWorld (raised m n more)
world_raised m n more world fits = record {
  within = λ k o. at_cases (λ (f : ℕ → ℕ). f o ≤ length (m.arrivals o)) n k (λ o. m.held n o + more o) m.held (λ _. fits o) (λ _. world.within k o);
  own = λ k. at_cases (λ (f : ℕ → ℕ). f k ≡ length (m.arrivals k)) n k (λ o. m.held n o + more o) m.held (λ is. subst (λ z. m.held n z + more z ≡ length (m.arrivals z)) (sym is) (omega (arith, fits n, world.own n))) (λ _. world.own k);
  strangers = world.strangers;
  sound = world.sound;
}

pub world_joined : (m : Machine) (n k : ℕ) → IsWorld m → IsWorld (joined m n k)
world_joined m n k world = record {
  within = λ j o. at_cases (λ (f : ℕ → ℕ). f o ≤ length (m.arrivals o)) n j (λ o. max (m.held n o) (m.held k o)) m.held (λ _. omega (arith, world.within n o, world.within k o)) (λ _. world.within j o);
  own = λ j. at_cases (λ (f : ℕ → ℕ). f j ≡ length (m.arrivals j)) n j (λ o. max (m.held n o) (m.held k o)) m.held (λ is. subst (λ z. max (m.held n z) (m.held k z) ≡ length (m.arrivals z)) (sym is) (omega (arith, world.own n, world.within k n))) (λ _. world.own j);
  strangers = world.strangers;
  sound = world.sound;
}

pub world_sends : (m : Machine) (message : Message) → IsWorld m → IsSound m message → IsWorld (sends m message)
world_sends m message world sound = record { within = world.within; own = world.own; strangers = world.strangers; sound = all_more (IsSound m) m.sent message world.sound sound }

-- the other replicas show what they showed
pub others_took : (m : Machine) (n k o : ℕ) (fresh : List PacketReport) → IsWorld m → (k ≡ n → ⊥) → held_prefix (took m n fresh) k o ≡ held_prefix m k o
others_took m n k o fresh world apart =
    ap (λ (f : ℕ → ℕ). take (f o) (at_name n (m.arrivals n ++ fresh) m.arrivals o)) (at_other n k (at_name n (length (m.arrivals n) + length fresh) (m.held n)) m.held apart)
    ∙ elim (o == n) as (λ b. o == n ≡ b → take (m.held k o) (cond b (m.arrivals n ++ fresh) (m.arrivals o)) ≡ take (m.held k o) (m.arrivals o)) [
      | true ↦ λ is. let same : o ≡ n = eqb-true o n is in
          subst (λ z. take (m.held k z) (m.arrivals n ++ fresh) ≡ take (m.held k z) (m.arrivals z)) (sym same) (take_within (m.held k n) (m.arrivals n) fresh (world.within k n))
      | false ↦ λ is. refl
    ] refl

pub others_raised : (m : Machine) (n k o : ℕ) (more : ℕ → ℕ) → (k ≡ n → ⊥) → held_prefix (raised m n more) k o ≡ held_prefix m k o
others_raised m n k o more apart = ap (λ (f : ℕ → ℕ). take (f o) (m.arrivals o)) (at_other n k (λ o. m.held n o + more o) m.held apart)

pub others_joined : (m : Machine) (n j k o : ℕ) → (k ≡ n → ⊥) → held_prefix (joined m n j) k o ≡ held_prefix m k o
others_joined m n j k o apart = ap (λ (f : ℕ → ℕ). take (f o) (m.arrivals o)) (at_other n k (λ o. max (m.held n o) (m.held j o)) m.held apart)
