-- Places of replicas in a world, and what changes with one of them.
use Rattle.std.proofs.Common.{◌≡◌, ℕ, suc, zero, true, Option, None, Some, List, [], ◌∷◌, ◌++◌, ◌==◌, map, slice_get, slice_set, refl, sym, ap, ◌∙◌, subst}
use Rattle.std.specs.List.{AllByRecursion, list_any}
use Rattle.std.proofs.lemmas.Bool.{eq-eqb, or_left, or_right}
use Rattle.tca_gossip.specs.Replicas.{ReplicaView, IsReplica, chain_of}
use Rattle.tca_gossip.specs.Machines.{Message, Machine, IsWorld, Shows, held_prefix, is_name}
use Rattle.tca_gossip.specs.Coupling.{MessageView, WorldView, name_of, AreDistinct, ShowsMessage, ShowMessages, IsCoupled, with_replica}

pub some_is : {A : Type 0} (x y : A) → Some x ≡ Some y → x ≡ y
some_is x y e = cc

pub all_at : {A : Type 0} (P : A → Type 0) (xs : List A) (i : ℕ) (x : A) → AllByRecursion P xs → slice_get xs i ≡ Some x → P x
all_at P [] i x h e = absurd cc
all_at P (y ∷ ys) zero x h e = subst P (some_is y x e) h.0
all_at P (y ∷ ys) (suc i) x h e = all_at P ys i x h.1 e

pub all_set : {A : Type 0} (P : A → Type 0) (xs : List A) (i : ℕ) (x : A) → P x → AllByRecursion P xs → AllByRecursion P (slice_set xs i x)
all_set P [] i x p h = tt
all_set P (y ∷ ys) zero x p h = (p, h.1)
all_set P (y ∷ ys) (suc i) x p h = (h.0, all_set P ys i x p h.1)

name_at : (vs : List ReplicaView) (i : ℕ) (v : ReplicaView) → slice_get vs i ≡ Some v → slice_get (map name_of vs) i ≡ Some v.name
name_at [] i v e = absurd cc
name_at (x ∷ vs) zero v e = ap (λ (z : ReplicaView). Some z.name) (some_is x v e)
name_at (x ∷ vs) (suc i) v e = name_at vs i v e

set_names : (vs : List ReplicaView) (i : ℕ) (v u : ReplicaView) → slice_get vs i ≡ Some v → u.name ≡ v.name → map name_of (slice_set vs i u) ≡ map name_of vs
set_names [] i v u e named = refl
set_names (x ∷ vs) zero v u e named = ap (λ n. n ∷ map name_of vs) (named ∙ sym (ap name_of (some_is x v e)))
set_names (x ∷ vs) (suc i) v u e named = ap (λ (l : List ℕ). x.name ∷ l) (set_names vs i v u e named)

name_there : (vs : List ReplicaView) (i : ℕ) (v : ReplicaView) → slice_get vs i ≡ Some v → list_any (λ k. k == v.name) (map name_of vs) ≡ true
name_there [] i v e = absurd cc
name_there (x ∷ vs) zero v e = or_left (x.name == v.name) (list_any (λ k. k == v.name) (map name_of vs)) (eq-eqb x.name v.name (ap name_of (some_is x v e)))
name_there (x ∷ vs) (suc i) v e = or_right (x.name == v.name) (list_any (λ k. k == v.name) (map name_of vs)) (name_there vs i v e)

pub is_there : (m : Machine) (w : WorldView) (i : ℕ) (v : ReplicaView) → IsCoupled m w → slice_get w.replicas i ≡ Some v → is_name m v.name ≡ true
is_there m w i v coupled at = subst (λ (l : List ℕ). list_any (λ k. k == v.name) l ≡ true) coupled.names (name_there w.replicas i v at)

module _ (m after : Machine) (n : ℕ) (same : (k o : ℕ) → (k ≡ n → ⊥) → held_prefix after k o ≡ held_prefix m k o) where
  others_show : (vs : List ReplicaView) → AllByRecursion (λ k. k ≡ n → ⊥) (map name_of vs) → AllByRecursion (λ v. Shows m v.name v) vs → AllByRecursion (λ v. Shows after v.name v) vs
  others_show [] apart h = tt
  others_show (v ∷ vs) apart h = (record { name = refl; chains = λ o. h.0.chains o ∙ sym (same v.name o apart.0) }, others_show vs apart.1 h.1)

  set_shows : (vs : List ReplicaView) (i : ℕ) (v u : ReplicaView) → slice_get vs i ≡ Some v → v.name ≡ n → AreDistinct (map name_of vs) → Shows after u.name u → AllByRecursion (λ v. Shows m v.name v) vs → AllByRecursion (λ v. Shows after v.name v) (slice_set vs i u)
  set_shows [] i v u e is apart shown h = tt
  set_shows (x ∷ vs) zero v u e is apart shown h = (shown, others_show vs (subst (λ z. AllByRecursion (λ k. k ≡ z → ⊥) (map name_of vs)) (ap name_of (some_is x v e) ∙ is) apart.0) h.1)
  set_shows (x ∷ vs) (suc i) v u e is apart shown h = (
    record { name = refl; chains = λ o. h.0.chains o ∙ sym (same x.name o (λ other. all_at (λ k. k ≡ x.name → ⊥) (map name_of vs) i v.name apart.0 (name_at vs i v e) (is ∙ sym other))) },
    set_shows vs i v u e is apart.1 shown h.1,
  )

-- one replica changes, and the others show what they showed
pub coupled_changes : (m after : Machine) (w : WorldView) (i : ℕ) (v u : ReplicaView) → IsCoupled m w → slice_get w.replicas i ≡ Some v → u.name ≡ v.name → u.plan ≡ v.plan → after.names ≡ m.names → after.sent ≡ m.sent
    → IsWorld after → IsReplica u → ((o : ℕ) → chain_of u o ≡ held_prefix after v.name o) → ((k o : ℕ) → (k ≡ v.name → ⊥) → held_prefix after k o ≡ held_prefix m k o) → IsCoupled after (with_replica w i u)
coupled_changes m after w i v u coupled at named planned names sent world replica chains others = record {
  names = set_names w.replicas i v u at named ∙ coupled.names ∙ sym names;
  apart = subst AreDistinct (sym (set_names w.replicas i v u at named)) coupled.apart;
  shows = set_shows m after v.name others w.replicas i v u at refl coupled.apart (record { name = refl; chains = λ o. chains o ∙ ap (λ k. held_prefix after k o) (sym named) }) coupled.shows;
  replicas = all_set IsReplica w.replicas i u replica coupled.replicas;
  plans = all_set (λ x. x.plan ≡ w.plan) w.replicas i u (planned ∙ all_at (λ x. x.plan ≡ w.plan) w.replicas i v coupled.plans at) coupled.plans;
  sent = subst (λ (l : List Message). ShowMessages l w.sent) (sym sent) coupled.sent;
  world = world;
}

pub shows_at : (m : Machine) (w : WorldView) (i : ℕ) (v : ReplicaView) → IsCoupled m w → slice_get w.replicas i ≡ Some v → Shows m v.name v
shows_at m w i v coupled at = all_at (λ x. Shows m x.name x) w.replicas i v coupled.shows at

pub replica_at : (m : Machine) (w : WorldView) (i : ℕ) (v : ReplicaView) → IsCoupled m w → slice_get w.replicas i ≡ Some v → IsReplica v
replica_at m w i v coupled at = all_at IsReplica w.replicas i v coupled.replicas at

pub messages_more : (ms : List Message) (vs : List MessageView) (m : Message) (v : MessageView) → ShowMessages ms vs → ShowsMessage m v → ShowMessages (ms ++ m ∷ []) (vs ++ v ∷ [])
messages_more [] [] m v h p = (p, tt)
messages_more [] (y ∷ vs) m v h p = absurd h
messages_more (x ∷ ms) [] m v h p = absurd h
messages_more (x ∷ ms) (y ∷ vs) m v h p = (h.0, messages_more ms vs m v h.1 p)

abbrev pub ShowsOption : Option Message → Option MessageView → Type 0
ShowsOption None None = Unit {0}
ShowsOption (Some m) (Some v) = ShowsMessage m v
ShowsOption None (Some v) = ⊥
ShowsOption (Some m) None = ⊥

-- the message of a number is the machine's
pub message_at : (ms : List Message) (vs : List MessageView) (i : ℕ) → ShowMessages ms vs → ShowsOption (slice_get ms i) (slice_get vs i)
message_at [] [] i h = tt
message_at [] (y ∷ vs) i h = absurd h
message_at (x ∷ ms) [] i h = absurd h
message_at (x ∷ ms) (y ∷ vs) zero h = h.0
message_at (x ∷ ms) (y ∷ vs) (suc i) h = message_at ms vs i h.1

pub plan_at : (m : Machine) (w : WorldView) (i : ℕ) (v : ReplicaView) → IsCoupled m w → slice_get w.replicas i ≡ Some v → v.plan ≡ w.plan
plan_at m w i v coupled at = all_at (λ x. x.plan ≡ w.plan) w.replicas i v coupled.plans at
