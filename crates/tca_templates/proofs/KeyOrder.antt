-- The order of keys: it ties those that are one, so what a map in order says of a key is said by the test.
use Rattle.std.proofs.Common.{◌≡◌, ℕ, ◌<◌, Bool, true, false, ◌&&◌, ◌==◌, cond, List, Option, Some, None, refl, sym, ap, ap₂, ◌∙◌, arith}
use Rattle.std.proofs.lemmas.Bool.Decides.{nat_tests}
use Rattle.std.proofs.lemmas.Cmp.{ranked}
use Rattle.std.specs.BTreeMap.{is_at}
use Rattle.std.specs.Map.{lookup}
use Rattle.std.specs.Option.{is_some, option_flatten}
use Rattle.std.specs.Ordering.{nat_cmp, bool_cmp, ordering_then, is_eq, MatchOrdering}
use Rattle.std.specs.declared.cmp.Ordering.{Ordering}
use Rattle.std.specs.declared.cmp.Ordering.TheVariants.{Less, Equal, Greater}
use mathlib.Core.Bool.{beq}
use Rattle.tca_templates.specs.Templates.{Key, same_key}
use Rattle.tca_templates.specs.inside.Slotted.{Kind, same_kind, Places, held, is_entered}

abbrev pub key_cmp : Key → Key → Ordering
key_cmp p q = ordering_then (nat_cmp p.0 q.0) (nat_cmp p.1 q.1)

abbrev pub kind_cmp : Kind → Kind → Ordering
kind_cmp p q = ordering_then (nat_cmp p.0 q.0) (bool_cmp p.1 q.1)

then_eq : (o p : Ordering) → is_eq (ordering_then o p) ≡ (is_eq o && is_eq p)
then_eq Less p = refl
then_eq Equal p = refl
then_eq Greater p = refl

number_eq : (a b : ℕ) (o : Ordering) → MatchOrdering o (a < b) (a ≡ b) (b < a) → is_eq o ≡ (a == b)
number_eq a b Less h = grind (arith, nat_tests, h)
number_eq a b Equal h = grind (arith, nat_tests, h)
number_eq a b Greater h = grind (arith, nat_tests, h)

bool_eq : (a b : Bool) → is_eq (bool_cmp a b) ≡ beq a b
bool_eq true true = refl
bool_eq true false = refl
bool_eq false true = refl
bool_eq false false = refl

pub key_at : (p q : Key) → is_at (key_cmp p) q ≡ same_key p q
key_at p q =
    then_eq (nat_cmp p.0 q.0) (nat_cmp p.1 q.1)
    ∙ ap₂ (λ (a b : Bool). a && b) (number_eq p.0 q.0 (nat_cmp p.0 q.0) (ranked p.0 q.0 _ refl)) (number_eq p.1 q.1 (nat_cmp p.1 q.1) (ranked p.1 q.1 _ refl))

pub kind_at : (p q : Kind) → is_at (kind_cmp p) q ≡ same_kind p q
kind_at p q =
    then_eq (nat_cmp p.0 q.0) (bool_cmp p.1 q.1)
    ∙ ap₂ (λ (a b : Bool). a && b) (number_eq p.0 q.0 (nat_cmp p.0 q.0) (ranked p.0 q.0 _ refl)) (bool_eq p.1 q.1)

keys_at : (k : Key) → is_at (key_cmp k) ≡ same_key k
keys_at k i q = key_at k q i

kinds_at : (k : Kind) → is_at (kind_cmp k) ≡ same_kind k
kinds_at k i q = kind_at k q i

pub key_lookup : {Y : Type 0} (k : Key) (es : List (Key × Y)) → lookup (is_at (key_cmp k)) es ≡ lookup (same_key k) es
key_lookup k es = ap (λ (test : Key → Bool). lookup test es) (keys_at k)

pub kind_lookup : {Y : Type 0} (k : Kind) (es : List (Kind × Y)) → lookup (is_at (kind_cmp k)) es ≡ lookup (same_kind k) es
kind_lookup k es = ap (λ (test : Kind → Bool). lookup test es) (kinds_at k)

-- one key is written
module _ (k : Key) (xs ys : Places) (w : Option ℕ)
    (u : (q : Key) → lookup (is_at (key_cmp q)) ys ≡ cond (is_at (key_cmp k) q) (Some w) (lookup (is_at (key_cmp q)) xs)) where
  key_written : (q : Key) → lookup (same_key q) ys ≡ cond (same_key k q) (Some w) (lookup (same_key q) xs)
  key_written q =
      sym (key_lookup q ys) ∙ u q ∙ ap₂ (λ (b : Bool) (o : Option (Option ℕ)). cond b (Some w) o) (key_at k q) (key_lookup q xs)

  pub held_written : (q : Key) → held ys q ≡ cond (same_key k q) w (held xs q)
  held_written q = ap option_flatten (key_written q) ∙ go (same_key k q)
    where
      go : (b : Bool) → option_flatten (cond b (Some w) (lookup (same_key q) xs)) ≡ cond b w (held xs q)
      go true = refl
      go false = refl

  pub entered_written : (q : Key) → is_entered xs q ≡ true → is_entered ys q ≡ true
  entered_written q e = ap is_some (key_written q) ∙ go (same_key k q)
    where
      go : (b : Bool) → is_some (cond b (Some w) (lookup (same_key q) xs)) ≡ true
      go true = refl
      go false = e

-- one kind is written
pub kind_written : {Y : Type 0} (k : Kind) (xs ys : List (Kind × Y)) (w : Option Y)
    → ((q : Kind) → lookup (is_at (kind_cmp q)) ys ≡ cond (is_at (kind_cmp k) q) w (lookup (is_at (kind_cmp q)) xs))
    → (q : Kind) → lookup (same_kind q) ys ≡ cond (same_kind k q) w (lookup (same_kind q) xs)
kind_written {Y = Y} k xs ys w u q =
    sym (kind_lookup q ys) ∙ u q ∙ ap₂ (λ (b : Bool) (o : Option Y). cond b w o) (kind_at k q) (kind_lookup q xs)

pub kind_elsewhere : {Y : Type 0} (k : Kind) (xs ys : List (Kind × Y)) (w : Option Y)
    → ((q : Kind) → lookup (is_at (kind_cmp q)) ys ≡ cond (is_at (kind_cmp k) q) w (lookup (is_at (kind_cmp q)) xs))
    → (q : Kind) → same_kind k q ≡ false → lookup (same_kind q) ys ≡ lookup (same_kind q) xs
kind_elsewhere {Y = Y} k xs ys w u q e = kind_written k xs ys w u q ∙ ap (λ (b : Bool). cond b w (lookup (same_kind q) xs)) e

-- a key that stands there
pub entered_there : (k : Key) (xs : Places) → is_entered xs k ≡ true → None ≡ lookup (is_at (key_cmp k)) xs → ⊥
entered_there k xs e none =
    let bad : true ≡ false = sym e ∙ ap is_some (sym (key_lookup k xs)) ∙ ap is_some (sym none) in
    absurd cc

pub held_found : (k : Key) (xs : Places) (x : Option ℕ) → Some x ≡ lookup (is_at (key_cmp k)) xs → x ≡ held xs k
held_found k xs x e = ap option_flatten (e ∙ key_lookup k xs)

pub held_none : (k : Key) (xs : Places) → None ≡ lookup (is_at (key_cmp k)) xs → None ≡ held xs k
held_none k xs e = ap option_flatten (e ∙ key_lookup k xs)
