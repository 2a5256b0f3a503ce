-- Keys that are one.
use Rattle.std.proofs.Common.{◌≡◌, ℕ, Bool, true, false, ◌&&◌, ◌==◌, sym, ap, ap₂, subst, ◌∙◌, arith}
use Rattle.std.proofs.lemmas.Bool.Decides.{nat_tests}
use Rattle.tca_templates.specs.Templates.{Key, same_key}

-- keys that pass the test are one
pub same_is : (a b : Key) → same_key a b ≡ true → a ≡ b
same_is a b e =
    let both : ((a.0 == b.0) && (a.1 == b.1)) ≡ true = e in
    let x : a.0 ≡ b.0 = grind (arith, nat_tests, both) in
    let y : a.1 ≡ b.1 = grind (arith, nat_tests, both) in
    let key : ℕ → ℕ → Key = λ m n. (m, n) in
    ap₂ key x y

pub same_self : (a : Key) → same_key a a ≡ true
same_self a =
    let both : ((a.0 == a.0) && (a.1 == a.1)) ≡ true = grind (arith, nat_tests) in
    both

pub same : (a b : Key) → a ≡ b → same_key a b ≡ true
same a b e = subst (λ (z : Key). same_key a z ≡ true) e (same_self a)

pub back : (a b : Key) → same_key a b ≡ true → same_key b a ≡ true
back a b e = same b a (sym (same_is a b e))

pub on : (a b c : Key) → same_key a b ≡ true → same_key b c ≡ true → same_key a c ≡ true
on a b c p q = same a c (same_is a b p ∙ same_is b c q)

pub clash : {X : Type 0} → (b : Bool) → b ≡ true → b ≡ false → X
clash b t f = let bad : true ≡ false = sym t ∙ f in absurd cc

turned_number : (m n : ℕ) → (m == n) ≡ (n == m)
turned_number m n = grind (arith, nat_tests)

pub turned : (a b : Key) → same_key a b ≡ same_key b a
turned a b = ap (λ t. t && (a.1 == b.1)) (turned_number a.0 b.0) ∙ ap (λ t. (b.0 == a.0) && t) (turned_number a.1 b.1)
