-- Numbers of several domains, added up.
use Rattle.std.proofs.Common.{◌≡◌, ℕ, ◌+◌, Bool, true, false, cond, List, [], ◌∷◌, refl, sym, ap, ap₂, ◌∙◌, arith}
use Rattle.std.specs.Prelude.{◌==◌, not, filter}
use Rattle.std.specs.List.{AllByRecursion}
use Rattle.std.proofs.lemmas.Bool.Decides.{nat_tests}
use Rattle.tca_split.specs.Parts.{domain_of, domains_of}
use Rattle.tca_split.specs.Losses.{added}
use Rattle.tca_split.proofs.DomainTemplates.{itself}

-- how often a domain is among these
abbrev pub times : ℕ → List ℕ → ℕ
times e [] = 0
times e (d ∷ ds) = cond (e == d) 1 0 + times e ds

-- where it isn't among them, nothing is added
none_more : (f g : ℕ → ℕ) (x e : ℕ) → ((d : ℕ) → g d ≡ cond (e == d) (f d + x) (f d)) → (ds : List ℕ) → times e ds ≡ 0 → added g ds ≡ added f ds
none_more f g x e all [] none = refl
none_more f g x e all (d ∷ ds) none = go (none_more f g x e all ds) (e == d) (all d) none
  where
    go : (times e ds ≡ 0 → added g ds ≡ added f ds) → (b : Bool) → g d ≡ cond b (f d + x) (f d) → cond b 1 0 + times e ds ≡ 0 → g d + added g ds ≡ f d + added f ds
    go more true is none = absurd (omega (arith, none))
    go more false is none = ap₂ (λ m n. m + n) is (more (omega (arith, none)))

-- one of them has so many more
pub one_more : (f g : ℕ → ℕ) (x e : ℕ) → ((d : ℕ) → g d ≡ cond (e == d) (f d + x) (f d)) → (ds : List ℕ) → times e ds ≡ 1 → added g ds ≡ added f ds + x
one_more f g x e all [] once = absurd (omega (arith, once))
one_more f g x e all (d ∷ ds) once = go (one_more f g x e all ds) (none_more f g x e all ds) (e == d) (all d) once
  where
    go : (times e ds ≡ 1 → added g ds ≡ added f ds + x) → (times e ds ≡ 0 → added g ds ≡ added f ds) → (b : Bool) → g d ≡ cond b (f d + x) (f d) → cond b 1 0 + times e ds ≡ 1
        → g d + added g ds ≡ (f d + added f ds) + x
    go more none true is once = let k = none (omega (arith, once)) in omega (arith, is, k)
    go more none false is once = let k = more (omega (arith, once)) in omega (arith, is, k)

pub none_of : (f : ℕ → ℕ) → ((d : ℕ) → f d ≡ 0) → (ds : List ℕ) → added f ds ≡ 0
none_of f all [] = refl
none_of f all (d ∷ ds) = let k = none_of f all ds in let z = all d in omega (arith, z, k)

times_left_out : (e : ℕ) (ds : List ℕ) → times e (filter (λ d. not (d == e)) ds) ≡ 0
times_left_out e [] = refl
times_left_out e (d ∷ ds) = go (times_left_out e ds) (d == e) refl
  where
    go : times e (filter (λ d. not (d == e)) ds) ≡ 0 → (b : Bool) → (d == e) ≡ b → times e (cond (not b) (d ∷ filter (λ d. not (d == e)) ds) (filter (λ d. not (d == e)) ds)) ≡ 0
    go more true p = more
    go more false p =
        let other : (e == d) ≡ false = grind (arith, nat_tests, p) in
        ap (λ b. cond b 1 0 + times e (filter (λ d. not (d == e)) ds)) other ∙ omega (arith, more)

times_kept : (e x : ℕ) → (x == e) ≡ false → (ds : List ℕ) → times x (filter (λ d. not (d == e)) ds) ≡ times x ds
times_kept e x ne [] = refl
times_kept e x ne (d ∷ ds) = go (times_kept e x ne ds) (d == e) refl
  where
    go : times x (filter (λ d. not (d == e)) ds) ≡ times x ds → (b : Bool) → (d == e) ≡ b
        → times x (cond (not b) (d ∷ filter (λ d. not (d == e)) ds) (filter (λ d. not (d == e)) ds)) ≡ cond (x == d) 1 0 + times x ds
    go more true p =
        let other : (x == d) ≡ false = grind (arith, nat_tests, p, ne) in
        more ∙ sym (ap (λ b. cond b 1 0 + times x ds) other ∙ omega arith)
    go more false p = ap (λ n. cond (x == d) 1 0 + n) more

all_once : {X : Type 0} (P Q : X → Type 0) → ((x : X) → P x → Q x) → (xs : List X) → AllByRecursion P xs → AllByRecursion Q xs
all_once P Q f [] all = tt
all_once P Q f (x ∷ xs) all = (f x all.0, all_once P Q f xs all.1)

-- each message's domain is among the domains once
pub each_once : (ms : List (List ℕ)) → AllByRecursion (λ m. times (domain_of m) (domains_of ms) ≡ 1) ms
unfolding domains_of
each_once [] = tt
each_once (m ∷ ms) = (
  ap (λ b. cond b 1 0 + times (domain_of m) (filter (λ d. not (d == domain_of m)) (domains_of ms))) (itself (domain_of m)) ∙ omega (arith, times_left_out (domain_of m) (domains_of ms)),
  all_once _ _ (λ n once. go n once (domain_of n == domain_of m) refl) ms (each_once ms),
)
  where
    go : (n : List ℕ) → times (domain_of n) (domains_of ms) ≡ 1 → (b : Bool) → (domain_of n == domain_of m) ≡ b
        → cond (domain_of n == domain_of m) 1 0 + times (domain_of n) (filter (λ d. not (d == domain_of m)) (domains_of ms)) ≡ 1
    go n once true p =
        let same : domain_of n ≡ domain_of m = grind (arith, nat_tests, p) in
        ap (λ b. cond b 1 0 + times (domain_of n) (filter (λ d. not (d == domain_of m)) (domains_of ms))) p
        ∙ ap (λ e. 1 + times e (filter (λ d. not (d == domain_of m)) (domains_of ms))) same ∙ omega (arith, times_left_out (domain_of m) (domains_of ms))
    go n once false p =
        ap (λ b. cond b 1 0 + times (domain_of n) (filter (λ d. not (d == domain_of m)) (domains_of ms))) p
        ∙ omega (arith, times_kept (domain_of m) (domain_of n) p (domains_of ms), once)
