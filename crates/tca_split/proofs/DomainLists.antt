-- The domains of messages that come one after the other.
use Rattle.std.proofs.Common.{◌≡◌, ℕ, ◌≤◌, Bool, true, false, cond, List, [], ◌∷◌, ◌++◌, length, refl, sym, ap, ◌∙◌, arith, append_assoc, append-nil}
use Rattle.std.specs.Prelude.{◌==◌, ◌||◌, not, filter}
use Rattle.std.proofs.lemmas.Bool.Decides.{nat_tests}
use Rattle.std.proofs.lemmas.List.{length-append}
use Rattle.std.proofs.lemmas.List.Elements.{filter-append}
use Rattle.tca_split.specs.Parts.{domain_of, domains_of}
use Rattle.tca_split.specs.Surveys.{is_among}
use Rattle.tca_split.proofs.DomainTemplates.{itself}

-- a domain more, unless it is there
abbrev pub with_domain : List ℕ → ℕ → List ℕ
with_domain ds d = cond (is_among d ds) ds (ds ++ d ∷ [])

among_kept : (x f : ℕ) → (x == f) ≡ false → (ds : List ℕ) → is_among x (filter (λ d. not (d == f)) ds) ≡ is_among x ds
among_kept x f ne [] = refl
among_kept x f ne (d ∷ ds) = go (among_kept x f ne ds) (d == f) refl
  where
    go : is_among x (filter (λ d. not (d == f)) ds) ≡ is_among x ds → (b : Bool) → (d == f) ≡ b
        → is_among x (cond (not b) (d ∷ filter (λ d. not (d == f)) ds) (filter (λ d. not (d == f)) ds)) ≡ ((x == d) || is_among x ds)
    go more true p =
        let other : (x == d) ≡ false = grind (arith, nat_tests, p, ne) in
        more ∙ sym (ap (λ b. b || is_among x ds) other)
    go more false p = ap (λ b. (x == d) || b) more

-- the domains with a message more
pub domains_push : (ms : List (List ℕ)) (m : List ℕ) → domains_of (ms ++ m ∷ []) ≡ with_domain (domains_of ms) (domain_of m)
unfolding domains_of
domains_push [] m = refl
domains_push (f ∷ ms) m = ap (λ (l : List ℕ). domain_of f ∷ filter (λ d. not (d == domain_of f)) l) (domains_push ms m) ∙ go (domain_of m == domain_of f) refl (is_among (domain_of m) (domains_of ms)) refl
  where
    go : (b : Bool) → (domain_of m == domain_of f) ≡ b → (c : Bool) → is_among (domain_of m) (domains_of ms) ≡ c
        → domain_of f ∷ filter (λ d. not (d == domain_of f)) (cond c (domains_of ms) (domains_of ms ++ domain_of m ∷ []))
        ≡ cond (b || is_among (domain_of m) (filter (λ d. not (d == domain_of f)) (domains_of ms))) (domain_of f ∷ filter (λ d. not (d == domain_of f)) (domains_of ms))
        ((domain_of f ∷ filter (λ d. not (d == domain_of f)) (domains_of ms)) ++ domain_of m ∷ [])
    go true e true a = refl
    go true e false a =
        ap (λ (l : List ℕ). domain_of f ∷ l) (filter-append (λ d. not (d == domain_of f)) (domains_of ms) (domain_of m ∷ [])
        ∙ ap (λ b. filter (λ d. not (d == domain_of f)) (domains_of ms) ++ cond (not b) (domain_of m ∷ []) []) e ∙ append-nil (filter (λ d. not (d == domain_of f)) (domains_of ms)))
    go false e true a =
        ap (λ t. cond t (domain_of f ∷ filter (λ d. not (d == domain_of f)) (domains_of ms)) ((domain_of f ∷ filter (λ d. not (d == domain_of f)) (domains_of ms)) ++ domain_of m ∷ []))
        (sym (among_kept (domain_of m) (domain_of f) e (domains_of ms) ∙ a))
    go false e false a =
        ap (λ (l : List ℕ). domain_of f ∷ l) (filter-append (λ d. not (d == domain_of f)) (domains_of ms) (domain_of m ∷ [])
        ∙ ap (λ b. filter (λ d. not (d == domain_of f)) (domains_of ms) ++ cond (not b) (domain_of m ∷ []) []) e)
        ∙ ap (λ t. cond t (domain_of f ∷ filter (λ d. not (d == domain_of f)) (domains_of ms)) ((domain_of f ∷ filter (λ d. not (d == domain_of f)) (domains_of ms)) ++ domain_of m ∷ []))
        (sym (among_kept (domain_of m) (domain_of f) e (domains_of ms) ∙ a))

more_keys : (ds : List ℕ) (d : ℕ) → length ds ≤ length (with_domain ds d)
more_keys ds d = go (is_among d ds)
  where
    go : (b : Bool) → length ds ≤ length (cond b ds (ds ++ d ∷ []))
    go true = omega arith
    go false = omega (arith, length-append ds (d ∷ []))

-- more messages have no fewer domains
pub no_fewer : (a b : List (List ℕ)) → length (domains_of a) ≤ length (domains_of (a ++ b))
no_fewer a [] = let e = append-nil a in omega (arith, ap (λ (l : List (List ℕ)). length (domains_of l)) e)
no_fewer a (m ∷ b) =
    let more = no_fewer (a ++ m ∷ []) b in
    let parts = append_assoc a (m ∷ []) b in
    omega (arith, more, ap (λ (l : List (List ℕ)). length (domains_of l)) parts, ap (λ (l : List ℕ). length l) (domains_push a m), more_keys (domains_of a) (domain_of m))

among_last : (ds : List ℕ) (d : ℕ) → is_among d (ds ++ d ∷ []) ≡ true
among_last [] d = ap (λ b. b || false) (itself d)
among_last (x ∷ ds) d = go (d == x) (among_last ds d)
  where
    go : (b : Bool) → is_among d (ds ++ d ∷ []) ≡ true → (b || is_among d (ds ++ d ∷ [])) ≡ true
    go true more = refl
    go false more = more

pub among_front : (ds es : List ℕ) (d : ℕ) → is_among d ds ≡ true → is_among d (ds ++ es) ≡ true
among_front [] es d e = absurd cc
among_front (x ∷ ds) es d e = go (d == x) (among_front ds es d) e
  where
    go : (b : Bool) → (is_among d ds ≡ true → is_among d (ds ++ es) ≡ true) → (b || is_among d ds) ≡ true → (b || is_among d (ds ++ es)) ≡ true
    go true more e = refl
    go false more e = more e

among_key : (ds : List ℕ) (d : ℕ) → is_among d (with_domain ds d) ≡ true
among_key ds d = go (is_among d ds) refl
  where
    go : (b : Bool) → is_among d ds ≡ b → is_among d (cond b ds (ds ++ d ∷ [])) ≡ true
    go true e = e
    go false e = among_last ds d

among_keys : (ds : List ℕ) (d x : ℕ) → is_among x ds ≡ true → is_among x (with_domain ds d) ≡ true
among_keys ds d x e = go (is_among d ds)
  where
    go : (b : Bool) → is_among x (cond b ds (ds ++ d ∷ [])) ≡ true
    go true = e
    go false = among_front ds (d ∷ []) x e

-- a message's domain is among the domains
pub among_own : (ms : List (List ℕ)) (m : List ℕ) → is_among (domain_of m) (domains_of (ms ++ m ∷ [])) ≡ true
among_own ms m = ap (is_among (domain_of m)) (domains_push ms m) ∙ among_key (domains_of ms) (domain_of m)

-- and stays there
pub among_more : (a b : List (List ℕ)) (d : ℕ) → is_among d (domains_of a) ≡ true → is_among d (domains_of (a ++ b)) ≡ true
among_more a [] d e = ap (λ (l : List (List ℕ)). is_among d (domains_of l)) (append-nil a) ∙ e
among_more a (m ∷ b) d e =
    ap (λ (l : List (List ℕ)). is_among d (domains_of l)) (sym (append_assoc a (m ∷ []) b))
    ∙ among_more (a ++ m ∷ []) b d (ap (is_among d) (domains_push a m) ∙ among_keys (domains_of a) (domain_of m) d e)
