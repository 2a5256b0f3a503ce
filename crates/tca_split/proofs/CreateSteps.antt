-- Files that are made one after the other.
use Rattle.std.proofs.Common.{◌≡◌, ℕ, ◌+◌, ◌<◌, Bool, true, false, List, [], ◌∷◌, ◌++◌, length, take, get_or, Option, Some, None, refl, sym, ap, ap₂, subst, ◌∙◌, arith}
use Rattle.std.specs.Prelude.{◌==◌, ◌||◌, ◌≢◌, is_some}
use Rattle.std.proofs.lemmas.List.Folds.{list_any_more}
use Rattle.std.proofs.lemmas.Bool.Decides.{nat_tests}
use Rattle.tca_split.specs.Surveys.{is_among}
use Rattle.tca_split.specs.Folders.{Files, Makes, CreatesOne, Creates}

pub among_push : (ds : List ℕ) (d e : ℕ) → is_among e (ds ++ d ∷ []) ≡ (is_among e ds || (e == d))
among_push [] d e = go (e == d)
  where
    go : (b : Bool) → (b || false) ≡ b
    go true = refl
    go false = refl
among_push (x ∷ ds) d e = go (e == x) (among_push ds d e)
  where
    go : (b : Bool) → is_among e (ds ++ d ∷ []) ≡ (is_among e ds || (e == d)) → (b || is_among e (ds ++ d ∷ [])) ≡ ((b || is_among e ds) || (e == d))
    go true more = refl
    go false more = more

pub creates_none : (x : Option Files) → Creates [] x x
creates_none None = tt
creates_none (Some fs) = λ d. refl

clash : (a b : Option (List ℕ)) → a ≡ None → a ≡ Some [] → ⊥
clash a b p q = let bad : None ≡ Some [] = sym p ∙ q in absurd cc

one_more : (before now after : Option (List ℕ)) (b c : Bool) → CreatesOne b before now → (c ≡ true → (now ≡ None) × (after ≡ Some [])) → (c ≡ false → after ≡ now) → CreatesOne (b || c) before after
one_more before now after true true h made kept = absurd (clash now now (made refl).0 h.1)
one_more before now after true false h made kept = (h.0, kept refl ∙ h.1)
one_more before now after false true h made kept = (sym h ∙ (made refl).0, (made refl).1)
one_more before now after false false h made kept = kept refl ∙ h

pub creates_more : (ds : List ℕ) (d : ℕ) (x y z : Option Files) → Creates ds x y → Makes d y z → Creates (ds ++ d ∷ []) x z
creates_more ds d None y z h k = tt
creates_more ds d (Some fs) None z h k = absurd h
creates_more ds d (Some fs) (Some gs) None h k = absurd k
creates_more ds d (Some fs) (Some gs) (Some hs) h k = λ e.
    subst (λ b. CreatesOne b (fs e) (hs e)) (sym (among_push ds d e))
    (one_more (fs e) (gs e) (hs e) (is_among e ds) (e == d) (h e)
    (λ p. let is : d ≡ e = grind (arith, nat_tests, p) in (ap gs (sym is) ∙ k.0, ap hs (sym is) ∙ k.1))
    (λ p. k.2 e p))

-- a file that is there
pub is_there : (all : Files) (d : ℕ) → true ≡ is_some (all d) → all d ≢ None
is_there all d h n = let bad : true ≡ false = h ∙ ap is_some n in absurd cc

-- one domain more that has no file
pub free_more : (all : Files) (ds : List ℕ) (i : ℕ) → i < length ds → ((d : ℕ) → is_among d (take i ds) ≡ true → all d ≡ None) → false ≡ is_some (all (get_or ds i 0)) → (d : ℕ) → is_among d (take (i + 1) ds) ≡ true
    → all d ≡ None
free_more all ds i within free here d among = go (is_among d (take i ds)) refl (d == get_or ds i 0) refl (sym (list_any_more (λ x. d == x) ds i 0 within) ∙ among)
  where
    none : (o : Option (List ℕ)) → false ≡ is_some o → o ≡ None
    none None e = refl
    none (Some x) e = absurd cc

    go : (b : Bool) → is_among d (take i ds) ≡ b → (c : Bool) → (d == get_or ds i 0) ≡ c → (is_among d (take i ds) || (d == get_or ds i 0)) ≡ true → all d ≡ None
    go true p c q h = free d p
    go false p true q h =
        let is : d ≡ get_or ds i 0 = grind (arith, nat_tests, q) in
        ap all is ∙ none (all (get_or ds i 0)) here
    go false p false q h = let bad : false ≡ true = sym (ap₂ (λ s t. s || t) p q) ∙ h in absurd cc
