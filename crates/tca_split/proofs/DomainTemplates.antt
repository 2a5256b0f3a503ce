-- The templates of one observation domain among those of a session, and what a template set does to them.
use Rattle.std.proofs.Common.{◌≡◌, ℕ, ◌≤◌, Bool, true, false, cond, List, [], ◌∷◌, length, Option, Some, Result, Ok, Err, refl, sym, ap, ap₂, subst, ◌∙◌, arith}
use Rattle.std.specs.Prelude.{nat_lt, ◌==◌, ◌&&◌, not, filter}
use Rattle.std.specs.Option.{is_none}
use Rattle.std.proofs.lemmas.Bool.Decides.{nat_tests}
use mathlib.Core.Bool.{beq}
use Rattle.tca_join.specs.Results.{◌>>=◌}
use Rattle.tca_templates.specs.declared.fault.DecodeFault.{DecodeFault}
use Rattle.tca_templates.specs.declared.fault.DecodeFault.TheVariants.{TooMany}
use Rattle.tca_templates.specs.Templates.{Key, Templates, TemplateView, define, withdraw, withdraw_all, stays, known}
use Rattle.tca_templates.specs.Specifiers.{ChangeView, AllGone, Gone, New, changed}
use Rattle.tca_templates.specs.TemplateSets.{after_changes}
use Rattle.tca_templates.proofs.Choices.{refused, same_ok}

-- the templates of a domain, in their order
abbrev pub templates_in : ℕ → Templates → Templates
templates_in d ts = filter (λ e. d == e.0.0) ts

pub itself : (n : ℕ) → (n == n) ≡ true
itself n = grind (arith, nat_tests)

one_number : (m n : ℕ) → (m == n) ≡ true → m ≡ n
one_number m n e = grind (arith, nat_tests, e)

-- another domain than one that this is isn't this
apart : (d e x : ℕ) → (d == e) ≡ false → (e == x) ≡ true → (d == x) ≡ false
apart d e x p q = subst (λ z. (d == z) ≡ false) (one_number e x q) p

both_false : (a b : Bool) → a ≡ false → (a && b) ≡ false
both_false a b e = ap (λ z. z && b) e

pub known_in : (d id : ℕ) (ts : Templates) → known (d, id) (templates_in d ts) ≡ known (d, id) ts
unfolding known
known_in d id [] = refl
known_in d id (x ∷ xs) = go (known_in d id xs) (d == x.0.0) refl
  where
    go : known (d, id) (templates_in d xs) ≡ known (d, id) xs → (b : Bool) → (d == x.0.0) ≡ b
        → known (d, id) (cond b (x ∷ templates_in d xs) (templates_in d xs)) ≡ cond (b && (id == x.0.1)) (Some x.1) (known (d, id) xs)
    go more true p = ap₂ (λ (t : Bool) (o : Option TemplateView). cond (t && (id == x.0.1)) (Some x.1) o) p more
    go more false p = more

pub few_in : (d : ℕ) (ts : Templates) → length (templates_in d ts) ≤ length ts
few_in d [] = omega arith
few_in d (x ∷ xs) = go (few_in d xs) (d == x.0.0)
  where
    go : length (templates_in d xs) ≤ length xs → (b : Bool) → length (cond b (x ∷ templates_in d xs) (templates_in d xs)) ≤ length (x ∷ xs)
    go more true = omega (arith, more)
    go more false = omega (arith, more)

define_in : (d id : ℕ) (t : TemplateView) (ts : Templates) → define (d, id) t (templates_in d ts) ≡ templates_in d (define (d, id) t ts)
unfolding define
define_in d id t [] = sym (ap (λ b. cond b (((d, id), t) ∷ []) []) (itself d))
define_in d id t (x ∷ xs) = go (define_in d id t xs) (d == x.0.0) refl (id == x.0.1) refl
  where
    go : define (d, id) t (templates_in d xs) ≡ templates_in d (define (d, id) t xs) → (b : Bool) → (d == x.0.0) ≡ b → (c : Bool) → (id == x.0.1) ≡ c
        → define (d, id) t (cond b (x ∷ templates_in d xs) (templates_in d xs)) ≡ templates_in d (cond (b && c) ((x.0, t) ∷ xs) (x ∷ define (d, id) t xs))
    go more true p true q = rw (p, q) refl
    go more true p false q = rw (p, q) (ap (λ (l : Templates). x ∷ l) more)
    go more false p c q = more ∙ sym (ap (λ b. cond b (x ∷ templates_in d (define (d, id) t xs)) (templates_in d (define (d, id) t xs))) p)

define_out : (e d id : ℕ) (t : TemplateView) (ts : Templates) → (e == d) ≡ false → templates_in e (define (d, id) t ts) ≡ templates_in e ts
unfolding define
define_out e d id t [] ne = ap (λ b. cond b (((d, id), t) ∷ []) []) ne
define_out e d id t (x ∷ xs) ne = go (define_out e d id t xs ne) (d == x.0.0) refl (id == x.0.1)
  where
    go : templates_in e (define (d, id) t xs) ≡ templates_in e xs → (b : Bool) → (d == x.0.0) ≡ b → (c : Bool)
        → templates_in e (cond (b && c) ((x.0, t) ∷ xs) (x ∷ define (d, id) t xs)) ≡ templates_in e (x ∷ xs)
    go more true p true = ap (λ b. cond b ((x.0, t) ∷ templates_in e xs) (templates_in e xs)) (apart e d x.0.0 ne p) ∙ sym (ap (λ b. cond b (x ∷ templates_in e xs) (templates_in e xs)) (apart e d x.0.0 ne p))
    go more true p false = ap (λ (l : Templates). cond (e == x.0.0) (x ∷ l) l) more
    go more false p c = ap (λ (l : Templates). cond (e == x.0.0) (x ∷ l) l) more

withdraw_in : (d id : ℕ) (ts : Templates) → withdraw (d, id) (templates_in d ts) ≡ templates_in d (withdraw (d, id) ts)
unfolding withdraw
withdraw_in d id [] = refl
withdraw_in d id (x ∷ xs) = go (withdraw_in d id xs) (d == x.0.0) refl (id == x.0.1) refl
  where
    go : withdraw (d, id) (templates_in d xs) ≡ templates_in d (withdraw (d, id) xs) → (b : Bool) → (d == x.0.0) ≡ b → (c : Bool) → (id == x.0.1) ≡ c
        → withdraw (d, id) (cond b (x ∷ templates_in d xs) (templates_in d xs)) ≡ templates_in d (cond (b && c) xs (x ∷ withdraw (d, id) xs))
    go more true p true q = rw (p, q) refl
    go more true p false q = rw (p, q) (ap (λ (l : Templates). x ∷ l) more)
    go more false p c q = more ∙ sym (ap (λ b. cond b (x ∷ templates_in d (withdraw (d, id) xs)) (templates_in d (withdraw (d, id) xs))) p)

withdraw_out : (e d id : ℕ) (ts : Templates) → (e == d) ≡ false → templates_in e (withdraw (d, id) ts) ≡ templates_in e ts
unfolding withdraw
withdraw_out e d id [] ne = refl
withdraw_out e d id (x ∷ xs) ne = go (withdraw_out e d id xs ne) (d == x.0.0) refl (id == x.0.1)
  where
    go : templates_in e (withdraw (d, id) xs) ≡ templates_in e xs → (b : Bool) → (d == x.0.0) ≡ b → (c : Bool)
        → templates_in e (cond (b && c) xs (x ∷ withdraw (d, id) xs)) ≡ templates_in e (x ∷ xs)
    go more true p true = sym (ap (λ b. cond b (x ∷ templates_in e xs) (templates_in e xs)) (apart e d x.0.0 ne p))
    go more true p false = ap (λ (l : Templates). cond (e == x.0.0) (x ∷ l) l) more
    go more false p c = ap (λ (l : Templates). cond (e == x.0.0) (x ∷ l) l) more

-- filters in either order
turned : {X : Type 0} (p q : X → Bool) (xs : List X) → filter p (filter q xs) ≡ filter q (filter p xs)
turned p q [] = refl
turned p q (x ∷ xs) = go (turned p q xs) (p x) refl (q x) refl
  where
    go : filter p (filter q xs) ≡ filter q (filter p xs) → (b : Bool) → p x ≡ b → (c : Bool) → q x ≡ c
        → filter p (cond c (x ∷ filter q xs) (filter q xs)) ≡ filter q (cond b (x ∷ filter p xs) (filter p xs))
    go more true s true t = rw (s, t) (ap (λ (l : List _). x ∷ l) more)
    go more true s false t = more ∙ sym (ap (λ b. cond b (x ∷ filter q (filter p xs)) (filter q (filter p xs))) t)
    go more false s true t = ap (λ b. cond b (x ∷ filter p (filter q xs)) (filter p (filter q xs))) s ∙ more
    go more false s false t = more

-- what a filter would leave out, and another one does already
spared : {X : Type 0} (p q : X → Bool) → ((x : X) → q x ≡ true → p x ≡ true) → (xs : List X) → filter q (filter p xs) ≡ filter q xs
spared p q all [] = refl
spared p q all (x ∷ xs) = go (spared p q all xs) (q x) refl (p x) refl
  where
    go : filter q (filter p xs) ≡ filter q xs → (b : Bool) → q x ≡ b → (c : Bool) → p x ≡ c
        → filter q (cond c (x ∷ filter p xs) (filter p xs)) ≡ cond b (x ∷ filter q xs) (filter q xs)
    go more true s true t = ap (λ b. cond b (x ∷ filter q (filter p xs)) (filter q (filter p xs))) s ∙ ap (λ (l : List _). x ∷ l) more
    go more true s false t = let bad : true ≡ false = sym (all x s) ∙ t in absurd cc
    go more false s true t = ap (λ b. cond b (x ∷ filter q (filter p xs)) (filter q (filter p xs))) s ∙ more
    go more false s false t = more

stays_out : (e d : ℕ) (options : Bool) → (e == d) ≡ false → (x : Key × TemplateView) → (e == x.0.0) ≡ true → stays d options x ≡ true
stays_out e d options ne x p =
    let other : (x.0.0 == d) ≡ false = subst (λ z. (z == d) ≡ false) (one_number e x.0.0 p) ne in
    ap (λ b. not (b && beq x.1.options options)) other

-- What a change does to the templates of its domain, and that it does nothing to others.
pub record Changes (d : ℕ) (options : Bool) (ts us : Templates) (c : ChangeView) : Type 0 where
  pub own : changed d options (templates_in d ts) c ≡ Ok (templates_in d us)
  pub others : (e : ℕ) → (e == d) ≡ false → templates_in e us ≡ templates_in e ts

-- a template more fits where it did among more
fits : (a b : Bool) (m n : ℕ) → a ≡ b → m ≤ n → (b && not (nat_lt n 4096)) ≡ false → (a && not (nat_lt m 4096)) ≡ false
fits true true m n same le e = grind (arith, nat_tests, le, e)
fits true false m n same le e = absurd cc
fits false b m n same le e = refl

pub change_in : (d : ℕ) (options : Bool) (ts us : Templates) (c : ChangeView) → changed d options ts c ≡ Ok us → Changes d options ts us c
change_in d options ts us AllGone e =
    let is : withdraw_all d options ts ≡ us = same_ok _ us e in
    record {
      own = ap (λ (l : Templates). Ok l) (turned (stays d options) (λ x. d == x.0.0) ts ∙ ap (templates_in d) is);
      others = λ o ne. ap (templates_in o) (sym is) ∙ spared (stays d options) (λ x. o == x.0.0) (stays_out o d options ne) ts;
    }
change_in d options ts us (Gone id) e =
    let is : withdraw (d, id) ts ≡ us = same_ok _ us e in
    record {
      own = ap (λ (l : Templates). Ok l) (withdraw_in d id ts ∙ ap (templates_in d) is);
      others = λ o ne. ap (templates_in o) (sym is) ∙ withdraw_out o d id ts ne;
    }
change_in d options ts us (New id specs) e =
    let t : TemplateView = record { options = options; specs = specs } in
    let a = refused (is_none (known (d, id) ts) && not (nat_lt (length ts) 4096)) TooMany _ us e in
    let is : define (d, id) t ts ≡ us = same_ok _ us a.1 in
    let room = fits (is_none (known (d, id) (templates_in d ts))) (is_none (known (d, id) ts)) (length (templates_in d ts)) (length ts) (ap is_none (known_in d id ts)) (few_in d ts) a.0 in
    record {
      own = ap (λ b. cond b (Err TooMany) (Ok (define (d, id) t (templates_in d ts)))) room ∙ ap (λ (l : Templates). Ok l) (define_in d id t ts ∙ ap (templates_in d) is);
      others = λ o ne. ap (templates_in o) (sym is) ∙ define_out o d id t ts ne;
    }

pub record ChangesAll (d : ℕ) (options : Bool) (ts us : Templates) (cs : List ChangeView) : Type 0 where
  pub own : after_changes d options (templates_in d ts) cs ≡ Ok (templates_in d us)
  pub others : (e : ℕ) → (e == d) ≡ false → templates_in e us ≡ templates_in e ts

pub changes_in : (d : ℕ) (options : Bool) (cs : List ChangeView) (ts us : Templates) → after_changes d options ts cs ≡ Ok us → ChangesAll d options ts us cs
changes_in d options [] ts us e =
    let is : ts ≡ us = same_ok ts us e in
    record { own = ap (λ (l : Templates). Ok (templates_in d l)) is; others = λ o ne. ap (templates_in o) (sym is) }
changes_in d options (c ∷ cs) ts us e = go (λ vs k. changes_in d options cs vs us k) (changed d options ts c) refl e
  where
    go : ((vs : Templates) → after_changes d options vs cs ≡ Ok us → ChangesAll d options vs us cs)
        → (r : Result Templates DecodeFault) → changed d options ts c ≡ r → (r >>= (λ vs. after_changes d options vs cs)) ≡ Ok us → ChangesAll d options ts us (c ∷ cs)
    go more (Err f) k e = absurd cc
    go more (Ok vs) k e =
        let first = change_in d options ts vs c k in
        let rest = more vs e in
        record {
          own = ap (λ (r : Result Templates DecodeFault). r >>= (λ ws. after_changes d options ws cs)) first.own ∙ rest.own;
          others = λ o ne. rest.others o ne ∙ first.others o ne;
        }
