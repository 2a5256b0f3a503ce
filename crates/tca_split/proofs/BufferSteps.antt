-- Messages that go to the buffers and the files of their domains.
use Rattle.std.proofs.Common.{◌≡◌, ◌<◌, ◌+◌, ℕ, take, length, get_or, Bool, true, false, cond, List, [], ◌∷◌, ◌++◌, Option, Some, None, refl, sym, ap, ap₂, subst, ◌∙◌, arith, append_assoc, append-nil}
use Rattle.std.specs.Prelude.{◌==◌, ◌||◌, nat_eq, option_map}
use Rattle.std.specs.List.{concat}
use Rattle.std.proofs.lemmas.Bool.Decides.{nat_tests}
use Rattle.std.proofs.lemmas.List.Elements.{filter-append}
use Rattle.std.proofs.lemmas.List.Folds.{concat-append, list_any_more}
use Rattle.tca_split.specs.Parts.{domain_of, messages_of}
use Rattle.tca_split.specs.Folders.{Files, Lengthens}
use Rattle.tca_split.specs.Surveys.{is_among}
use Rattle.tca_split.specs.inside.Buffering.{Kept, empty_for, Leaves, Starts, TakesPart, Takes, BeginsPart, Begins}
use Rattle.std.specs.BTreeMap.{is_at}
use Rattle.std.specs.Ordering.{nat_cmp}
use Rattle.tca_split.proofs.DomainOrder.{domain_at}
use Rattle.tca_split.proofs.DomainTemplates.{itself}
use Rattle.tca_split.proofs.FileSteps.{longer, same_length}

-- no messages
none_one : (o f : Option (List ℕ)) → TakesPart [] o f o f
none_one None f = (refl, refl, refl)
none_one (Some kept) f = ([], kept, append-nil kept, refl, same_length f)

pub takes_none : (k : Kept) (x : Option Files) → Takes [] k x k x
takes_none k None = tt
takes_none k (Some fs) = λ d. none_one (k d) (fs d)

-- messages and others behind them
more_one : (a b : List (List ℕ)) (k l m f g h : Option (List ℕ)) → TakesPart a k f l g → TakesPart b l g m h → TakesPart (a ++ b) k f m h
more_one a b None l m f g h p q =
    let r = subst (λ (o : Option (List ℕ)). TakesPart b o g m h) p.1 q in
    (ap₂ (λ (s t : List (List ℕ)). s ++ t) p.0 r.0, r.1, r.2 ∙ p.2)
more_one a b (Some kept) l m f g h p q =
    let r = subst (λ (o : Option (List ℕ)). TakesPart b o g m h) p.3 q in (
      p.0 ++ r.0,
      r.1,
      ap (λ (s : List ℕ). kept ++ s) (concat-append a b) ∙ sym (append_assoc kept (concat a) (concat b)) ∙ ap (λ (s : List ℕ). s ++ concat b) p.2
          ∙ append_assoc p.0 p.1 (concat b) ∙ ap (λ (s : List ℕ). p.0 ++ s) r.2 ∙ sym (append_assoc p.0 r.0 r.1),
      r.3,
      r.4 ∙ ap (option_map (λ xs. xs ++ r.0)) p.4 ∙ longer p.0 r.0 f,
    )

pub takes_more : (a b : List (List ℕ)) (k l m : Kept) (x y z : Option Files) → Takes a k x l y → Takes b l y m z → Takes (a ++ b) k x m z
takes_more a b k l m None y z p q = tt
takes_more a b k l m (Some fs) None z p q = absurd p
takes_more a b k l m (Some fs) (Some gs) None p q = absurd q
takes_more a b k l m (Some fs) (Some gs) (Some hs) p q = λ d.
    subst (λ (ms : List (List ℕ)). TakesPart ms (k d) (fs d) (m d) (hs d)) (sym (filter-append (λ x. domain_of x == d) a b))
    (more_one (messages_of d a) (messages_of d b) (k d) (l d) (m d) (fs d) (gs d) (hs d) (p d) (q d))

-- nothing was written
same_one : (ms : List (List ℕ)) (o f : Option (List ℕ)) → BeginsPart ms o f f
same_one ms None f = refl
same_one ms (Some kept) f = ([], kept ++ concat ms, refl, same_length f)

pub begins_same : (ms : List (List ℕ)) (k : Kept) (x : Option Files) → Begins ms k x x
begins_same ms k None = tt
begins_same ms k (Some fs) = λ d. same_one (messages_of d ms) (k d) (fs d)

-- messages, and others behind them that aren't all taken
begun_one : (a b : List (List ℕ)) (k l f g h : Option (List ℕ)) → TakesPart a k f l g → BeginsPart b l g h → BeginsPart (a ++ b) k f h
begun_one a b None l f g h p q = subst (λ (o : Option (List ℕ)). BeginsPart b o g h) p.1 q ∙ p.2
begun_one a b (Some kept) l f g h p q =
    let r = subst (λ (o : Option (List ℕ)). BeginsPart b o g h) p.3 q in (
      p.0 ++ r.0,
      r.1,
      ap (λ (s : List ℕ). kept ++ s) (concat-append a b) ∙ sym (append_assoc kept (concat a) (concat b)) ∙ ap (λ (s : List ℕ). s ++ concat b) p.2
          ∙ append_assoc p.0 p.1 (concat b) ∙ ap (λ (s : List ℕ). p.0 ++ s) r.2 ∙ sym (append_assoc p.0 r.0 r.1),
      r.3 ∙ ap (option_map (λ xs. xs ++ r.0)) p.4 ∙ longer p.0 r.0 f,
    )

pub begins_more : (a b : List (List ℕ)) (k l : Kept) (x y z : Option Files) → Takes a k x l y → Begins b l y z → Begins (a ++ b) k x z
begins_more a b k l None y z p q = tt
begins_more a b k l (Some fs) None z p q = absurd p
begins_more a b k l (Some fs) (Some gs) None p q = absurd q
begins_more a b k l (Some fs) (Some gs) (Some hs) p q = λ d.
    subst (λ (ms : List (List ℕ)). BeginsPart ms (k d) (fs d) (hs d)) (sym (filter-append (λ x. domain_of x == d) a b))
    (begun_one (messages_of d a) (messages_of d b) (k d) (l d) (fs d) (gs d) (hs d) (p d) (q d))

-- whatever is behind them
longer_one : (a b : List (List ℕ)) (k f g : Option (List ℕ)) → BeginsPart a k f g → BeginsPart (a ++ b) k f g
longer_one a b None f g p = p
longer_one a b (Some kept) f g p = (
  p.0,
  p.1 ++ concat b,
  ap (λ (s : List ℕ). kept ++ s) (concat-append a b) ∙ sym (append_assoc kept (concat a) (concat b)) ∙ ap (λ (s : List ℕ). s ++ concat b) p.2
      ∙ append_assoc p.0 p.1 (concat b),
  p.3,
)

pub begins_longer : (a b : List (List ℕ)) (k : Kept) (x y : Option Files) → Begins a k x y → Begins (a ++ b) k x y
begins_longer a b k None y p = tt
begins_longer a b k (Some fs) None p = absurd p
begins_longer a b k (Some fs) (Some gs) p = λ d.
    subst (λ (ms : List (List ℕ)). BeginsPart ms (k d) (fs d) (gs d)) (sym (filter-append (λ x. domain_of x == d) a b))
    (longer_one (messages_of d a) (messages_of d b) (k d) (fs d) (gs d) (p d))

-- all were taken
pub begins_taken : (a b : List (List ℕ)) (k l : Kept) (x y : Option Files) → Takes a k x l y → Begins (a ++ b) k x y
begins_taken a b k l x y p = begins_more a b k l x y y p (begins_same b l y)

-- messages of one domain alone
pub record AreOf (d : ℕ) (ms : List (List ℕ)) : Type 0 where
  pub own : messages_of d ms ≡ ms
  pub others : (e : ℕ) → (e == d) ≡ false → messages_of e ms ≡ []

pub none_of : (d : ℕ) → AreOf d []
none_of d = record { own = refl; others = λ e ne. refl }

pub one_of : (d : ℕ) (m : List ℕ) → d ≡ domain_of m → AreOf d (m ∷ [])
one_of d m e = record {
  own = let here : (domain_of m == d) ≡ true = subst (λ z. (domain_of m == z) ≡ true) (sym e) (itself (domain_of m)) in ap (λ b. cond b (m ∷ []) []) here;
  others = λ f ne. let there : (domain_of m == f) ≡ false = grind (arith, nat_tests, ne, e) in ap (λ b. cond b (m ∷ []) []) there;
}

-- a buffer of this domain, and the others as they were
pub record Writes (d : ℕ) (now : List ℕ) (k l : Kept) : Type 0 where
  pub here : l d ≡ Some now
  pub others : (e : ℕ) → (e == d) ≡ false → l e ≡ k e

own_part : (ms : List (List ℕ)) (kept now written : List ℕ) (o p f g : Option (List ℕ)) → o ≡ Some kept → p ≡ Some now → kept ++ concat ms ≡ written ++ now → g ≡ option_map (λ xs. xs ++ written) f → TakesPart ms o f p g
own_part ms kept now written o p f g eo ep parts grown = subst (λ (o : Option (List ℕ)). TakesPart ms o f p g) (sym eo) (written, now, parts, ep, grown)

other_part : (ms : List (List ℕ)) (o p f g : Option (List ℕ)) → ms ≡ [] → p ≡ o → g ≡ f → TakesPart ms o f p g
other_part ms o p f g none ep eg =
    subst (λ (ms : List (List ℕ)). TakesPart ms o f p g) (sym none)
    (subst (λ (p : Option (List ℕ)). TakesPart [] o f p g) (sym ep) (subst (λ (g : Option (List ℕ)). TakesPart [] o f o g) (sym eg) (none_one o f)))

-- messages of one domain go to its buffer and its file
pub takes_own : (d : ℕ) (ms : List (List ℕ)) (k l : Kept) (kept now written : List ℕ) (x y : Option Files) → AreOf d ms → k d ≡ Some kept → Writes d now k l → kept ++ concat ms ≡ written ++ now
    → Lengthens d written x y → Takes ms k x l y
takes_own d ms k l kept now written None y of there w parts grown = tt
takes_own d ms k l kept now written (Some fs) None of there w parts grown = absurd grown
takes_own d ms k l kept now written (Some fs) (Some gs) of there w parts grown = λ e. one e (e == d) refl
  where
    one : (e : ℕ) (b : Bool) → (e == d) ≡ b → TakesPart (messages_of e ms) (k e) (fs e) (l e) (gs e)
    one e true p =
        let is : d ≡ e = grind (arith, nat_tests, p) in
        subst (λ (e : ℕ). TakesPart (messages_of e ms) (k e) (fs e) (l e) (gs e)) is
        (subst (λ (n : List (List ℕ)). TakesPart n (k d) (fs d) (l d) (gs d)) (sym of.own) (own_part ms kept now written (k d) (l d) (fs d) (gs d) there w.here parts grown.0))
    one e false p = other_part (messages_of e ms) (k e) (l e) (fs e) (gs e) (of.others e p) (w.others e p) (grown.1 e p)

own_begun : (ms : List (List ℕ)) (kept front rest : List ℕ) (o f g : Option (List ℕ)) → o ≡ Some kept → kept ++ concat ms ≡ front ++ rest → g ≡ option_map (λ xs. xs ++ front) f → BeginsPart ms o f g
own_begun ms kept front rest o f g eo parts grown = subst (λ (o : Option (List ℕ)). BeginsPart ms o f g) (sym eo) (front, rest, parts, grown)

-- and may go there in part
pub begins_own : (d : ℕ) (ms : List (List ℕ)) (k : Kept) (kept front rest : List ℕ) (x y : Option Files) → AreOf d ms → k d ≡ Some kept → kept ++ concat ms ≡ front ++ rest → Lengthens d front x y → Begins ms k x y
begins_own d ms k kept front rest None y of there parts grown = tt
begins_own d ms k kept front rest (Some fs) None of there parts grown = absurd grown
begins_own d ms k kept front rest (Some fs) (Some gs) of there parts grown = λ e. one e (e == d) refl
  where
    one : (e : ℕ) (b : Bool) → (e == d) ≡ b → BeginsPart (messages_of e ms) (k e) (fs e) (gs e)
    one e true p =
        let is : d ≡ e = grind (arith, nat_tests, p) in
        subst (λ (e : ℕ). BeginsPart (messages_of e ms) (k e) (fs e) (gs e)) is
        (subst (λ (n : List (List ℕ)). BeginsPart n (k d) (fs d) (gs d)) (sym of.own) (own_begun ms kept front rest (k d) (fs d) (gs d) there parts grown.0))
    one e false p = subst (λ (g : Option (List ℕ)). BeginsPart (messages_of e ms) (k e) (fs e) g) (sym (grown.1 e p)) (same_one (messages_of e ms) (k e) (fs e))

-- an empty buffer for one domain more
pub empty_more : {V : Type 0} (items : V → List ℕ) (ds : List ℕ) (i d : ℕ) (v : V) (k l : Option V) → i < length ds → items v ≡ [] → option_map items k ≡ empty_for (take i ds) d
    → l ≡ cond (is_at (nat_cmp (get_or ds i 0)) d) (Some v) k → option_map items l ≡ empty_for (take (i + 1) ds) d
empty_more {V} items ds i d v k l within none made now =
    ap (option_map items) (now ∙ ap (λ b. cond b (Some v) k) (domain_at (get_or ds i 0) d ∙ turned (get_or ds i 0) d)) ∙ go (d == get_or ds i 0) (is_among d (take i ds)) made
    ∙ ap (λ b. cond b (Some []) None) (sym (list_any_more (λ x. d == x) ds i 0 within))
  where
    turned : (a b : ℕ) → (a == b) ≡ (b == a)
    turned a b = both (a == b) (b == a) refl refl
      where
        both : (p q : Bool) → (a == b) ≡ p → (b == a) ≡ q → p ≡ q
        both true true e f = refl
        both false false e f = refl
        both true false e f = grind (arith, nat_tests, e, f)
        both false true e f = grind (arith, nat_tests, e, f)

    go : (p q : Bool) → option_map items k ≡ cond q (Some []) None → option_map items (cond p (Some v) k) ≡ cond (q || p) (Some []) None
    go true true h = ap (λ (xs : List ℕ). Some xs) none
    go true false h = ap (λ (xs : List ℕ). Some xs) none
    go false true h = h
    go false false h = h

-- a buffer that was looked up and written, as a map tells it
pub looked_up : {V : Type 0} (items : V → List ℕ) (d : ℕ) (v : V) (k l : ℕ → Option V) → ((e : ℕ) → l e ≡ cond (is_at (nat_cmp d) e) (Some v) (k e)) → Writes d (items v) (λ e. option_map items (k e)) (λ e. option_map items (l e))
looked_up {V} items d v k l all = record {
  here = ap (option_map items) (all d ∙ ap (λ b. cond b (Some v) (k d)) (domain_at d d ∙ itself d));
  others = λ e ne. let there : nat_eq d e ≡ false = grind (arith, nat_tests, ne) in ap (option_map items) (all e ∙ ap (λ b. cond b (Some v) (k e)) (domain_at d e ∙ there));
}

-- a message that was kept
pub takes_kept : (d : ℕ) (m kept now : List ℕ) (k l : Kept) (x y : Option Files) → d ≡ domain_of m → k d ≡ Some kept → Writes d now k l → Leaves d (kept ++ m) now x y → Takes (m ∷ []) k x l y
takes_kept d m kept now k l x y own there w s =
    takes_own d (m ∷ []) k l kept now s.written x y (one_of d m own) there w (ap (λ (t : List ℕ). kept ++ t) (append-nil m) ∙ s.parts) s.grown

-- or was written in part
pub begins_kept : (d : ℕ) (m kept : List ℕ) (k : Kept) (x y : Option Files) → d ≡ domain_of m → k d ≡ Some kept → Starts d (kept ++ m) x y → Begins (m ∷ []) k x y
begins_kept d m kept k x y own there s =
    begins_own d (m ∷ []) k kept s.front s.rest x y (one_of d m own) there (ap (λ (t : List ℕ). kept ++ t) (append-nil m) ∙ s.parts) s.grown
