-- One statement more in a sum of statements.
use Rattle.std.proofs.Common.{◌≡◌, ◌<◌, ◌+◌, ℕ, List, [], ◌∷◌, ◌++◌, Some, length, take, slice_get, suc, zero, inl, inr, refl, sym, subst, ap, ◌∙◌, arith}
use Rattle.std.specs.Global.{Vec}
use Rattle.std.specs.Option.{unwrap_or}
use Rattle.std.proofs.Common.{get_or}
use Rattle.tca_figures.specs.Figures.{Stated}
use Rattle.tca_figures.specs.Lines.{IsTextOf}
use Rattle.tca_figures.specs.Reading.{IsFirstFault}
use Rattle.tca_figures.specs.Sums.{AreAlike, Fits, IsSumFault, added}
use Rattle.tca_figures.specs.Totals.{Adds, IsSumOf}
use Rattle.tca_figures.specs.declared.fault.StatementFault.{StatementFault}
use Rattle.tca_program.specs.declared.fault.RunFault.{RunFault}
use Rattle.tcatool.specs.Added.{IsFirstUnfit, texts_of}
use Rattle.tcatool.specs.Told.{statement_refusal}

adds_more : (held : Stated) (texts : List (List ℕ)) (sum : Stated) (text : List ℕ) (more : Stated) → Adds held texts sum → IsTextOf text more → AreAlike sum more → Fits (added sum more)
    → Adds held (texts ++ text ∷ []) (added sum more)
unfolding Adds
adds_more held [] sum text more h is alike fits =
    (more, is, subst (λ (s : Stated). AreAlike s more) h alike, subst (λ (s : Stated). Fits (added s more)) h fits, ap (λ (s : Stated). added s more) h)
adds_more held (t ∷ texts) sum text more h is alike fits = (h.0, h.1, h.2, h.3, adds_more (added held h.0) texts sum text more h.4 is alike fits)

-- with one more
pub sum_more : (texts : List (List ℕ)) (sum : Stated) (text : List ℕ) (more : Stated) → IsSumOf texts sum → IsTextOf text more → AreAlike sum more → Fits (added sum more) → IsSumOf (texts ++ text ∷ []) (added sum more)
sum_more [] sum text more h is alike fits = absurd h
sum_more (t ∷ texts) sum text more h is alike fits = (h.0, h.1, adds_more h.0 texts sum text more h.2 is alike fits)

-- the first alone
pub sum_first : (text : List ℕ) (s : Stated) → IsTextOf text s → IsSumOf (text ∷ []) s
unfolding Adds
sum_first text s is = (s, is, refl)

-- a text behind others that have a sum is no statement
pub unread : (texts : List (List ℕ)) (number : ℕ) (text : List ℕ) (fault : StatementFault) (e : RunFault) (sum : Stated) → IsSumOf (take number texts) sum → slice_get texts number ≡ Some text
    → IsFirstFault text fault → e ≡ statement_refusal number fault → IsFirstUnfit texts e
unread texts number text fault e sum h at faulty told = record {
  number = number;
  text = text;
  at = at;
  fault = fault;
  told = told;
  why = inl (record { fits = inr (sum, h); faulty = faulty });
}

-- the first text is no statement
pub first_unread : (text : List ℕ) (others : List (List ℕ)) (fault : StatementFault) (e : RunFault) → IsFirstFault text fault → e ≡ statement_refusal 0 fault → IsFirstUnfit (text ∷ others) e
first_unread text others fault e faulty told = record {
  number = 0;
  text = text;
  at = refl;
  fault = fault;
  told = told;
  why = inl (record { fits = inl refl; faulty = faulty });
}

-- a statement has no sum with those before it
pub unfit : (texts : List (List ℕ)) (number : ℕ) (text : List ℕ) (fault : StatementFault) (e : RunFault) (sum more : Stated) → IsSumOf (take number texts) sum → slice_get texts number ≡ Some text
    → IsTextOf text more → IsSumFault sum more fault → e ≡ statement_refusal number fault → IsFirstUnfit texts e
unfit texts number text fault e sum more h at is wrong told = record {
  number = number;
  text = text;
  at = at;
  fault = fault;
  told = told;
  why = inr (record { sum = sum; sum_is = h; more = more; text_is = is; unfit = wrong });
}

one_more : (k : ℕ) → suc k ≡ k + 1
one_more k = omega arith

item_at : (vs : List (Vec ℕ)) (k : ℕ) (v : Vec ℕ) → k < length vs → v ≡ get_or vs k v → slice_get (texts_of vs) k ≡ Some v.items
item_at [] k v below is = absurd (omega (arith, below))
item_at (x ∷ vs) zero v below is = ap (λ (y : Vec ℕ). Some y.items) (sym is)
item_at (x ∷ vs) (suc k) v below is = item_at vs k v (omega (arith, below)) is

take_more : (xs : List (List ℕ)) (k : ℕ) (x : List ℕ) → slice_get xs k ≡ Some x → take (suc k) xs ≡ take k xs ++ x ∷ []
take_more [] k x h = absurd cc
take_more (y ∷ ys) zero x h = ap (λ (z : List ℕ). z ∷ []) (ap (λ o. unwrap_or o y) h)
take_more (y ∷ ys) (suc k) x h = ap (λ (zs : List (List ℕ)). y ∷ zs) (take_more ys k x h)

module _ (front : List ℕ) (vs : List (Vec ℕ)) (k : ℕ) (v : Vec ℕ) (below : k < length vs) (is_item : v ≡ get_or vs k v) (text : List ℕ) (is_text : text ≡ v.items) where
  here : slice_get (texts_of vs) k ≡ Some text
  here = item_at vs k v below is_item ∙ ap (λ (t : List ℕ). Some t) (sym is_text)

  behind : slice_get (front ∷ texts_of vs) (k + 1) ≡ Some text
  behind = subst (λ n. slice_get (front ∷ texts_of vs) n ≡ Some text) (one_more k) here

  before : take (k + 1) (front ∷ texts_of vs) ≡ front ∷ take k (texts_of vs)
  before = subst (λ n. take n (front ∷ texts_of vs) ≡ front ∷ take k (texts_of vs)) (one_more k) refl

  -- the sum with the text of this number
  pub next_sum : (sum more next : Stated) → IsSumOf (front ∷ take k (texts_of vs)) sum → IsTextOf text more → AreAlike sum more → Fits next → next ≡ added sum more
      → IsSumOf (front ∷ take (k + 1) (texts_of vs)) next
  next_sum sum more next h is alike fits e =
      let one = sum_more (front ∷ take k (texts_of vs)) sum text more h is alike (subst Fits e fits) in
      let texts : take k (texts_of vs) ++ text ∷ [] ≡ take (k + 1) (texts_of vs) = sym (take_more (texts_of vs) k text here) ∙ ap (λ n. take n (texts_of vs)) (one_more k) in
      subst (λ (s : Stated). IsSumOf (front ∷ take (k + 1) (texts_of vs)) s) (sym e)
      (subst (λ (ts : List (List ℕ)). IsSumOf (front ∷ ts) (added sum more)) texts one)

  pub next_unread : (number : ℕ) (fault : StatementFault) (e : RunFault) (sum : Stated) → number ≡ k + 1 → IsSumOf (front ∷ take k (texts_of vs)) sum → IsFirstFault text fault
      → e ≡ statement_refusal number fault → IsFirstUnfit (front ∷ texts_of vs) e
  next_unread number fault e sum n h faulty told =
      unread (front ∷ texts_of vs) (k + 1) text fault e sum (subst (λ ts. IsSumOf ts sum) (sym before) h) behind faulty
      (subst (λ m. e ≡ statement_refusal m fault) n told)

  pub next_unfit : (number : ℕ) (fault : StatementFault) (e : RunFault) (sum more : Stated) → number ≡ k + 1 → IsSumOf (front ∷ take k (texts_of vs)) sum → IsTextOf text more → IsSumFault sum more fault
      → e ≡ statement_refusal number fault → IsFirstUnfit (front ∷ texts_of vs) e
  next_unfit number fault e sum more n h is wrong told =
      unfit (front ∷ texts_of vs) (k + 1) text fault e sum more (subst (λ ts. IsSumOf ts sum) (sym before) h) behind is wrong
      (subst (λ m. e ≡ statement_refusal m fault) n told)
