-- What a binary search among the pairs of a map tells of the key.
use Rattle.std.proofs.Common.{◌≡◌, ℕ, zero, suc, ◌+◌, ◌<◌, ◌≤◌, Some, List, [], ◌∷◌, length, take, get_or, slice_set, Result, Ok, Err, IfOk, IfErr, refl, sym, ap, ◌∙◌, subst, arith}
use Rattle.std.specs.List.{insert, AllByRecursion}
use Rattle.std.specs.List.Sorted.{IsSearchInRange, IsBinarySearchResult, IsNonDecreasingBy, IsPartitionPoint}
use Rattle.std.specs.Ordering.{nat_cmp, is_lt, ordering_index}
use Rattle.std.specs.declared.cmp.Ordering.TheVariants.{Less, Equal, Greater}
use Rattle.std.proofs.lemmas.Bool.{eq-eqb, ne_eqb, lt-ltb, le-ltb}
use Rattle.std.proofs.lemmas.Cmp.{ranked, nat_cmp_total}
use Rattle.std.proofs.lemmas.List.Sorted.{searchable_from_sorted}
use Rattle.tca_join.specs.Maps.{Rises, IsAt, IsGap}
use Rattle.tca_join.specs.laws.MapLaws.{not_there, all_above, rises_put}

pub greater_is : (a b : ℕ) → b < a → nat_cmp a b ≡ Greater
greater_is a b h = rw (le-ltb a b (omega arith), ne_eqb a b (λ e. omega arith)) refl

pub less_is : (a b : ℕ) → a < b → nat_cmp a b ≡ Less
less_is a b h = rw (lt-ltb a b h) refl

pub equal_is : (a b : ℕ) → a ≡ b → nat_cmp a b ≡ Equal
equal_is a b h = rw (le-ltb a b (omega arith), eq-eqb a b h) refl

module _ {V : Type 0} where
  -- what holds of each pair holds of the one at an index
  all_at : (P : ℕ × V → Type 0) (es : List (ℕ × V)) (i : ℕ) (d : ℕ × V) → AllByRecursion P es → i < length es → P (get_or es i d)
  all_at P [] i d h l = absurd (omega arith)
  all_at P (e ∷ es) zero d h l = h.0
  all_at P (e ∷ es) (suc i) d h l = all_at P es i d h.1 (omega arith)

  rise_at : (es : List (ℕ × V)) (i j : ℕ) (d : ℕ × V) → Rises es → i < j → j < length es → (get_or es i d).0 < (get_or es j d).0
  rise_at [] i j d r l h = absurd (omega arith)
  rise_at (e ∷ es) i zero d r l h = absurd (omega arith)
  rise_at (e ∷ es) zero (suc j) d r l h = all_at (λ next. e.0 < next.0) es j d r.0 (omega arith)
  rise_at (e ∷ es) (suc i) (suc j) d r l h = rise_at es i j d r.1 (omega arith) (omega arith)

  -- what the search asks of the pairs
  searchable : (es : List (ℕ × V)) (key : ℕ) → Rises es → IsNonDecreasingBy (λ e. ordering_index (nat_cmp e.0 key)) es
  searchable es key r = searchable_from_sorted nat_cmp_total (λ (e : ℕ × V). e.0) es key (λ j d low high.
      ap is_lt (greater_is (get_or es (j + 1) d).0 (get_or es j d).0 (rise_at es j (j + 1) d r (omega arith) (omega arith))))

  at_index : (es : List (ℕ × V)) (key i : ℕ) → Rises es → i < length es → ((d : ℕ × V) → (get_or es i d).0 ≡ key) → IsAt es key i
  at_index [] key i r h same = absurd (omega arith)
  at_index (x ∷ xs) key zero r h same =
      let k : x.0 ≡ key = same x in
      record {
        within = h;
        has = λ y m. (ap (λ z. z.0) m ∙ k, rw (eq-eqb key x.0 (sym k)) (ap (λ z. Some z.1) (sym m)));
        puts = λ y m f v. rw (equal_is key x.0 (sym k)) (λ j. (subst (λ z. z ≡ y.0) k (ap (λ z. z.0) (sym m)) j, f ((sym m j).1) v) ∷ xs);
      }
  at_index (x ∷ xs) key (suc i) r h same =
      let rest = at_index xs key i r.1 (omega arith) same in
      let l : x.0 < key = subst (λ k. x.0 < k) (same x) (all_at (λ next. x.0 < next.0) xs i x r.0 (omega arith)) in
      record {
        within = h;
        has = λ y m. let both = rest.has y m in (both.0, rw (ne_eqb key x.0 (λ z. omega arith)) (both.1));
        puts = λ y m f v. rw (greater_is key x.0 l) (ap (λ l. x ∷ l) (rest.puts y m f v));
      }

  gap_index : (es : List (ℕ × V)) (key i : ℕ) → Rises es → i ≤ length es → IsPartitionPoint (λ e. nat_cmp e.0 key ≡ Less) (λ e. nat_cmp e.0 key ≡ Greater) es i → IsGap es key i
  gap_index [] key zero r h gap = record { within = omega arith; lacks = refl; puts = λ f v. refl }
  gap_index [] key (suc i) r h gap = absurd (omega arith)
  gap_index (x ∷ xs) key zero r h gap =
      let l : key < x.0 = ranked x.0 key Greater (sym (gap.1 0 x (omega arith) (omega arith))) in
      record {
        within = omega arith;
        lacks = rw (ne_eqb key x.0 (λ z. omega arith)) (not_there xs key (all_above xs key x.0 l r.0));
        puts = λ f v. rw (less_is key x.0 l) refl;
      }
  gap_index (x ∷ xs) key (suc i) r h gap =
      let l : x.0 < key = ranked x.0 key Less (sym (gap.0 0 x (omega arith) (omega arith))) in
      let rest = gap_index xs key i r.1 (omega arith) (λ j d _ m. gap.0 (suc j) d (omega arith) (omega arith), λ j d m n. gap.1 (suc j) d (omega arith) (omega arith)) in
      record {
        within = omega (arith, rest.within);
        lacks = rw (ne_eqb key x.0 (λ z. omega arith)) rest.lacks;
        puts = λ f v. rw (greater_is key x.0 l) (ap (λ l. x ∷ l) (rest.puts f v));
      }

  pub searched : (es : List (ℕ × V)) (key : ℕ) (r : Result ℕ ℕ) → Rises es → IsSearchInRange r (length es) → IsBinarySearchResult (λ e. nat_cmp e.0 key) es r
      → record { found : IfOk r (IsAt es key); absent : IfErr r (IsGap es key) }
  searched es key (Ok at) rises h is = record { found = at_index es key at rises h (λ d. ranked (get_or es at d).0 key Equal (sym (is d))); absent = tt }
  searched es key (Err at) rises h is = record { found = tt; absent = gap_index es key at rises h (is (searchable es key rises)) }

-- a map with a value set where its key is, or inserted where it would go, still rises
pub rises_set : {V : Type 0} (es : List (ℕ × V)) (key at : ℕ) (e : ℕ × V) (v : V) → Rises es → IsAt es key at → e ≡ get_or es at e → Rises (slice_set es at (e.0, v))
rises_set {V} es key at e v r found is = subst Rises (found.puts e is (λ _ w. w) v) (rises_put (λ (_ w : V). w) key v es r)

pub rises_insert : {V : Type 0} (es : List (ℕ × V)) (key at : ℕ) (v : V) → Rises es → IsGap es key at → Rises (insert es at (key, v))
rises_insert {V} es key at v r gap = subst Rises (gap.puts (λ _ w. w) v) (rises_put (λ (_ w : V). w) key v es r)

-- what holds of the first pairs and of the next
pub all_next : {V : Type 0} (P : ℕ × V → Type 0) (es : List (ℕ × V)) (i : ℕ) (e : ℕ × V) → i < length es → e ≡ get_or es i e → AllByRecursion P (take i es) → P e → AllByRecursion P (take (i + 1) es)
all_next P [] i e h is all p = absurd (omega arith)
all_next P (x ∷ es) zero e h is all p = (subst P is p, tt)
all_next P (x ∷ es) (suc i) e h is all p =
    let more : suc (i + 1) ≡ suc i + 1 = omega arith in
    subst (λ n. AllByRecursion P (take n (x ∷ es))) more (all.0, all_next P es i e (omega arith) is all.1 p)
