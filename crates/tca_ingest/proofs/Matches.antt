-- A journal that is compared with the calls of passes, entry by entry and pass by pass.
use Rattle.std.proofs.Common.{◌≡◌, ℕ, zero, suc, ◌+◌, ◌<◌, ◌≤◌, ◌↔◌, Bool, true, false, Some, List, [], ◌∷◌, length, get_or, set, slice_get, take, drop, refl, ap, sym, subst, ◌∙◌, arith, length-drop}
use Rattle.std.specs.List.{All, AllPairs}
use Rattle.std.proofs.lemmas.List.{drop_all, get_or-map, get_or-set_same, take_more}
use Rattle.std.proofs.lemmas.List.Elements.{All-push}
use Rattle.std.proofs.lemmas.List.Quantifiers.{all_pairs_push}
use Rattle.tca_ingest.specs.EntryViews.{entry_view, entry_views}
use Rattle.tca_ingest.specs.Passes.{calls_of}
use Rattle.tca_ingest.specs.declared.entry.Entry.{Entry}

pub views_length : (es : List Entry) → length (entry_views es) ≡ length es
views_length [] = refl
views_length (e ∷ es) = ap suc (views_length es)

pub ends : (n : ℕ) (js cs : List Entry) (i k : ℕ) → length js ≤ i → k ≤ length cs
    → ((calls_of n (entry_views (drop i js)) ≡ entry_views (drop k cs)) ↔ (calls_of n (entry_views js) ≡ entry_views cs))
    → (k ≡ length cs) ↔ (calls_of n (entry_views js) ≡ entry_views cs)
ends n js cs i k whole within rest =
    let none : calls_of n (entry_views (drop i js)) ≡ [] = ap (λ es. calls_of n (entry_views es)) (drop_all i js whole) in (
      (λ here. rest.0 (none ∙ sym (ap entry_views (drop_all k cs (omega (arith, here)))))),
      (λ same.
          let empty : length (entry_views (drop k cs)) ≡ 0 = ap length (sym (rest.1 same) ∙ none) in
          let left : length (drop k cs) ≡ 0 = sym (views_length (drop k cs)) ∙ empty in
          let e = length-drop k cs in
          omega (arith, left, e, within)),
    )

-- an entry by its place, as contracts see it
pub view_at : (es : List Entry) (i : ℕ) (x : Entry) → i < length es → x ≡ get_or es i x → entry_view x ≡ get_or (entry_views es) i (entry_view x)
view_at es i x low is = ap entry_view is ∙ sym (get_or-map entry_view es i x (entry_view x) low)

pub found_at : (es : List Entry) (i : ℕ) (x : Entry) → i < length es → x ≡ get_or es i x → slice_get (entry_views es) i ≡ Some (entry_view x)
found_at [] i x low is = absurd (omega (arith, low))
found_at (e ∷ es) zero x low is = ap (λ (y : Entry). Some (entry_view y)) (sym is)
found_at (e ∷ es) (suc i) x low is = found_at es i x (omega (arith, low)) is

-- one element more, x, which stands at i
pub each_more : {X : Type 0} (P : X → Type 0) (xs : List X) (i : ℕ) (x : X) → i < length xs → x ≡ get_or xs i x → All P (take i xs) → P x → All P (take (i + 1) xs)
each_more P xs i x low is all here = subst (All P) (sym (take_more xs i x low)) (All-push P (take i xs) (get_or xs i x) all (subst P is here))

pub apart_more : {X : Type 0} (R : X → X → Type 0) (xs : List X) (i : ℕ) (x : X) → i < length xs → x ≡ get_or xs i x → AllPairs R (take i xs) → All (λ y. R y x) (take i xs) → AllPairs R (take (i + 1) xs)
apart_more R xs i x low is all here =
    subst (AllPairs R) (sym (take_more xs i x low)) (all_pairs_push R (take i xs) (get_or xs i x) all (λ k d below. subst (R (get_or (take i xs) k d)) is (here k d below)))

-- numbers that were given, and one more
pub still_given : (given : List Bool) (i n : ℕ) → get_or given n false ≡ true → get_or (set given i true) n false ≡ true
still_given [] i n h = absurd cc
still_given (b ∷ given) zero zero h = refl
still_given (b ∷ given) zero (suc n) h = h
still_given (b ∷ given) (suc i) zero h = h
still_given (b ∷ given) (suc i) (suc n) h = still_given given i n h

pub now_given : (given : List Bool) (i n : ℕ) → i < length given → n ≡ i → get_or (set given i true) n false ≡ true
now_given given i n low is = ap (λ m. get_or (set given i true) m false) is ∙ get_or-set_same given i true false low
