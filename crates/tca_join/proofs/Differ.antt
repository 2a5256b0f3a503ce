-- Going through two chains at once.
use Rattle.std.proofs.lemmas.List.{take_all, length-drop}
use Rattle.std.proofs.Common.{take, ◌-◌, ◌≡◌, ℕ, ◌+◌, ◌<◌, ◌≤◌, Bool, true, false, Option, None, Some, List, [], ◌∷◌, ◌++◌, length, drop, get_or, refl, sym, ap, ◌∙◌, arith, add-one}
use Rattle.std.proofs.Math.Seq.{drop-cons}
use Rattle.std.proofs.Math.ListN.{drop_of_length-le}
use Rattle.std.proofs.lemmas.List.{append-nil}
use Rattle.tca_join.specs.Chains.{next, differ_at, longer}

cut : {T : Type 0} (xs : List T) (i : ℕ) (x : T) → i < length xs → x ≡ get_or xs i x → drop i xs ≡ x ∷ drop (i + 1) xs
cut xs i x h is = drop-cons xs i x h ∙ rw (← add-one i) (ap (λ y. y ∷ drop (i + 1) xs) (sym is))

-- an index in the rest of a list from n on, as an index in the list
abbrev pub shifted : ℕ → Option ℕ → Option ℕ
shifted n None = None
shifted n (Some at) = Some (at + n)

shifted_next : (n : ℕ) (o : Option ℕ) → shifted n (next o) ≡ shifted (n + 1) o
shifted_next n None = refl
shifted_next n (Some at) = ap (λ k. Some k) (omega arith)

shifted_zero : (o : Option ℕ) → o ≡ shifted 0 o
shifted_zero None = refl
shifted_zero (Some at) = ap (λ k. Some k) (omega arith)

module _ {T : Type 0} (eq : T → T → Bool) where
  pub differ_begins : (a b : List T) → differ_at eq a b ≡ shifted 0 (differ_at eq (drop 0 a) (drop 0 b))
  differ_begins a b = shifted_zero (differ_at eq a b)

  pub differ_step : (a b : List T) (i : ℕ) (x y : T) (all : Option ℕ) → i < length a → i < length b → x ≡ get_or a i x → y ≡ get_or b i y → eq x y ≡ true
      → all ≡ shifted i (differ_at eq (drop i a) (drop i b)) → all ≡ shifted (i + 1) (differ_at eq (drop (i + 1) a) (drop (i + 1) b))
  differ_step a b i x y all h k x-is y-is same so_far =
      so_far ∙ rw (cut a i x h x-is, cut b i y k y-is, same) (shifted_next i (differ_at eq (drop (i + 1) a) (drop (i + 1) b)))

  pub differ_found : (a b : List T) (i : ℕ) (x y : T) (all : Option ℕ) → i < length a → i < length b → x ≡ get_or a i x → y ≡ get_or b i y → eq x y ≡ false
      → all ≡ shifted i (differ_at eq (drop i a) (drop i b)) → all ≡ Some i
  differ_found a b i x y all h k x-is y-is apart so_far =
      so_far ∙ rw (cut a i x h x-is, cut b i y k y-is, apart) (ap (λ n. Some n) (omega arith))

  pub differ_ends_left : (a b : List T) (i : ℕ) (all : Option ℕ) → length a ≤ i → all ≡ shifted i (differ_at eq (drop i a) (drop i b)) → all ≡ None
  differ_ends_left a b i all h so_far = let none : drop i a ≡ [] = drop_of_length-le a h in so_far ∙ rw none refl

  none_right : (xs : List T) → differ_at eq xs [] ≡ None
  none_right [] = refl
  none_right (x ∷ xs) = refl

  pub differ_ends_right : (a b : List T) (i : ℕ) (all : Option ℕ) → length b ≤ i → all ≡ shifted i (differ_at eq (drop i a) (drop i b)) → all ≡ None
  differ_ends_right a b i all h so_far = let none : drop i b ≡ [] = drop_of_length-le b h in so_far ∙ rw none (ap (shifted i) (none_right (drop i a)))

-- the items of a chain, and what another has past them
pub longer_is : {T : Type 0} (a b : List T) → longer a b ≡ a ++ drop (length a) b
longer_is [] b = refl
longer_is (x ∷ a) [] = sym (append-nil (x ∷ a))
longer_is (x ∷ a) (y ∷ b) = ap (λ l. x ∷ l) (longer_is a b)

-- one that is no longer adds nothing
pub longer_covers : {T : Type 0} (a b : List T) → length b ≤ length a → longer a b ≡ a
longer_covers [] [] h = refl
longer_covers [] (y ∷ b) h = absurd (omega arith)
longer_covers (x ∷ a) [] h = refl
longer_covers (x ∷ a) (y ∷ b) h = ap (λ l. x ∷ l) (longer_covers a b (omega arith))

-- a slice from an index on
pub rest_is : {T : Type 0} (xs : List T) (i : ℕ) → take (length xs - i) (drop i xs) ≡ drop i xs
rest_is xs i = take_all (length xs - i) (drop i xs) (omega (arith, length-drop i xs))

pub longer_extends : {T : Type 0} (a b : List T) → a ++ take (length b - length a) (drop (length a) b) ≡ longer a b
longer_extends a b = ap (λ l. a ++ l) (rest_is b (length a)) ∙ sym (longer_is a b)

pub longer_extends_at : {T : Type 0} (a b : List T) (n : ℕ) → n ≡ length a → a ++ take (length b - n) (drop n b) ≡ longer a b
longer_extends_at a b n is = ap (λ m. a ++ take (length b - m) (drop m b)) is ∙ longer_extends a b

-- and with that rest it is no longer than the other
pub rest_fits : {T : Type 0} (a b : List T) (n limit : ℕ) → n ≡ length a → n ≤ length b → length b ≤ limit → length a + length (take (length b - n) (drop n b)) ≤ limit
rest_fits a b n limit is h few =
    let rest : length (take (length b - n) (drop n b)) ≡ length (drop n b) = ap length (rest_is b n) in
    omega (arith, is, h, few, rest, length-drop n b)
