-- Lists whose keys never fall, in parts of one key each.
use Rattle.std.proofs.Common.{◌≡◌, ℕ, zero, suc, ◌+◌, ◌<◌, ◌≤◌, List, [], ◌∷◌, ◌++◌, refl, sym, ap, ◌∙◌, arith, inl, inr}
use Rattle.std.specs.Prelude.{◌==◌, filter, nat_le}
use Rattle.std.specs.List.{flat_map, range_with_len}
use Rattle.std.proofs.lemmas.Bool.{cases_lt, cases_eq, eq-eqb, ne_eqb, le-leb, lt-leb}
use Rattle.std.proofs.lemmas.List.{append-nil, append_assoc}

module _ {X : Type 0} (key : X → ℕ) where
  -- no key is below the one in front of it, or below a number
  abbrev pub NeverFall : ℕ → List X → Type 0
  NeverFall last [] = Unit {0}
  NeverFall last (x ∷ xs) = (last ≤ key x) × NeverFall (key x) xs

  -- the items of one key, and those of this key and above
  abbrev pub of_key : ℕ → List X → List X
  of_key n xs = filter (λ x. key x == n) xs

  abbrev from_key : ℕ → List X → List X
  from_key n xs = filter (λ x. nat_le n (key x)) xs

  none_of : (n last : ℕ) (xs : List X) → NeverFall last xs → n < last → of_key n xs ≡ []
  none_of n last [] h above = refl
  none_of n last (x ∷ xs) h above = let rises = h.0 in rw (ne_eqb (key x) n (λ e. omega (arith, e))) (none_of n (key x) xs h.1 (omega arith))

  split : (n last : ℕ) (xs : List X) → NeverFall last xs → from_key n xs ≡ of_key n xs ++ from_key (n + 1) xs
  split n last [] h = refl
  split n last (x ∷ xs) h =
      let rest = split n (key x) xs h.1 in
      elim (cases_lt (key x) n) [
        | inl below ↦ rw (lt-leb n (key x) below, ne_eqb (key x) n (λ e. omega (arith, e)), lt-leb (n + 1) (key x) (omega arith)) rest
        | inr here ↦
            elim (cases_eq (key x) n) [
              | inl same ↦ rw (le-leb n (key x) here, eq-eqb (key x) n same, lt-leb (n + 1) (key x) (omega (arith, same))) (ap (λ (ys : List X). x ∷ ys) rest)
              | inr apart ↦
                  let above : n < key x = omega (arith, apart) in
                  let none = none_of n (key x) xs h.1 above in
                  rw (le-leb n (key x) here, ne_eqb (key x) n apart, le-leb (n + 1) (key x) (omega arith), none) (ap (λ (ys : List X). x ∷ ys) (rest ∙ ap (λ (ys : List X). ys ++ from_key (n + 1) xs) none))
            ]
      ]

  parts : (n k : ℕ) (xs : List X) → NeverFall 0 xs → from_key n xs ≡ flat_map (λ j. of_key j xs) (range_with_len n k) ++ from_key (n + k) xs
  parts n zero xs h = ap (λ m. from_key m xs) (let same : n ≡ n + 0 = omega arith in same)
  parts n (suc k) xs h =
      let same : n + 1 + k ≡ n + suc k = omega arith in
      split n 0 xs h
      ∙ ap (λ (ys : List X). of_key n xs ++ ys) (parts (n + 1) k xs h ∙ ap (λ m. flat_map (λ j. of_key j xs) (range_with_len (n + 1) k) ++ from_key m xs) same)
      ∙ sym (append_assoc (of_key n xs) (flat_map (λ j. of_key j xs) (range_with_len (n + 1) k)) (from_key (n + suc k) xs))

  all_from : (xs : List X) → from_key 0 xs ≡ xs
  all_from [] = refl
  all_from (x ∷ xs) = rw (le-leb 0 (key x) (omega arith)) (ap (λ (ys : List X). x ∷ ys) (all_from xs))

  none_from : (n : ℕ) (xs : List X) → ((x : X) → key x < n) → from_key n xs ≡ []
  none_from n [] h = refl
  none_from n (x ∷ xs) h = rw (lt-leb n (key x) (h x)) (none_from n xs h)

  -- all items are those of each key, one key after the other
  pub in_parts : (n : ℕ) (xs : List X) → NeverFall 0 xs → ((x : X) → key x < n) → xs ≡ flat_map (λ j. of_key j xs) (range_with_len 0 n)
  in_parts n xs h below =
      let same : 0 + n ≡ n = omega arith in
      sym (all_from xs)
      ∙ parts 0 n xs h
      ∙ ap (λ (ys : List X). flat_map (λ j. of_key j xs) (range_with_len 0 n) ++ ys) (ap (λ m. from_key m xs) same ∙ none_from n xs below)
      ∙ append-nil (flat_map (λ j. of_key j xs) (range_with_len 0 n))
