-- Chains: of two, one of which begins with the other, the longer.
use Rattle.std.specs.Prelude.{◌≡◌, ◌⊎◌, ℕ, suc, Option, None, Some, Bool, true, false, cond, List, [], ◌∷◌, length, get_or, ◌≤◌, ◌<◌, refl}
use Rattle.std.specs.Coded.{Coded, code_by, coded×, coded_list, coded_bool}

-- the items in order, and whether room for one more was reserved
pub record ChainView (T : Type 0) : Type 0 where
  pub items : List T
  pub room : Bool

-- these items, with or without room for one more
abbrev pub chain : {T : Type 0} → List T → Bool → ChainView T
chain items room = record { items = items; room = room }

-- how a chain is stored: as the pair of its parts
abbrev pub chain_code : {T : Type 0} → Coded T → Coded (ChainView T)
chain_code {T} t = code_by (List T × Bool) (coded× (coded_list t) coded_bool) (λ c. (c.items, c.room)) (λ p. chain p.0 p.1) (λ _. refl)

-- the most items of a chain
abbrev pub most_items : ℕ
most_items = 4194304

-- a chain has no more
abbrev pub IsChain : {T : Type 0} → ChainView T → Type 0
IsChain c = length c.items ≤ most_items

-- an index counted from one item further on
abbrev pub next : Option ℕ → Option ℕ
next None = None
next (Some n) = Some (suc n)

-- the first index where both lists have an item and these differ
abbrev pub differ_at : {T : Type 0} → (T → T → Bool) → List T → List T → Option ℕ
differ_at eq [] ys = None
differ_at eq (x ∷ xs) [] = None
differ_at eq (x ∷ xs) (y ∷ ys) = cond (eq x y) (next (differ_at eq xs ys)) (Some 0)

-- the items of the one, and then what the other has past them
abbrev pub longer : {T : Type 0} → List T → List T → List T
longer [] ys = ys
longer (x ∷ xs) [] = x ∷ xs
longer (x ∷ xs) (y ∷ ys) = x ∷ longer xs ys

-- as long, and equal item by item
abbrev pub AreEqual : {T : Type 0} → (T → T → Bool) → List T → List T → Type 0
AreEqual eq [] [] = Unit {0}
AreEqual eq [] (y ∷ ys) = ⊥
AreEqual eq (x ∷ xs) [] = ⊥
AreEqual eq (x ∷ xs) (y ∷ ys) = (eq x y ≡ true) × AreEqual eq xs ys

-- chains clash at the first index where their items differ
abbrev pub chain_clash : {T : Type 0} → (T → T → Bool) → ChainView T → ChainView T → Option ℕ
chain_clash eq a b = differ_at eq a.items b.items

-- no join of chains is too large, since each is within the limit
abbrev pub chain_full : {T : Type 0} → ChainView T → ChainView T → Bool
chain_full a b = false

-- chains are the same where their items are, whatever room there is
abbrev pub IsSameChain : {T : Type 0} → (T → T → Bool) → ChainView T → ChainView T → Type 0
IsSameChain eq a b = AreEqual eq a.items b.items

-- the first chain's items and what the second has past them, with no room reserved
abbrev pub chain_joined : {T : Type 0} → ChainView T → ChainView T → ChainView T
chain_joined a b = chain (longer a.items b.items) false

-- the second begins with the first, item by item
abbrev pub IsPrefix : {T : Type 0} → (T → T → Bool) → List T → List T → Type 0
IsPrefix eq [] ys = Unit {0}
IsPrefix eq (x ∷ xs) [] = ⊥
IsPrefix eq (x ∷ xs) (y ∷ ys) = (eq x y ≡ true) × IsPrefix eq xs ys

-- both have an item at this index, these differ, and at each index before it they don't
pub record IsFirstDifference {T : Type 0} (eq : T → T → Bool) (a b : List T) (at : ℕ) : Type 0 where
  pub in_first : at < length a
  pub in_second : at < length b
  pub differs : (d : T) → eq (get_or a at d) (get_or b at d) ≡ false
  pub before : (k : ℕ) (d : T) → k < at → eq (get_or a k d) (get_or b k d) ≡ true

module _ {T : Type 0} (eq : T → T → Bool) where
  -- what two lists clash at is the first index at which they differ
  abbrev pub ClashIsFirst : Type 0
  ClashIsFirst = (a b : List T) (at : ℕ) → differ_at eq a b ≡ Some at → IsFirstDifference eq a b at

  -- two that don't clash begin one with the other
  abbrev pub CompatibleIsPrefix : Type 0
  CompatibleIsPrefix = (a b : List T) → differ_at eq a b ≡ None → IsPrefix eq a b ⊎ IsPrefix eq b a

  -- where the second begins with the first they don't clash, and the join is the second
  abbrev pub TakesLonger : Type 0
  TakesLonger = (a b : List T) → IsPrefix eq a b → (differ_at eq a b ≡ None) × AreEqual eq (longer a b) b

  -- where the first begins with the second they don't clash, and the join is the first
  abbrev pub KeepsLonger : Type 0
  KeepsLonger = (a b : List T) → IsPrefix eq b a → (differ_at eq a b ≡ None) × (longer a b ≡ a)
