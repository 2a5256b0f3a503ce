-- The laws of the longer of two chains.
use Rattle.std.specs.Prelude.{◌≡◌, ℕ, suc, zero, Option, None, Some, Bool, true, false, cond, List, [], ◌∷◌, length, ◌≤◌}
use Rattle.std.proofs.Common.{refl, ◌∙◌, arith}
use Rattle.std.specs.Cmp.{IsEquivalence}
use Rattle.tca_join.specs.Joins.{IsJoin}
use Rattle.tca_join.specs.Chains.{IsChain, next, differ_at, longer, AreEqual, chain_clash, chain_full, IsSameChain, chain_joined, most_items}

-- they agree where both have items
abbrev Agree : {T : Type 0} → (T → T → Bool) → List T → List T → Type 0
Agree eq [] ys = Unit {0}
Agree eq (x ∷ xs) [] = Unit {0}
Agree eq (x ∷ xs) (y ∷ ys) = (eq x y ≡ true) × Agree eq xs ys

next-none : (o : Option ℕ) → next o ≡ None → o ≡ None
next-none None e = refl
next-none (Some n) e = absurd cc

pub longer_within : {T : Type 0} (limit : ℕ) (a b : List T) → length a ≤ limit → length b ≤ limit → length (longer a b) ≤ limit
longer_within limit [] b p q = q
longer_within limit (x ∷ a) [] p q = p
longer_within zero (x ∷ a) (y ∷ b) p q = absurd (omega arith)
longer_within (suc limit) (x ∷ a) (y ∷ b) p q = let rest = longer_within limit a b (omega arith) (omega arith) in omega (arith, rest)

module _ {T : Type 0} (eq : T → T → Bool) (equiv : IsEquivalence eq) where
  agree : (a b : List T) → differ_at eq a b ≡ None → Agree eq a b
  agree [] b e = tt
  agree (x ∷ a) [] e = tt
  agree (x ∷ a) (y ∷ b) e =
      elim (eq x y) as (λ t. eq x y ≡ t → cond t (next (differ_at eq a b)) (Some 0) ≡ None → (eq x y ≡ true) × Agree eq a b) [
        | true ↦ λ is e. (is, agree a b (next-none (differ_at eq a b) e))
        | false ↦ λ is e. absurd cc
      ] refl e

  agreed : (a b : List T) → Agree eq a b → differ_at eq a b ≡ None
  agreed [] b e = refl
  agreed (x ∷ a) [] e = refl
  agreed (x ∷ a) (y ∷ b) e = rw (e.0, agreed a b e.1) refl

  symm : (x y : T) → eq x y ≡ true → eq y x ≡ true
  symm x y e = equiv.symm y x ∙ e

  trans : (x y z : T) → eq x y ≡ true → eq y z ≡ true → eq x z ≡ true
  trans x y z e f = equiv.congr x y z e ∙ f

  equal_itself : (a : List T) → AreEqual eq a a
  equal_itself [] = tt
  equal_itself (x ∷ a) = (equiv.refl x, equal_itself a)

  equal_back : (a b : List T) → AreEqual eq a b → AreEqual eq b a
  equal_back [] [] h = tt
  equal_back [] (y ∷ b) h = absurd h
  equal_back (x ∷ a) [] h = absurd h
  equal_back (x ∷ a) (y ∷ b) h = (symm x y h.0, equal_back a b h.1)

  equal_through : (a b c : List T) → AreEqual eq a b → AreEqual eq b c → AreEqual eq a c
  equal_through [] [] c h k = k
  equal_through [] (y ∷ b) c h k = absurd h
  equal_through (x ∷ a) [] c h k = absurd h
  equal_through (x ∷ a) (y ∷ b) [] h k = absurd k
  equal_through (x ∷ a) (y ∷ b) (z ∷ c) h k = (trans x y z h.0 k.0, equal_through a b c h.1 k.1)

  alike : (a b x y : List T) → AreEqual eq a x → AreEqual eq b y → Agree eq a b → Agree eq x y × AreEqual eq (longer a b) (longer x y)
  alike [] b [] y h k e = (tt, k)
  alike [] b (x ∷ xs) y h k e = absurd h
  alike (a ∷ as1) b [] y h k e = absurd h
  alike (a ∷ as1) [] (x ∷ xs) [] h k e = (tt, h)
  alike (a ∷ as1) [] (x ∷ xs) (y ∷ ys) h k e = absurd k
  alike (a ∷ as1) (b ∷ bs) (x ∷ xs) [] h k e = absurd k
  alike (a ∷ as1) (b ∷ bs) (x ∷ xs) (y ∷ ys) h k e =
      let rest = alike as1 bs xs ys h.1 k.1 e.1 in
      ((trans x b y (trans x a b (symm a x h.0) e.0) k.0, rest.0), (h.0, rest.1))

  again : (a : List T) → Agree eq a a × AreEqual eq (longer a a) a
  again [] = (tt, tt)
  again (x ∷ a) = let rest = again a in ((equiv.refl x, rest.0), (equiv.refl x, rest.1))

  commutes : (a b : List T) → Agree eq a b → Agree eq b a × AreEqual eq (longer a b) (longer b a)
  commutes [] [] e = (tt, tt)
  commutes [] (y ∷ b) e = (tt, equal_itself (y ∷ b))
  commutes (x ∷ a) [] e = (tt, equal_itself (x ∷ a))
  commutes (x ∷ a) (y ∷ b) e = let rest = commutes a b e.1 in ((symm x y e.0, rest.0), (e.0, rest.1))

  associates : (a b c : List T) → Agree eq a b → Agree eq (longer a b) c → Agree eq b c × Agree eq a (longer b c) × AreEqual eq (longer (longer a b) c) (longer a (longer b c))
  associates [] b c e f = (f, tt, equal_itself (longer b c))
  associates (x ∷ a) [] c e f = (tt, f, equal_itself (longer (x ∷ a) c))
  associates (x ∷ a) (y ∷ b) [] e f = (tt, e, equal_itself (longer (x ∷ a) (y ∷ b)))
  associates (x ∷ a) (y ∷ b) (z ∷ c) e f =
      let rest = associates a b c e.1 f.1 in
      ((trans y x z (symm x y e.0) f.0, rest.0), (e.0, rest.1), (equiv.refl x, rest.2))

  pub chain_laws : IsJoin IsChain (chain_clash eq) chain_full (IsSameChain eq) chain_joined
  chain_laws = record {
    itself = λ a. equal_itself a.items;
    back = λ a b h. equal_back a.items b.items h;
    through = λ a b c h k. equal_through a.items b.items c.items h k;
    stays = λ a b p q e. longer_within most_items a.items b.items p q;
    alike = λ a b x y p q r s h k e. let all = alike a.items b.items x.items y.items h k (agree a.items b.items e.0) in ((agreed x.items y.items all.0, refl), all.1);
    again = λ a p. let all = again a.items in ((agreed a.items a.items all.0, refl), all.1);
    commutes = λ a b p q e. let all = commutes a.items b.items (agree a.items b.items e.0) in ((agreed b.items a.items all.0, refl), all.1);
    associates = λ a b c p q r e f.
        let all = associates a.items b.items c.items (agree a.items b.items e.0) (agree (longer a.items b.items) c.items f.0) in
        ((agreed b.items c.items all.0, refl), (agreed a.items (longer b.items c.items) all.1, refl), all.2);
  }
