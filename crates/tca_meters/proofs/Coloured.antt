-- Colours of a list item by item, and of a list in two parts.
use Rattle.std.proofs.Common.{◌≡◌, ℕ, suc, ◌+◌, ◌<◌, ◌≤◌, List, [], ◌∷◌, ◌++◌, length, get_or, drop, refl, sym, ap, ◌∙◌, add-one}
use Rattle.std.specs.Prelude.{map}
use Rattle.std.proofs.Math.Seq.{drop-cons}
use Rattle.std.proofs.Math.ListN.{drop_of_length-le}
use Rattle.tca_meters.specs.declared.colour.Colour.{Colour}
use Rattle.tca_meters.specs.Packets.{Packet, Rule, answer, coloured}

module _ {S A : Type 0} (rule : Rule S) (packet_of : A → Packet) where
  -- the answer to an item that comes in a state at a time
  abbrev pub answer_to : S → ℕ → A → Colour × S
  answer_to state last item = answer rule state last (packet_of item)

  -- the state and the time after a list
  unfoldable pub reached : S → ℕ → List A → S × ℕ
  reached state last [] = (state, last)
  reached state last (item ∷ items) = reached (answer_to state last item).1 (packet_of item).time items

  pub coloured_of_item : (state : S) (last : ℕ) (items : List A) (i : ℕ) (item : A) → i < length items → item ≡ get_or items i item
      → coloured rule packet_of state last (drop i items) ≡ (item, (answer_to state last item).0) ∷ coloured rule packet_of (answer_to state last item).1 (packet_of item).time (drop (i + 1) items)
  unfolding coloured
  coloured_of_item state last items i item h is =
      let cut : drop i items ≡ item ∷ drop (i + 1) items = rw add-one (drop-cons items i item h ∙ ap (λ (x : A). x ∷ drop (suc i) items) (sym is)) in
      rw cut refl

  pub coloured_of_none : (state : S) (last : ℕ) (items : List A) (i : ℕ) → length items ≤ i → coloured rule packet_of state last (drop i items) ≡ []
  unfolding coloured
  coloured_of_none state last items i h = rw (drop_of_length-le items h) refl

  pub coloured-append : (state : S) (last : ℕ) (xs ys : List A)
      → coloured rule packet_of state last (xs ++ ys) ≡ coloured rule packet_of state last xs ++ coloured rule packet_of (reached state last xs).0 (reached state last xs).1 ys
  unfolding coloured reached
  coloured-append state last [] ys = refl
  coloured-append state last (x ∷ xs) ys =
      ap (λ (cs : List (A × Colour)). (x, (answer_to state last x).0) ∷ cs) (coloured-append (answer_to state last x).1 (packet_of x).time xs ys)

  pub reached-append : (state : S) (last : ℕ) (xs ys : List A) → reached state last (xs ++ ys) ≡ reached (reached state last xs).0 (reached state last xs).1 ys
  unfolding reached
  reached-append state last [] ys = refl
  reached-append state last (x ∷ xs) ys = reached-append (answer_to state last x).1 (packet_of x).time xs ys

  -- no item is left out, added or moved
  pub map-coloured : (state : S) (last : ℕ) (items : List A) → map (λ p. p.0) (coloured rule packet_of state last items) ≡ items
  unfolding coloured
  map-coloured state last [] = refl
  map-coloured state last (x ∷ xs) = ap (λ (ys : List A). x ∷ ys) (map-coloured (answer_to state last x).1 (packet_of x).time xs)
