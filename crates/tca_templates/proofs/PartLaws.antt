-- Parts of octets, and numbers in octets, that stand in front of others.
use Rattle.std.proofs.Common.{◌≡◌, ℕ, ◌+◌, ◌≤◌, List, [], ◌∷◌, ◌++◌, length, take, drop, refl, sym, ap, ◌∙◌, arith, append_assoc}
use Rattle.std.proofs.lemmas.List.{length-drop, length-take-le, drop-append-le, take-append-drop}
use Rattle.byteorder.specs.Endian.{big_number}
use Rattle.byteorder.specs.Numbers.{big_from-append}
use Rattle.tca_templates.specs.Parts.{InTurn, BeginsWith}

pub number_front : (n i : ℕ) (own rest : List ℕ) → i + n ≤ length own → big_number n (drop i (own ++ rest)) ≡ big_number n (drop i own)
number_front n i own rest le =
    ap (big_number n) (drop-append-le i own rest (omega arith)) ∙ big_from-append n (drop i own) rest (omega (arith, length-drop i own))

pub number_taken : (n i m : ℕ) (octets : List ℕ) → i + n ≤ m → m ≤ length octets → big_number n (drop i (take m octets)) ≡ big_number n (drop i octets)
number_taken n i m octets le within =
    sym (number_front n i (take m octets) (drop m octets) (omega (arith, length-take-le m octets within)))
    ∙ ap (λ xs. big_number n (drop i xs)) (take-append-drop m octets)

-- things that are all of the octets are in front of others
pub turn_begins : {X : Type 0} (Is : X → List ℕ → Type 0) (xs : List X) (own rest : List ℕ) → InTurn Is xs own → BeginsWith Is xs (own ++ rest)
turn_begins Is [] own rest p = tt
turn_begins Is (x ∷ xs) own rest p = record {
  own = p.own;
  rest = p.rest ++ rest;
  whole = ap (λ os. os ++ rest) p.whole ∙ append_assoc p.own p.rest rest;
  is = p.is;
  behind = turn_begins Is xs p.rest rest p.behind;
}

-- the octets of the things in front, and the others
pub record AreInFront {X : Type 0} (Is : X → List ℕ → Type 0) (xs : List X) (octets : List ℕ) : Type 0 where
  pub own : List ℕ
  pub rest : List ℕ
  pub whole : octets ≡ own ++ rest
  pub each : InTurn Is xs own

pub begins_turn : {X : Type 0} (Is : X → List ℕ → Type 0) (xs : List X) (octets : List ℕ) → BeginsWith Is xs octets → AreInFront Is xs octets
begins_turn Is [] octets p = record { own = []; rest = octets; whole = refl; each = refl }
begins_turn Is (x ∷ xs) octets p =
    let r = begins_turn Is xs p.rest p.behind in
    record {
      own = p.own ++ r.own;
      rest = r.rest;
      whole = p.whole ∙ ap (λ os. p.own ++ os) r.whole ∙ sym (append_assoc p.own r.own r.rest);
      each = record { own = p.own; rest = r.own; whole = refl; is = p.is; behind = r.each };
    }
