-- What a reader has left, where it is known.
use Rattle.std.proofs.Common.{◌≡◌, List, [], ◌++◌, Option, Some, None, ℕ, refl, sym, ap, ◌∙◌, append-nil, ◌≤◌, length, take, drop, take_all, arith}
use Rattle.std.proofs.lemmas.List.{take-append-le}
use Rattle.std.specs.Io.KnownBytes.{Consumes, IsAtEnd}

same_list : (a b : List ℕ) → Some a ≡ Some b → a ≡ b
same_list a b e = cc

-- what was read stood in front of what is left
pub read_on : (x y : Option (List ℕ)) (rest octets : List ℕ) → x ≡ Some rest → Consumes x y octets → (behind : List ℕ) × (y ≡ Some behind) × (rest ≡ octets ++ behind)
read_on None y rest octets e h = absurd cc
read_on (Some xs) None rest octets e h = absurd h
read_on (Some xs) (Some ys) rest octets e h = (ys, refl, sym (same_list xs rest e) ∙ h)

-- at the end nothing was left
pub read_end : (x y : Option (List ℕ)) (rest octets : List ℕ) → x ≡ Some rest → octets ≡ [] → Consumes x y octets → IsAtEnd y → rest ≡ []
read_end None y rest octets e none h at = absurd cc
read_end (Some xs) None rest octets e none h at = absurd h
read_end (Some xs) (Some ys) rest octets e none h at = sym (same_list xs rest e) ∙ h ∙ ap (λ (l : List ℕ). l ++ ys) none ∙ at

-- nothing is left behind what was read
pub whole : (octets done rest : List ℕ) → octets ≡ done ++ rest → rest ≡ [] → done ≡ octets
whole octets done rest e none = sym (e ∙ ap (λ (l : List ℕ). done ++ l) none ∙ append-nil done)

-- the front of what a read has filled
pub same_front : (n size : ℕ) (into old : List ℕ) → n ≤ length into → size ≡ length into → take n (take size (into ++ drop (length into) old)) ≡ take n into
same_front n size into old within e =
    let fits : size ≤ length into = omega (arith, e) in
    ap (take n) (take-append-le size into (drop (length into) old) fits ∙ take_all size into (omega (arith, e)))
