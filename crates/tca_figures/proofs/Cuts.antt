-- Where octets are cut at line feeds.
use Rattle.std.proofs.Common.{◌≡◌, ◌<◌, ◌≤◌, ◌+◌, ◌-◌, ◌++◌, ◌∷◌, [], ℕ, suc, List, true, false, Bool, length, take, drop, get_or, arith, subst, sym, ap, refl, ◌∙◌, add-one, zero}
use Rattle.std.specs.Prelude.{slice_get, Some, ◌==◌}
use Rattle.std.specs.List.{All}
use Rattle.std.proofs.Math.Seq.{split_at}
use Rattle.std.proofs.lemmas.List.{append-nil, length-append, get_or-take, length-take-le, length-drop, take_all}
use Rattle.std.proofs.Math.Seq.{take-append-add, take-append_seam}
use Rattle.std.proofs.lemmas.Option.{none-some}
use Rattle.std.proofs.lemmas.List.Elements.{All-from_get_or}
use Rattle.std.proofs.lemmas.List.Splits.{length-slice_split, slice_split_at, slice_split_none}
use Rattle.tca_figures.specs.inside.Progress.{Follow, Follows, Progress}
use Rattle.tca_figures.specs.Reading.{parts, whole_lines}

not_true : (b : Bool) → (b ≡ true → ⊥) → b ≡ false
not_true true h = absurd (h refl)
not_true false h = refl

-- the first part ends at the first line feed
pub first_part : (octets : List ℕ) (at : ℕ) → at < length octets → (get_or octets at 0 == 10) ≡ true
    → ((i : ℕ) → 0 ≤ i → i < at → (get_or octets i 0 == 10) ≡ true → ⊥)
    → parts octets ≡ take at octets ∷ parts (take (length octets - (at + 1)) (drop (at + 1) octets))
first_part octets at here feed before =
    let none : All (λ octet. (octet == 10) ≡ false) (take at octets)
    = All-from_get_or (λ octet. (octet == 10) ≡ false) (take at octets) 0
    (λ i h. let short : i < at = omega (arith, h, length-take-le at octets (omega (arith, here))) in
    rw (get_or-take at octets i 0 short) (not_true _ (before i (omega arith) short))) in
    let behind : drop (suc at) octets ≡ take (length octets - (at + 1)) (drop (at + 1) octets)
    = rw (take_all (length octets - (at + 1)) (drop (at + 1) octets) (omega (arith, length-drop (at + 1) octets)), add-one at) refl in
    ap parts (split_at octets at 0 here)
    ∙ (slice_split_at (λ octet. octet == 10) (take at octets) (get_or octets at 0) (drop (suc at) octets) none feed
    ∙ ap (λ z. take at octets ∷ parts z) behind)

-- octets without a line feed are one part
pub only_part : (octets : List ℕ) → ((i : ℕ) → 0 ≤ i → i < length octets → (get_or octets i 0 == 10) ≡ true → ⊥) → parts octets ≡ octets ∷ []
only_part octets none = slice_split_none (λ octet. octet == 10) octets
    (All-from_get_or (λ octet. (octet == 10) ≡ false) octets 0 (λ i h. not_true _ (none i (omega arith) h)))

-- one line more
pub follow_on : (p : Progress) (lines : List (List ℕ)) (q : Progress) (line : List ℕ) (r : Progress) → Follow p lines q → Follows q line r → Follow p (lines ++ line ∷ []) r
unfolding Follow
follow_on p [] q line r f h = (r, subst (λ z. Follows z line r) f h, refl)
follow_on p (first ∷ lines) q line r f h = (f.0, f.1, follow_on f.0 lines q line r f.2 h)

-- and one line less
pub follow_back : (p : Progress) (lines : List (List ℕ)) (line : List ℕ) (r : Progress) → Follow p (lines ++ line ∷ []) r → (q : Progress) × Follow p lines q × Follows q line r
unfolding Follow
follow_back p [] line r f = (p, refl, subst (Follows p line) (sym f.2) f.1)
follow_back p (first ∷ lines) line r f = let g = follow_back f.0 lines line r f.2 in (g.0, (f.0, f.1, g.1), g.2)

-- a list that isn't empty has a first member
pub nonempty : {X : Type 0} (xs : List X) → 0 < length xs → (x : X) × (others : List X) × (xs ≡ x ∷ others)
nonempty [] h = absurd (omega (arith, h))
nonempty (x ∷ others) h = (x, others, refl)

-- there is a part
pub some_part : (octets : List ℕ) → (part : List ℕ) × (more : List (List ℕ)) × (parts octets ≡ part ∷ more)
some_part octets = nonempty (parts octets) (omega (arith, length-slice_split (λ octet. octet == 10) octets))

-- the first member behind those in front
pub at_seam : {X : Type 0} (xs : List X) (y : X) (ys : List X) → slice_get (xs ++ y ∷ ys) (length xs) ≡ Some y
at_seam [] y ys = refl
at_seam (x ∷ xs) y ys = at_seam xs y ys

-- the lines where a part stands between those in front of it and those behind
pub lines_are : (octets : List ℕ) (lines : List (List ℕ)) (line part : List ℕ) (more : List (List ℕ)) → parts octets ≡ lines ++ (line ∷ part ∷ more)
    → whole_lines octets ≡ lines ++ (line ∷ take (length more) (part ∷ more))
lines_are octets lines line part more e =
    let one_more : 1 + length more ≡ suc (length more) = omega arith in
    let count : length (lines ++ (line ∷ part ∷ more)) - 1 ≡ length lines + (1 + length more) = omega (arith, length-append lines (line ∷ part ∷ more)) in
    rw (e, count) (take-append-add lines (line ∷ part ∷ more) (1 + length more) ∙ ap (λ n. lines ++ take n (line ∷ part ∷ more)) one_more)

pub same_line : (a b : List ℕ) → Some a ≡ Some b → a ≡ b
same_line a b e = cc

-- lines that follow one another, cut at one of them
pub follow_cut : (p : Progress) (lines : List (List ℕ)) (q : Progress) (k : ℕ) (line : List ℕ) → Follow p lines q → slice_get lines k ≡ Some line
    → (m : Progress) × (n : Progress) × Follow p (take k lines) m × Follows m line n × Follow n (drop (suc k) lines) q
unfolding Follow
follow_cut p [] q k line f e = absurd (none-some line e)
follow_cut p (first ∷ lines) q zero line f e = (p, f.0, refl, subst (λ z. Follows p z f.0) (same_line first line e) f.1, f.2)
follow_cut p (first ∷ lines) q (suc k) line f e = let g = follow_cut f.0 lines q k line f.2 e in (g.0, g.1, (f.0, f.1, g.2), g.3, g.4)

-- lines in front of all parts, and the next one
pub front_lines : (octets : List ℕ) (lines : List (List ℕ)) (line behind : List ℕ) → parts octets ≡ lines ++ (line ∷ parts behind)
    → (take (length lines) (whole_lines octets) ≡ lines) × (slice_get (whole_lines octets) (length lines) ≡ Some line) × (length lines < length (whole_lines octets))
front_lines octets lines line behind e =
    let some = some_part behind in
    let whole = lines_are octets lines line some.0 some.1 (e ∙ ap (λ z. lines ++ (line ∷ z)) some.2) in
    (rw whole (take-append_seam lines _), rw whole (at_seam lines line _), rw whole (omega (arith, length-append lines (line ∷ take (length some.1) (some.0 ∷ some.1)))))

-- all lines, where the last part is what remains
pub all_lines : (octets : List ℕ) (lines : List (List ℕ)) (rest : List ℕ) → parts octets ≡ lines ++ (rest ∷ []) → whole_lines octets ≡ lines
all_lines octets lines rest e =
    let count : length (lines ++ (rest ∷ [])) - 1 ≡ length lines + 0 = omega (arith, length-append lines (rest ∷ [])) in
    rw (e, count) (take-append-add lines (rest ∷ []) 0 ∙ append-nil lines)
