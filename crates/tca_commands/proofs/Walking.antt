-- Lists that stand one after another in a log.
use Rattle.std.proofs.Common.{◌≡◌, ◌∙◌, ◌∷◌, ◌++◌, ◌+◌, ◌<◌, ◌≤◌, ℕ, [], List, Option, None, Some, MatchOption, false, length, take, sym, ap, append_assoc, append-nil, slice_index_or}
use Rattle.std.specs.Option.{is_some}
use Rattle.std.specs.List.{flat_map}
use Rattle.std.proofs.lemmas.Grind.{flat_map-append}
use Rattle.std.proofs.lemmas.List.{take_all, take_more}
use Rattle.std.proofs.lemmas.List.Concat.{flat_map-cons}

-- one list more
pub walk_more : {A : Type 0} (lists : List (List A)) (i : ℕ) (x : List A) (all left rest : List A) → i < length lists → x ≡ slice_index_or lists i x → all ≡ flat_map (λ rs. rs) (take i lists) ++ left → left ≡ x ++ rest
    → all ≡ flat_map (λ rs. rs) (take (i + 1) lists) ++ rest
walk_more {A} lists i x all left rest low is so_far next =
    let done = flat_map (λ (rs : List A). rs) (take i lists) in
    let last : flat_map (λ (rs : List A). rs) (x ∷ []) ≡ x = flat_map-cons (λ rs. rs) x [] ∙ append-nil x in
    let grown : flat_map (λ (rs : List A). rs) (take (i + 1) lists) ≡ done ++ x =
    ap (flat_map (λ rs. rs)) (take_more lists i x low ∙ ap (λ (y : List A). take i lists ++ y ∷ []) (sym is)) ∙ flat_map-append (λ rs. rs) (take i lists) (x ∷ []) ∙ ap (λ ys. done ++ ys) last in
    so_far ∙ ap (λ ys. done ++ ys) next ∙ sym (append_assoc done x rest) ∙ ap (λ ys. ys ++ rest) (sym grown)

-- all lists, and none is left
pub walk_all : {A : Type 0} (lists : List (List A)) (i : ℕ) (all left : List A) → length lists ≤ i → all ≡ flat_map (λ rs. rs) (take i lists) ++ left → left ≡ [] → flat_map (λ rs. rs) lists ≡ all
walk_all {A} lists i all left past so_far none =
    sym (so_far ∙ ap (λ ys. flat_map (λ (rs : List A). rs) (take i lists) ++ ys) none ∙ append-nil _ ∙ ap (flat_map (λ rs. rs)) (take_all i lists past))

-- a list of which none is left
pub none_left : {A B : Type 0} (view : A → B) (r : Option A) (left rest : List B) → MatchOption r ((left ≡ []) × (rest ≡ [])) (λ x. left ≡ view x ∷ rest) → is_some r ≡ false → left ≡ []
none_left view None left rest steps none = steps.0
none_left view (Some x) left rest steps none = absurd cc

-- what comes next behind the same items is the same
pub next_same : {A : Type 0} (first : List A) (x y : A) (xs ys : List A) → first ++ x ∷ xs ≡ first ++ y ∷ ys → x ≡ y
next_same [] x y xs ys e = cc
next_same (f ∷ first) x y xs ys e = let rest : first ++ x ∷ xs ≡ first ++ y ∷ ys = cc in next_same first x y xs ys rest
