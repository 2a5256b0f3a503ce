-- Looking for an element.
use Rattle.std.proofs.Common.{◌≡◌, ℕ, suc, ◌+◌, ◌<◌, ◌≤◌, Bool, true, false, cond, List, length, drop, get_or, map, Option, Some, None, ap, sym, ◌∙◌, arith, add-one, drop-cons}
use Rattle.std.specs.Prelude.{◌==◌, ◌&&◌, option_map}
use Rattle.std.specs.Option.{is_none, option_or}
use Rattle.std.proofs.lemmas.List.{length-drop, nil_from_length}
use Rattle.tca_templates.specs.Records.{FieldView}
use Rattle.tca_templates.specs.Chosen.{first, choice}

abbrev pub asked : ℕ → FieldView → Bool
asked element f = is_none f.enterprise && (f.element == element)

module _ {X : Type 0} (view : X → FieldView) (element : ℕ) (fs : List X) (i : ℕ) where
  pub found_here : (f : X) → i < length fs → f ≡ get_or fs i f → asked element (view f) ≡ true → first element (map view (drop i fs)) ≡ Some (view f).value
  unfolding first
  found_here f lt here e =
      ap (λ (l : List X). first element (map view l)) (drop-cons fs i f lt)
      ∙ ap (λ (x : X). cond (asked element (view x)) (Some (view x).value) (first element (map view (drop (suc i) fs)))) (sym here)
      ∙ ap (λ b. cond b (Some (view f).value) (first element (map view (drop (suc i) fs)))) e

  pub not_here : (f : X) → i < length fs → f ≡ get_or fs i f → asked element (view f) ≡ false → first element (map view (drop i fs)) ≡ first element (map view (drop (i + 1) fs))
  unfolding first
  not_here f lt here e =
      rw (add-one)
      (ap (λ (l : List X). first element (map view l)) (drop-cons fs i f lt)
      ∙ ap (λ (x : X). cond (asked element (view x)) (Some (view x).value) (first element (map view (drop (suc i) fs)))) (sym here)
      ∙ ap (λ b. cond b (Some (view f).value) (first element (map view (drop (suc i) fs)))) e)

  pub nowhere : length fs ≤ i → first element (map view (drop i fs)) ≡ None
  unfolding first
  nowhere le = ap (λ (l : List X). first element (map view l)) (nil_from_length (drop i fs) (omega (arith, length-drop i fs)))

-- looking for one of some elements
pub choice_here : (es : List ℕ) (fs : List FieldView) (i : ℕ) (v : List ℕ) → i < length es → first (get_or es i 0) fs ≡ Some v → choice (drop i es) fs ≡ Some (get_or es i 0, v)
unfolding choice
choice_here es fs i v lt e =
    ap (λ (l : List ℕ). choice l fs) (drop-cons es i 0 lt)
    ∙ ap (λ (o : Option (List ℕ)). option_or (option_map (λ v. (get_or es i 0, v)) o) (choice (drop (suc i) es) fs)) e

pub choice_next : (es : List ℕ) (fs : List FieldView) (i : ℕ) → i < length es → first (get_or es i 0) fs ≡ None → choice (drop i es) fs ≡ choice (drop (i + 1) es) fs
unfolding choice
choice_next es fs i lt e =
    rw (add-one)
    (ap (λ (l : List ℕ). choice l fs) (drop-cons es i 0 lt)
    ∙ ap (λ (o : Option (List ℕ)). option_or (option_map (λ v. (get_or es i 0, v)) o) (choice (drop (suc i) es) fs)) e)

pub choice_nowhere : (es : List ℕ) (fs : List FieldView) (i : ℕ) → length es ≤ i → choice (drop i es) fs ≡ None
unfolding choice
choice_nowhere es fs i le = ap (λ (l : List ℕ). choice l fs) (nil_from_length (drop i es) (omega (arith, length-drop i es)))
