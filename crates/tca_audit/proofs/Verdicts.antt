-- Where two texts differ first.
use Rattle.std.proofs.Common.{◌≡◌, ℕ, ◌<◌, List, length, take, get_or, Option, Some, None, sym, ◌∙◌, arith, inl, inr}
use Rattle.std.specs.Prelude.{min}
use Rattle.std.proofs.lemmas.Bool.{cases_lt}
use Rattle.std.proofs.lemmas.List.{take_all}
use Rattle.std.proofs.lemmas.Option.{slice_get-get_or, slice_get_past}
use Rattle.tca_audit.specs.Audits.{FirstDiffer}

abbrev some : ℕ → Option ℕ
some n = Some n

same_octet : (x y : ℕ) → some x ≡ some y → x ≡ y
same_octet x y e = cc

none_here : (x : ℕ) → some x ≡ None → ⊥
none_here x e = absurd cc

-- at two octets
pub at_octets : (a b : List ℕ) (i : ℕ) → i < length a → i < length b → take i a ≡ take i b → (get_or a i 0 ≡ get_or b i 0 → ⊥) → FirstDiffer a b i
at_octets a b i h k front apart = record {
  inside_first = omega arith;
  inside_second = omega arith;
  same = front;
  differ = λ e. apart (same_octet _ _ (sym (slice_get-get_or a i 0 h) ∙ e ∙ slice_get-get_or b i 0 k));
}

-- or at the end of one
pub at_end : (a b : List ℕ) (n : ℕ) → n ≡ min (length a) (length b) → take n a ≡ take n b → (length a ≡ length b → ⊥) → FirstDiffer a b n
at_end a b n is front apart = record {
  inside_first = omega (arith, is);
  inside_second = omega (arith, is);
  same = front;
  differ = elim (cases_lt n (length a)) [
    | inl more ↦ λ e. none_here (get_or a n 0) (sym (slice_get-get_or a n 0 more) ∙ e ∙ slice_get_past b n (omega (arith, is)))
    | inr end ↦ elim (cases_lt n (length b)) [
      | inl more ↦ λ e. none_here (get_or b n 0) (sym (slice_get-get_or b n 0 more) ∙ sym e ∙ slice_get_past a n (omega (arith, is)))
      | inr both ↦ λ e. apart (omega (arith, is))
    ]
  ];
}

-- or nowhere
pub nowhere : (a b : List ℕ) (n : ℕ) → n ≡ min (length a) (length b) → take n a ≡ take n b → length a ≡ length b → b ≡ a
nowhere a b n is front alike =
    sym (take_all n b (omega (arith, is))) ∙ sym front ∙ take_all n a (omega (arith, is))
