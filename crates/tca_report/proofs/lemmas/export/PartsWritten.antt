-- Octets that go out in parts: what went, and what is left.
use Rattle.std.proofs.Common.{◌≡◌, ℕ, ◌+◌, ◌-◌, ◌<◌, ◌≤◌, List, ◌∷◌, ◌++◌, length, get_or, take, drop, Option, refl, sym, ap, ◌∙◌, arith, append_assoc, length-append}
use Rattle.std.specs.List.{flat_map}
use Rattle.std.specs.Io.KnownBytes.{Appends}
use Rattle.std.proofs.lemmas.List.{take-append-le, drop-append-le, drop-drop, length-drop, at_drop_more}
use Rattle.std.proofs.lemmas.List.Concat.{flat_map-cons}
use Rattle.tca_report.proofs.lemmas.device.KnownBytes.{appends_next}

module _ (whole buffer more : List ℕ) (written n : ℕ) (left : drop written whole ≡ buffer ++ more) (after : written ≤ n) (bound : n ≤ written + length buffer) where
  count : written + (n - written) ≡ n
  count = omega arith

  few : n - written ≤ length buffer
  few = omega arith

  front : take (n - written) (drop written whole) ≡ take (n - written) buffer
  front = rw (left, take-append-le (n - written) buffer more few) refl

  -- the first n octets went, where the buffer's part of them went now
  pub part_went : (a b c : Option (List ℕ)) → Appends a b (take written whole) → Appends b c (take (n - written) buffer) → Appends a c (take n whole)
  part_went a b c before now =
      let next = appends_next a b c whole written (n - written) before (rw front now) in
      rw (← count) next

  -- and the rest of the buffer is left
  pub part_left : drop n whole ≡ drop (n - written) buffer ++ more
  part_left =
      ap (λ (k : ℕ). drop k whole) (sym count) ∙ sym (drop-drop (n - written) written whole)
      ∙ ap (drop (n - written)) left ∙ drop-append-le (n - written) buffer more few

  pub still_within : written ≤ length whole → n ≤ length whole
  still_within within = omega (arith, length-drop written whole, ap length left, length-append buffer more)

-- one more piece is in the buffer
pub one_gathered : {X : Type 0} (f : X → List ℕ) (xs : List X) (i : ℕ) (x : X) (buffer : List ℕ) → i < length xs → x ≡ get_or xs i x → buffer ++ flat_map f (drop i xs) ≡ (buffer ++ f x) ++ flat_map f (drop (i + 1) xs)
one_gathered f xs i x buffer lt e =
    ap (λ l. buffer ++ l) (at_drop_more (flat_map f) xs i x lt ∙ ap (λ y. flat_map f (y ∷ drop (i + 1) xs)) (sym e) ∙ flat_map-cons f x (drop (i + 1) xs))
    ∙ sym (append_assoc buffer (f x) (flat_map f (drop (i + 1) xs)))

-- what is gathered is within the whole
pub all_within : (whole buffer more : List ℕ) (written : ℕ) → drop written whole ≡ buffer ++ more → written ≤ length whole → written + length buffer ≤ length whole
all_within whole buffer more written left within = still_within whole buffer more written (written + length buffer) left (omega arith) (omega arith) within
