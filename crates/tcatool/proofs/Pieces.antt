-- Octets that go out in pieces, one behind the other.
use Rattle.std.proofs.Common.{◌≡◌, ◌∙◌, ◌+◌, ◌<◌, ℕ, List, [], ◌∷◌, ◌++◌, append_assoc, length, get_or, take, drop, ap, sym, subst, refl, arith}
use Rattle.std.proofs.KnownBytes.{Appends-nil, Appends-trans}
use Rattle.std.specs.List.{flat_map}
use Rattle.std.proofs.lemmas.List.{append-nil, length-append, take-append-drop, take-append-le, take_more}
use Rattle.std.proofs.lemmas.List.Concat.{flat_map-cons}
use Rattle.std.proofs.Math.Seq.{take-append-add}
use Rattle.std.specs.Io.KnownBytes.{Appends}
use Rattle.tca_report.specs.device.Devices.{Rises}
use Rattle.tca_program.specs.Devices.{Device, IsCutOff, Receives}

-- before the first piece
pub nothing_sent : (d : Device) → Receives [] d d
nothing_sent d = record { written = Appends-nil d.written; calm = refl }

-- one piece more
pub more_sent : (a b : List ℕ) (d e f : Device) → Receives a d e → Receives b e f → Receives (a ++ b) d f
more_sent a b d e f p q = record { written = Appends-trans d.written e.written f.written a b p.written q.written; calm = q.calm ∙ p.calm }

-- a piece that is cut off cuts off the whole
pub cut_behind : (whole a b rest : List ℕ) (d e f : Device) → whole ≡ a ++ (b ++ rest) → Receives a d e → IsCutOff b e f → IsCutOff whole d f
cut_behind whole a b rest d e f is p q =
    let part : take (length a + q.count) whole ≡ a ++ take q.count b =
    ap (take (length a + q.count)) is ∙ take-append-add a (b ++ rest) q.count ∙ ap (λ (l : List ℕ). a ++ l) (take-append-le q.count b rest (omega (arith, q.short))) in
    let long : length whole ≡ length a + (length b + length rest) = ap length is ∙ length-append a (b ++ rest) ∙ ap (λ n. length a + n) (length-append b rest) in
    record {
      count = length a + q.count;
      short = omega (arith, long, q.short);
      written = subst (Appends d.written f.written) (sym part) (Appends-trans d.written e.written f.written a (take q.count b) p.written q.written);
      failed = subst (λ n. Rises n f.failures) p.calm q.failed;
    }

-- what one list gives, and behind it what another gives
pub both_give : {A : Type 0} (line : A → List ℕ) (xs ys : List A) → flat_map line (xs ++ ys) ≡ flat_map line xs ++ flat_map line ys
both_give line [] ys = refl
both_give line (x ∷ xs) ys =
    flat_map-cons line x (xs ++ ys) ∙ ap (λ (l : List ℕ). line x ++ l) (both_give line xs ys) ∙ sym (append_assoc (line x) (flat_map line xs) (flat_map line ys))
    ∙ ap (λ (l : List ℕ). l ++ flat_map line ys) (sym (flat_map-cons line x xs))

module _ {A : Type 0} (header : List ℕ) (line : A → List ℕ) (rows : List A) (i : ℕ) (sent buffer : List ℕ) (so_far : sent ++ buffer ≡ header ++ flat_map line (take i rows)) where
  -- the whole, by what went out, what waits and what is left
  pub whole_is : header ++ flat_map line rows ≡ sent ++ (buffer ++ flat_map line (drop i rows))
  whole_is =
      ap (λ (l : List A). header ++ flat_map line l) (sym (take-append-drop i rows))
      ∙ ap (λ (l : List ℕ). header ++ l) (both_give line (take i rows) (drop i rows))
      ∙ sym (append_assoc header (flat_map line (take i rows)) (flat_map line (drop i rows)))
      ∙ ap (λ (l : List ℕ). l ++ flat_map line (drop i rows)) (sym so_far)
      ∙ append_assoc sent buffer (flat_map line (drop i rows))

  -- one row more
  pub one_row : (row : A) → i < length rows → row ≡ get_or rows i row → (piece kept more : List ℕ) → buffer ≡ piece ++ kept → more ≡ kept ++ line row
      → (sent ++ piece) ++ more ≡ header ++ flat_map line (take (i + 1) rows)
  one_row row low is piece kept more parts grows =
      ap (λ (l : List ℕ). (sent ++ piece) ++ l) grows
      ∙ sym (append_assoc (sent ++ piece) kept (line row))
      ∙ ap (λ (l : List ℕ). l ++ line row) (append_assoc sent piece kept ∙ ap (λ (l : List ℕ). sent ++ l) (sym parts) ∙ so_far)
      ∙ append_assoc header (flat_map line (take i rows)) (line row)
      ∙ ap (λ (l : List ℕ). header ++ l) (ap (λ (l : List ℕ). flat_map line (take i rows) ++ l) (sym (one_gives row)) ∙ sym (both_give line (take i rows) (row ∷ [])))
      ∙ ap (λ (l : List A). header ++ flat_map line l) (ap (λ (r : A). take i rows ++ r ∷ []) is ∙ sym (take_more rows i row low))
    where
      one_gives : (r : A) → flat_map line (r ∷ []) ≡ line r
      one_gives r = flat_map-cons line r [] ∙ append-nil (line r)
