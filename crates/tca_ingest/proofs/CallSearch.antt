-- A close goes through passes, and through the calls of a pass, one by one.
use Rattle.std.proofs.Common.{◌≡◌, ℕ, suc, ◌+◌, ◌<◌, ◌≤◌, Some, List, [], ◌∷◌, ◌++◌, length, take, drop, get_or, slice_get, refl, sym, ap, ◌∙◌, subst, append_assoc, arith}
use Rattle.std.proofs.lemmas.List.{append-nil, take-append-drop}
use Rattle.tca_gossip.proofs.AbsorbSteps.{cut}
use Rattle.tca_gossip.proofs.TakeSteps.{take_next}
use Rattle.tca_ingest.specs.Entries.{EntryView}
use Rattle.tca_ingest.specs.Passes.{PassView, AllOwned, AreAtFrom, IsDiffering, IsOwned, count_of}
use Rattle.tca_ingest.proofs.Finding.{at_more, next_place}

owned_end : (journal : List EntryView) (before front : List PassView) (p : PassView) → AllOwned journal before front → IsOwned journal (before ++ front) p → AllOwned journal before (front ++ p ∷ [])
unfolding AllOwned
owned_end journal before [] p h own = (subst (λ bs. IsOwned journal bs p) (append-nil before) own, tt)
owned_end journal before (q ∷ front) p h own = (h.0, owned_end journal (before ++ q ∷ []) front p h.1 (subst (λ bs. IsOwned journal bs p) (sym (append_assoc before (q ∷ []) front)) own))

module _ (journal : List EntryView) (passes : List PassView) (i : ℕ) (p : PassView) (h : i < length passes) (is : p ≡ get_or passes i p) (so_far : AllOwned journal [] (take i passes)) where
  -- a pass more that owns its entries
  pub owned_more : IsOwned journal (take i passes) p → AllOwned journal [] (take (i + 1) passes)
  owned_more own = subst (AllOwned journal []) (sym (take_next passes i p h is)) (owned_end journal [] (take i passes) p so_far own)

  -- the first that doesn't
  pub differing_at : count_of passes ≡ length journal → (IsOwned journal (take i passes) p → ⊥) → IsDiffering journal passes p.number
  differing_at count differs = record {
    before = take i passes;
    at = p;
    rest = drop (i + 1) passes;
    split = sym (take-append-drop i passes) ∙ ap (λ (l : List PassView). take i passes ++ l) (cut passes i p h is);
    number = refl;
    count = count;
    owned = so_far;
    differs = differs;
  }

-- a call more that is found at a place past those of the calls before
pub found_more : (journal calls : List EntryView) (places : List ℕ) (i place : ℕ) (e : EntryView) → i < length calls → i < length places → e ≡ get_or calls i e → place ≡ get_or places i place → AreAtFrom 0 (take i places) journal (take i calls) → next_place 0 (take i places) ≤ place → slice_get journal place ≡ Some e
    → AreAtFrom 0 (take (i + 1) places) journal (take (i + 1) calls)
found_more journal calls places i place e h k is there so_far later at =
    let more : AreAtFrom 0 (take i places ++ place ∷ []) journal (take i calls ++ e ∷ []) = at_more 0 (take i places) journal (take i calls) place e so_far later at in
    subst (λ ps. AreAtFrom 0 ps journal (take (i + 1) calls)) (sym (take_next places i place k there)) (subst (AreAtFrom 0 (take i places ++ place ∷ []) journal) (sym (take_next calls i e h is)) more)

-- and where the next one may be
next_end : (low : ℕ) (places : List ℕ) (place : ℕ) → next_place low (places ++ place ∷ []) ≡ place + 1
next_end low [] place = omega arith
next_end low (p ∷ places) place = next_end (suc p) places place

pub next_more : (places : List ℕ) (i place : ℕ) → i < length places → place ≡ get_or places i place → next_place 0 (take (i + 1) places) ≡ place + 1
next_more places i place h is = ap (next_place 0) (take_next places i place h is) ∙ next_end 0 (take i places) place
