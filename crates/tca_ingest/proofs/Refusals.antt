-- Passes close a journal exactly where as many entries are given and each pass owns its own, and a close is refused nowhere else.
use Rattle.std.proofs.Common.{◌≡◌, ◌≢◌, ◌↔◌, ℕ, List, [], ◌∷◌, ◌++◌, length, sym, ◌∙◌, subst, append_assoc}
use Rattle.std.proofs.lemmas.List.{append-nil}
use Rattle.std.proofs.lemmas.List.Elements.{recursion_from_All, All-from_recursion}
use Rattle.std.specs.List.{AllByRecursion}
use Rattle.tca_ingest.specs.Entries.{EntryView}
use Rattle.tca_ingest.specs.Passes.{PassView, calls_of, count_of, AreClosing, IsOwned, AllOwned, AreMissing, IsDiffering}
use Rattle.tca_ingest.proofs.Pairs.{Pairwise, pairwise, from_pairwise}

abbrev Its : List EntryView → PassView → Type 0
Its journal p = calls_of p.number journal ≡ p.calls

abbrev Differ : PassView → PassView → Type 0
Differ p q = p.number ≢ q.number

abbrev New : List PassView → PassView → Type 0
New before p = AllByRecursion (λ q. Differ q p) before

new_more : (before : List PassView) (p r : PassView) → New before r → Differ p r → New (before ++ p ∷ []) r
new_more [] p r h d = (d, tt)
new_more (q ∷ before) p r h d = (h.0, new_more before p r h.1 d)

new_less : (before : List PassView) (p r : PassView) → New (before ++ p ∷ []) r → New before r × Differ p r
new_less [] p r h = (tt, h.0)
new_less (q ∷ before) p r h = let rest = new_less before p r h.1 in ((h.0, rest.0), rest.1)

all_more : (before : List PassView) (p : PassView) (ps : List PassView) → AllByRecursion (New before) ps → AllByRecursion (Differ p) ps → AllByRecursion (New (before ++ p ∷ [])) ps
all_more before p [] h d = tt
all_more before p (r ∷ ps) h d = (new_more before p r h.0 d.0, all_more before p ps h.1 d.1)

all_less : (before : List PassView) (p : PassView) (ps : List PassView) → AllByRecursion (New (before ++ p ∷ [])) ps → AllByRecursion (New before) ps × AllByRecursion (Differ p) ps
all_less before p [] h = (tt, tt)
all_less before p (r ∷ ps) h =
    let here = new_less before p r h.0 in
    let rest = all_less before p ps h.1 in
    ((here.0, rest.0), (here.1, rest.1))

owned_from : (journal : List EntryView) (before ps : List PassView) → AllByRecursion (Its journal) ps → AllByRecursion (New before) ps → Pairwise Differ ps → AllOwned journal before ps
unfolding AllOwned
owned_from journal before [] h k w = tt
owned_from journal before (p ∷ ps) h k w = ((h.0, k.0), owned_from journal (before ++ p ∷ []) ps h.1 (all_more before p ps k.1 w.0) w.1)

owned_back : (journal : List EntryView) (before ps : List PassView) → AllOwned journal before ps → AllByRecursion (Its journal) ps × AllByRecursion (New before) ps × Pairwise Differ ps
unfolding AllOwned
owned_back journal before [] h = (tt, tt, tt)
owned_back journal before (p ∷ ps) h =
    let rest = owned_back journal (before ++ p ∷ []) ps h.1 in
    let parts = all_less before p ps rest.1 in
    ((h.0.0, rest.0), (h.0.1, parts.0), (parts.1, rest.2))

all_new : (ps : List PassView) → AllByRecursion (New []) ps
all_new [] = tt
all_new (p ∷ ps) = (tt, all_new ps)

pub closing_owned : (journal : List EntryView) (passes : List PassView) → AreClosing journal passes ↔ ((count_of passes ≡ length journal) × AllOwned journal [] passes)
closing_owned journal passes = (
  (λ is. (is.count, owned_from journal [] passes (recursion_from_All (Its journal) passes is.each) (all_new passes) (pairwise Differ passes is.apart))),
  (λ h. let parts = owned_back journal [] passes h.1 in record { each = All-from_recursion (Its journal) passes parts.0; apart = from_pairwise Differ passes parts.2; count = h.0 }),
)

-- where a close is refused the passes don't close
pub missing_refuses : (journal : List EntryView) (passes : List PassView) (counted given : ℕ) → AreMissing journal passes counted given → AreClosing journal passes → ⊥
missing_refuses journal passes counted given is closes = is.differ (is.in_journal ∙ sym closes.count ∙ sym is.in_passes)

owned_at : (journal : List EntryView) (before front : List PassView) (p : PassView) (rest : List PassView) → AllOwned journal before (front ++ p ∷ rest) → IsOwned journal (before ++ front) p
unfolding AllOwned
owned_at journal before [] p rest h = subst (λ bs. IsOwned journal bs p) (sym (append-nil before)) h.0
owned_at journal before (q ∷ front) p rest h = subst (λ bs. IsOwned journal bs p) (append_assoc before (q ∷ []) front) (owned_at journal (before ++ q ∷ []) front p rest h.1)

pub differing_refuses : (journal : List EntryView) (passes : List PassView) (pass : ℕ) → IsDiffering journal passes pass → AreClosing journal passes → ⊥
differing_refuses journal passes pass is closes =
    is.differs (owned_at journal [] is.before is.at is.rest (subst (AllOwned journal []) is.split ((closing_owned journal passes).0 closes).1))
