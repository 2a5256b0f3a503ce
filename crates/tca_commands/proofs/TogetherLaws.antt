-- Lists that are gone through together, and what is left of them.
use Rattle.std.proofs.Common.{◌≡◌, ◌∙◌, ◌||◌, ◌++◌, ℕ, suc, zero, Some, List, [], ◌∷◌, length, append_assoc, refl, sym, ap, drop, slice_get, slice_set, arith}
use Rattle.std.specs.List.{flat_map}
use Rattle.std.proofs.lemmas.List.{append-nil}
use Rattle.std.specs.Ordering.{eq_by_cmp}
use Rattle.tca_join.specs.Sets.{has}
use Rattle.tca_join.proofs.Sets.{has-append, or_swap}
use Rattle.tca_report.specs.report.Reports.{PacketReport, report_cmp}
use Rattle.tca_report.proofs.lemmas.report.Order.{report_total}
use Rattle.tca_commands.specs.inside.Together.{left_of}

-- where nothing was taken all is left
pub whole : (lists : List (List PacketReport)) → left_of lists [] ≡ flat_map (λ rs. rs) lists
unfolding left_of
whole [] = refl
whole (list ∷ lists) = ap (λ (rs : List PacketReport). list ++ rs) (whole lists)

-- a list of which none was taken is whole
pub one_whole : (lists : List (List PacketReport)) (taken : List ℕ) → left_of lists (taken ++ 0 ∷ []) ≡ left_of lists taken
unfolding left_of
one_whole [] taken = refl
one_whole (list ∷ lists) [] = refl
one_whole (list ∷ lists) (n ∷ taken) = ap (λ (rs : List PacketReport). drop n list ++ rs) (one_whole lists taken)

-- one list more
pub one_more : (lists : List (List PacketReport)) (taken : List ℕ) (list : List PacketReport) (n : ℕ) → length taken ≡ length lists → left_of (lists ++ list ∷ []) (taken ++ n ∷ []) ≡ left_of lists taken ++ drop n list
unfolding left_of
one_more [] [] list n same = append-nil (drop n list)
one_more [] (m ∷ taken) list n same = absurd cc
one_more (l ∷ lists) [] list n same = absurd cc
one_more (l ∷ lists) (m ∷ taken) list n same =
    ap (λ (rs : List PacketReport). drop m l ++ rs) (one_more lists taken list n (omega (arith, same))) ∙ sym (append_assoc (drop m l) (left_of lists taken) (drop n list))

drop_next : (list : List PacketReport) (at : ℕ) (r : PacketReport) → slice_get list at ≡ Some r → drop at list ≡ r ∷ drop (suc at) list
drop_next [] at r is = absurd cc
drop_next (x ∷ list) zero r is = let same : x ≡ r = cc in ap (λ (y : PacketReport). y ∷ list) same
drop_next (x ∷ list) (suc at) r is = drop_next list at r is

-- a report that is the next one of a list, and is taken from it
pub next_taken : (lists : List (List PacketReport)) (taken : List ℕ) (n : ℕ) (list : List PacketReport) (at : ℕ) (r : PacketReport) → slice_get lists n ≡ Some list → slice_get taken n ≡ Some at → slice_get list at ≡ Some r
    → (q : PacketReport) → has report_cmp (left_of lists taken) q ≡ (eq_by_cmp report_cmp q r || has report_cmp (left_of lists (slice_set taken n (suc at))) q)
unfolding left_of has
next_taken [] taken n list at r of_list of_taken is q = absurd cc
next_taken (l ∷ lists) [] n list at r of_list of_taken is q = absurd cc
next_taken (l ∷ lists) (m ∷ taken) zero list at r of_list of_taken is q =
    let same : l ≡ list = cc in
    let place : m ≡ at = cc in
    let next : drop m l ≡ r ∷ drop (suc at) l = ap (λ (k : ℕ). drop k l) place ∙ drop_next l at r (ap (λ (rs : List PacketReport). slice_get rs at) same ∙ is) in
    ap (λ (rs : List PacketReport). has report_cmp (rs ++ left_of lists taken) q) next
next_taken (l ∷ lists) (m ∷ taken) (suc n) list at r of_list of_taken is q =
    has-append report_cmp report_total (drop m l) (left_of lists taken) q
    ∙ ap (λ b. has report_cmp (drop m l) q || b) (next_taken lists taken n list at r of_list of_taken is q)
    ∙ or_swap (has report_cmp (drop m l) q) (eq_by_cmp report_cmp q r) (has report_cmp (left_of lists (slice_set taken n (suc at))) q)
    ∙ ap (λ b. eq_by_cmp report_cmp q r || b) (sym (has-append report_cmp report_total (drop m l) (left_of lists (slice_set taken n (suc at))) q))
