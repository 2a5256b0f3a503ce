-- Lists that have one set, one behind another.
use Rattle.std.proofs.Common.{◌≡◌, ◌∙◌, ◌||◌, List, [], ◌∷◌, ◌++◌, append_assoc, sym, ap}
use Rattle.std.specs.List.{flat_map}
use Rattle.std.proofs.lemmas.List.{append-nil}
use Rattle.tca_join.specs.Sets.{has, in_order}
use Rattle.tca_join.proofs.Sets.{has-append, has-in_order}
use Rattle.tca_join.proofs.Merge.{in_order_alike}
use Rattle.tca_report.specs.report.Reports.{PacketReport, report_cmp}
use Rattle.tca_report.proofs.lemmas.report.Order.{report_total, report_exact}
use Rattle.tca_program.specs.Unions.{union_of}

same_members : (xs ys : List PacketReport) → in_order report_cmp xs ≡ in_order report_cmp ys → (q : PacketReport) → has report_cmp xs q ≡ has report_cmp ys q
same_members xs ys same q =
    sym (has-in_order report_cmp report_total xs q) ∙ ap (λ (l : List PacketReport). has report_cmp l q) same ∙ has-in_order report_cmp report_total ys q

both_same : (xs ys zs ws : List PacketReport) → in_order report_cmp xs ≡ in_order report_cmp ys → in_order report_cmp zs ≡ in_order report_cmp ws → in_order report_cmp (xs ++ zs) ≡ in_order report_cmp (ys ++ ws)
both_same xs ys zs ws same more = in_order_alike report_cmp report_total report_exact (xs ++ zs) (ys ++ ws) (λ q.
    has-append report_cmp report_total xs zs q
    ∙ (λ k. same_members xs ys same q k || same_members zs ws more q k)
    ∙ sym (has-append report_cmp report_total ys ws q))

flat_more : (lists : List (List PacketReport)) (list : List PacketReport) → flat_map (λ rs. rs) (lists ++ list ∷ []) ≡ flat_map (λ rs. rs) lists ++ list
flat_more [] list = append-nil list
flat_more (l ∷ lists) list = ap (λ (rs : List PacketReport). l ++ rs) (flat_more lists list) ∙ sym (append_assoc l (flat_map (λ rs. rs) lists) list)

-- one list more, and one with its set more
pub one_more_list : (sets lists : List (List PacketReport)) (set list : List PacketReport) → union_of sets ≡ union_of lists → in_order report_cmp set ≡ in_order report_cmp list → union_of (sets ++ set ∷ []) ≡ union_of (lists ++ list ∷ [])
one_more_list sets lists set list same more =
    ap (in_order report_cmp) (flat_more sets set)
    ∙ both_same (flat_map (λ rs. rs) sets) (flat_map (λ rs. rs) lists) set list same more
    ∙ ap (in_order report_cmp) (sym (flat_more lists list))
