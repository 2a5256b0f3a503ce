use Rattle.std.proofs.Common.{◌≡◌, ◌∙◌, ◌+◌, ◌++◌, [], ◌∷◌, List, take, drop, slice_index_or, refl, sym, ap, arith}
use Rattle.std.proofs.lemmas.List.{drop_all, length-take, take_more}
use Rattle.tca_report.specs.report.Reports.{PacketReport}
use Rattle.tca_commands.specs.inside.Together.{left_of}
use Rattle.tca_commands.proofs.TogetherLaws.{one_more}
use Rattle.tca_commands.proofs.together.are_taken.Goals as goal

pub loop-n-init : goal.loop-n-init
unfolding left_of
loop-n-init c = refl

pub loop-n-preserved : goal.loop-n-preserved
loop-n-preserved c =
    let lists = c.args.lists.now in
    let taken = c.args.taken.now in
    let n = c.loop-n.n in
    let list : List PacketReport = c.index-lists-n.result in
    let at = slice_index_or taken n 0 in
    let one : take (n + 1) lists ≡ take n lists ++ list ∷ [] = take_more lists n list c.loop-n-test.true ∙ ap (λ (l : List PacketReport). take n lists ++ l ∷ []) (sym c.index-lists-n.is) in
    let number : take (n + 1) taken ≡ take n taken ++ at ∷ [] = take_more taken n 0 (omega (arith, c.loop-n-test.true, c.requires)) in
    let none : drop at list ≡ [] = drop_all at list (omega (arith, c.if-taken-n.false, c.len.ensures)) in
    ap (λ (ls : List (List PacketReport)). left_of ls (take (n + 1) taken)) one ∙ ap (left_of (take n lists ++ list ∷ [])) number
    ∙ one_more (take n lists) (take n taken) list at (omega (arith, length-take n lists, length-take n taken, c.requires))
    ∙ ap (λ (rs : List PacketReport). left_of (take n lists) (take n taken) ++ rs) none
    ∙ ap (λ (rs : List PacketReport). rs ++ []) c.loop-n.invariant
