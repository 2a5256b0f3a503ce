use Rattle.std.proofs.lemmas.Grind.{common_steps}
use Rattle.std.proofs.Common.{◌≡◌, ℕ, ◌+◌, ◌<◌, List, ◌++◌, length, get_or, drop, append_assoc, sym, ap, ◌∙◌, arith}
use Rattle.std.proofs.lemmas.List.{drop_more}
use Rattle.tca_log.specs.inside.Chunks.{joined}
use Rattle.tca_log.proofs.rows.Rows.listed.Goals as goal

-- one chunk more
more : {K : Type 0} (list new part chunk all : List K) (cs : List (List K)) (i : ℕ) → i < length cs → chunk ≡ get_or cs i chunk → part ≡ chunk → new ≡ list ++ part → list ++ joined (drop i cs) ≡ all → new ++ joined (drop (i + 1) cs) ≡ all
more {K} list new part chunk all cs i inside at same items so_far =
    rw (items, same) (append_assoc list chunk (joined (drop (i + 1) cs)) ∙ ap (λ (l : List K). list ++ l) (ap (λ (l : List K). l ++ joined (drop (i + 1) cs)) at ∙ ap joined (sym (drop_more cs i chunk inside))) ∙ so_far)

pub loop-chunk-preserved : goal.loop-chunk-preserved
loop-chunk-preserved g c =
    more c.loop-chunk.list.items c.extend_from_slice.new.self.items c.rows.result.now c.chunk-item.result c.args.self.now.rows c.deref-chunk-items.result.now c.loop-chunk.chunk-index c.loop-chunk-test.true c.chunk-item.is c.rows.ensures c.in_ok-extend_from_slice.ensures.items c.loop-chunk.invariant

pub returns-in_err-list-clause-rows : goal.returns-in_err-list-clause-rows
returns-in_err-list-clause-rows g c = grind (arith, common_steps)

pub returns-in_err-list-clause-rises : goal.returns-in_err-list-clause-rises
returns-in_err-list-clause-rises g c = grind (arith, common_steps)

pub returns-in_err-list-clause-few : goal.returns-in_err-list-clause-few
returns-in_err-list-clause-few g c = grind (arith, common_steps)

pub loop-chunk-init : goal.loop-chunk-init
loop-chunk-init g c = grind (arith, common_steps)

pub offset_bounds-chunk-items-chunk-index : goal.offset_bounds-chunk-items-chunk-index
offset_bounds-chunk-items-chunk-index g c = grind (arith, common_steps)

pub returns-in_err-extend_from_slice-clause-few : goal.returns-in_err-extend_from_slice-clause-few
returns-in_err-extend_from_slice-clause-few g c = grind (arith, common_steps)

pub returns-clause-rows : goal.returns-clause-rows
returns-clause-rows g c = grind (arith, common_steps)

pub returns-clause-rises : goal.returns-clause-rises
returns-clause-rises g c = grind (arith, common_steps)

pub returns-clause-few : goal.returns-clause-few
returns-clause-few g c = grind (arith, common_steps)
