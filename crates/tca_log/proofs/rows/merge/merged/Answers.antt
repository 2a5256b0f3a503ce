use Rattle.std.proofs.Common.{◌≡◌, List, [], ◌∷◌, ◌++◌, length, ap, subst, sym, ◌∙◌, arith}
use Rattle.std.specs.Prelude.{IfOk}
use Rattle.std.specs.List.Sorted.{IsStrictlySortedBy}
use Rattle.tca_log.specs.Rows.Ordered.{put_each}
use Rattle.tca_log.proofs.OrderedRows.Each.{rises_put_each, length-put_each}
use Rattle.tca_log.proofs.OrderedRows.Passing.{AreMerging, merging_next, merging_all}
use Rattle.tca_log.proofs.rows.merge.merged.Goals as goal

pub loop-key-preserved : goal.loop-key-preserved
loop-key-preserved g c =
    let total = put_each g.K.Ord.cmp c.args.news.now.rows c.args.rows.now.rows in
    let was = subst (λ l. AreMerging g.K.Ord.cmp c.loop-key.list.items l c.loop-key.left total) c.in-Some.ensures.steps c.loop-key.invariant in
    let items : c.push.new.self.items ≡ _ = c.in_ok-push.ensures.items ∙ ap (λ (l : List _). l ++ c.in-Some.key.now ∷ []) c.in_ok-move_before.ensures.list in
    merging_next g.K.Ord.cmp g.met.K.Ord.total c.loop-key.list.items c.push.new.self.items c.loop-key.left c.move_before.new.self c.in-Some.key.now c.next.new.self total was items c.in_ok-move_before.ensures.left

pub of_ascending-requires-clause-rises : goal.of_ascending-requires-clause-rises
of_ascending-requires-clause-rises g c =
    let total = put_each g.K.Ord.cmp c.args.news.now.rows c.args.rows.now.rows in
    let was = subst (λ l. AreMerging g.K.Ord.cmp c.loop-key.list.items l c.loop-key.left total) c.in-None.ensures.steps.0 c.loop-key.invariant in
    let all : c.move_all.new.list.items ≡ total = c.in_ok-move_all.ensures ∙ merging_all g.K.Ord.cmp g.met.K.Ord.total c.loop-key.list.items c.loop-key.left total was in
    subst (IsStrictlySortedBy g.K.Ord.cmp) (sym all) (rises_put_each g.K.Ord.cmp g.met.K.Ord.total c.args.news.now.rows c.args.rows.now.rows c.len.ensures.rises)

pub of_ascending-requires-clause-few : goal.of_ascending-requires-clause-few
of_ascending-requires-clause-few g c =
    let total = put_each g.K.Ord.cmp c.args.news.now.rows c.args.rows.now.rows in
    let was = subst (λ l. AreMerging g.K.Ord.cmp c.loop-key.list.items l c.loop-key.left total) c.in-None.ensures.steps.0 c.loop-key.invariant in
    let all : c.move_all.new.list.items ≡ total = c.in_ok-move_all.ensures ∙ merging_all g.K.Ord.cmp g.met.K.Ord.total c.loop-key.list.items c.loop-key.left total was in
    omega (arith, ap length all, length-put_each g.K.Ord.cmp g.met.K.Ord.total c.args.news.now.rows c.args.rows.now.rows c.len-2.ensures.rises c.requires.apart, c.requires.few)

pub returns : goal.returns
returns g c =
    let total = put_each g.K.Ord.cmp c.args.news.now.rows c.args.rows.now.rows in
    let was = subst (λ l. AreMerging g.K.Ord.cmp c.loop-key.list.items l c.loop-key.left total) c.in-None.ensures.steps.0 c.loop-key.invariant in
    let all : c.move_all.new.list.items ≡ total = c.in_ok-move_all.ensures ∙ merging_all g.K.Ord.cmp g.met.K.Ord.total c.loop-key.list.items c.loop-key.left total was in
    subst (λ (l : List _). IfOk c.of_ascending.result (λ o. o.rows ≡ l)) all c.of_ascending.ensures.rows
