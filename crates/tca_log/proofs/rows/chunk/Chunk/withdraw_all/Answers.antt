use Rattle.std.proofs.Common.{◌≡◌, rules, refl, ap, not, filter, ◌∙◌}
use Rattle.tca_join.specs.Sets.{has}
use Rattle.tca_log.specs.Rows.Ordered.{without_each}
use Rattle.tca_log.specs.contracts.rows.chunk.fn.Chunk.withdraw_all.retain as closure
use Rattle.tca_log.proofs.OrderedRows.Kept.{filter_kept}
use Rattle.tca_log.proofs.rows.chunk.Chunk.withdraw_all.Goals as goal

pub returns : goal.returns
unfolding without_each
returns g c =
    let over : closure.Over = record {
      K = g.row.K;
      A = g.row.A;
      K-Ord = g.K.Ord;
      K-Ord-dict = g.K.Ord-dict;
      K-Eq = g.K.Eq;
      K-Eq-dict = g.K.Eq-dict;
      K-PartialEq = g.K.PartialEq;
      K-PartialEq-dict = g.K.PartialEq-dict;
      K-PartialOrd = g.K.PartialOrd;
      K-PartialOrd-dict = g.K.PartialOrd-dict;
      K-Clone = g.K.Clone;
      K-Clone-dict = g.K.Clone-dict;
      A-Allocator = g.A.Allocator;
      A-Allocator-dict = g.A.Allocator-dict;
      A-Clone = g.A.Clone;
      A-Clone-dict = g.A.Clone-dict;
    } in
    let stays = λ (x : g.row.K.Denot). not (has g.K.Ord.cmp c.args.others.now.rows x) in
    let kept = filter_kept _ stays (λ f. (closure.captures over f).others.now.rows ≡ c.args.others.now.rows) (λ f x b h i k. search rules) _ _ _ refl c.retain.ensures.filtered in
    rw c.copy_shared.ensures.own (kept ∙ ap (filter stays) (c.copy_shared.ensures.rows ∙ c.self.view_is))
