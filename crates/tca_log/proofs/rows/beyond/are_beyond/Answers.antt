use Rattle.std.proofs.lemmas.Grind.{common_steps}
use Rattle.std.proofs.lemmas.List.{append-nil}
use Rattle.std.proofs.Common.{◌≡◌, ◌∙◌, ◌++◌, ◌∷◌, [], Bool, map, not, sym, ap, subst, arith, append_assoc}
use Rattle.tca_join.specs.Sets.{has}
use Rattle.tca_log.proofs.OrderedRows.Passing.{ArePassing, passing_next}
use Rattle.tca_log.proofs.rows.beyond.are_beyond.Goals as goal

pub loop-key-preserved : goal.loop-key-preserved
loop-key-preserved g c =
    let R = g.K.Ord.cmp in
    let rows = c.args.rows.now.rows in
    let f = λ (q : g.row.K.Denot). not (has R rows q) in
    let beyond = c.loop-key.beyond.items in
    let was = subst (λ l. ArePassing R l rows c.loop-key.finder) c.in-Some.ensures.steps c.loop-key.invariant.passing in
    let one : not c.has.result ≡ f c.in-Some.key.now = ap not (c.has.ensures.there ∙ was.same.0) in
    rw c.in_ok-push.ensures.items (record {
      passing = passing_next R g.met.K.Ord.total c.in-Some.key.now c.next.new.self rows c.loop-key.finder c.has.new.self was c.has.ensures.rises c.has.ensures.later;
      so_far =
          append_assoc beyond (not c.has.result ∷ []) (map f c.next.new.self)
          ∙ ap (λ (b : Bool). beyond ++ b ∷ map f c.next.new.self) one
          ∙ ap (λ l. beyond ++ map f l) (sym c.in-Some.ensures.steps)
          ∙ c.loop-key.invariant.so_far;
    })

pub returns : goal.returns
returns g c =
    let R = g.K.Ord.cmp in
    let f = λ (q : g.row.K.Denot). not (has R c.args.rows.now.rows q) in
    let beyond = c.loop-key.beyond.items in
    sym (append-nil beyond) ∙ ap (λ l. beyond ++ map f l) (sym c.in-None.ensures.steps.0) ∙ c.loop-key.invariant.so_far

pub has-requires : goal.has-requires
has-requires g c = grind (arith, common_steps)
